-- Document 01's order of refusals and its table of registers, as laws of `place_of`.
--   width_refused .. unlisted_refused    refusals 2 to 5, each where no earlier one applies, whatever comes after it
--   half_narrow       width 2 beside a register's own offset goes nowhere, and at a register word it is refusal 6
--   res0_reads, res0_left    the Distributor's low words read 0 and ignore writes, for both sides
--   columns           kinds, digits, counts and offsets of the rows hang together as Arm's map has them
--   visible_small     a digit that is read fits its family's bits
use Rattle.std.specs.Prelude.{Ok, Err}
use mathlib.Core.Path.{◌≡◌, refl, ap, ◌∙◌}
use mathlib.Core.Bool.{Bool, true, false, cond, ◌||◌}
use Prim.Native.Nat.{ℕ, ◌+◌, ◌*◌, ◌-◌, ◌%◌, ◌^◌, ◌<◌}
use native.Mathlib.Omega.{arith}
use lib.Dec.{eqb, ltb}
use borrow.Author.Tests.{lt-ltb}
use Rattle.lists.specs.Word.{row}
use Rattle.lists.proofs.Bools.{and_right}
use Rattle.types.specs.declared.Frame.TheVariants.{Dist}
use Rattle.types.specs.declared.Side.{Side}
use Rattle.types.specs.declared.Shape.{Shape}
use Rattle.types.specs.declared.Access.{Access}
use Rattle.types.specs.declared.Family.{Family}
use Rattle.types.specs.declared.Family.TheVariants.{Igroupr, Isenabler, Icenabler, Ispendr, Icpendr, Isactiver, Icactiver, Igrpmodr}
use Rattle.types.specs.declared.Family.TheVariants.{Icfgr}
use Rattle.types.specs.declared.Row.{Row}
use Rattle.types.specs.declared.Place.{Place}
use Rattle.types.specs.declared.Place.TheVariants as place
use Rattle.types.specs.declared.Refusal.{Refusal}
use Rattle.types.specs.declared.Refusal.TheVariants as refusal
use Rattle.meaning.specs.Interrupt.{Interrupt, intid, in_frame, between}
use Rattle.meaning.specs.Cell.{Cell}
use Rattle.meaning.specs.Registers.{row_of, kind_of, bits_of, per_word, low, listed, wide_enough, if_wide, place_of, target_of, names}
use Rattle.meaning.specs.Rule.{write_to, visible, aims, performed}
use Rattle.meaning.specs.Step.{Cells, word_read, read}
use Rattle.meaning.proofs.Homes.{between_low, between_high}
use Rattle.meaning.proofs.Choices.{no_true}
use Rattle.meaning.proofs.Digits.{room, visible_room}
use Rattle.meaning.proofs.Aims.{unaimed_left}

-- THE ORDER
abbrev known : ℕ → Bool
known w = eqb w 2 || eqb w 4

module _ (a : Access) where
  -- 2, whatever the offset
  pub width_refused : known a.width ≡ false → place_of a ≡ Err refusal.Width
  unfolding place_of
  width_refused h = rw h refl

  module _ (w : known a.width ≡ true) where
    -- 3, also above 65535
    pub alignment_refused : eqb (a.offset % a.width) 0 ≡ false → place_of a ≡ Err refusal.Alignment
    unfolding place_of
    alignment_refused h = rw (w, h) refl

    module _ (m : eqb (a.offset % a.width) 0 ≡ true) where
      -- 4, whatever stands at the offset's low bits
      pub offset_refused : 65535 < a.offset → place_of a ≡ Err refusal.Offset
      unfolding place_of
      offset_refused h = rw (w, m, lt-ltb 65535 a.offset h) refl

      module _ (o : ltb 65535 a.offset ≡ false) where
        -- then the aligned word decides, and after it the width
        placed : place_of a ≡ if_wide a.width (a.offset % 4) (listed a.frame (a.offset - a.offset % 4))
        unfolding place_of
        placed = rw (w, m, o) refl

        -- 5, whatever the width
        pub unlisted_refused : (r : Refusal) → listed a.frame (a.offset - a.offset % 4) ≡ Err r → place_of a ≡ Err r
        unlisted_refused r h = placed ∙ ap (if_wide a.width (a.offset % 4)) h

        -- 6
        pub narrow_refused : (p : Place) → listed a.frame (a.offset - a.offset % 4) ≡ Ok p
            → wide_enough a.width (a.offset % 4) p ≡ false → place_of a ≡ Err refusal.Narrow
        narrow_refused p h n =
            placed ∙ (ap (if_wide a.width (a.offset % 4)) h ∙ ap (λ (b : Bool). cond b (Ok p) (Err refusal.Narrow)) n)

-- width 2 beside the offset of a word is too narrow for every register, and at the offset for every one but a message register
pub half_narrow : (p : Place) → wide_enough 2 2 p ≡ false
half_narrow (place.Word r f n) = refl
half_narrow (place.Extended r f n) = refl
half_narrow place.Typer = refl
half_narrow (place.Message g) = refl

-- RES0
module _ (s : Shape) (side : Side) (f : Family) (n : ℕ) (l : low (per_word f * n) ≡ true) where
  pub res0_reads : (cells : Cells) → read s side (target_of (place.Word Dist f n)) cells ≡ 0
  unfolding target_of read word_read row
  res0_reads cells = rw l refl

  empty : (i : Interrupt) → between (per_word f * n) (per_word f * n + cond (low (per_word f * n)) 0 (per_word f)) (intid i) ≡ true → ⊥
  empty i t =
      let b : between (per_word f * n) (per_word f * n + 0) (intid i) ≡ true = rw l at t in
      let lo = between_low (per_word f * n) (per_word f * n + 0) (intid i) b in
      let hi = between_high (per_word f * n) (per_word f * n + 0) (intid i) b in omega arith

  pub res0_left : (v : ℕ) (i : Interrupt) (c : Cell) → performed s (write_to side v (target_of (place.Word Dist f n))) i c ≡ c
  unfolding target_of aims names
  res0_left v i c =
      unaimed_left s (write_to side v (target_of (place.Word Dist f n))) i c (no_true _ (λ t. empty i (and_right (in_frame Dist i) _ t)))

-- THE TABLE: 1,024 INTIDs have words of the Distributor, and 96 of the Redistributor; the extended offsets lie four times as far apart,
-- from 0x1000 on for the families below 0x400 and from 0x3000 on for those above 0xC00
pub record Columns (r : Row) : Type 0 where
  pub digit_bits : r.bits ≡ room r.kind
  pub digits_fill : r.per * r.bits ≡ 32
  pub all_intids : r.per * r.words ≡ 1024
  pub all_extended : r.per * r.extras ≡ 1024
  pub own_intids : r.per * r.redist ≡ 96
  pub extended_at : r.extended ≡ cond (ltb r.base 0x400) (0x1000 + 4 * (r.base - 0x080)) (0x3000 + 4 * (r.base - 0xC00))

sound : {r : Row} → r.bits ≡ room r.kind → r.per * r.bits ≡ 32 → r.per * r.words ≡ 1024 → r.per * r.extras ≡ 1024
    → r.per * r.redist ≡ 96
    → r.extended ≡ cond (ltb r.base 0x400) (0x1000 + 4 * (r.base - 0x080)) (0x3000 + 4 * (r.base - 0xC00)) → Columns r
sound a b c d e f =
    record { digit_bits = a; digits_fill = b; all_intids = c; all_extended = d; own_intids = e; extended_at = f }

pub columns : (f : Family) → Columns (row_of f)
unfolding row_of
columns Igroupr = sound refl refl refl refl refl refl
columns Isenabler = sound refl refl refl refl refl refl
columns Icenabler = sound refl refl refl refl refl refl
columns Ispendr = sound refl refl refl refl refl refl
columns Icpendr = sound refl refl refl refl refl refl
columns Isactiver = sound refl refl refl refl refl refl
columns Icactiver = sound refl refl refl refl refl refl
columns Igrpmodr = sound refl refl refl refl refl refl
columns Icfgr = sound refl refl refl refl refl refl

-- so what is visible of an interrupt fits its digit, in every family
pub visible_small : (s : Shape) (side : Side) (f : Family) (i : Interrupt) (c : Cell) → visible s side (kind_of f) i c < 2 ^ bits_of f
visible_small s side f i c = rw (columns f).digit_bits (visible_room s side i c (kind_of f))
