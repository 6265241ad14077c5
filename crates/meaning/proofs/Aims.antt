-- AT WHOM a deed aims: what it leaves because it does not name it.
--   same_true, same_self    an interrupt is the same as itself and no other
--   unaimed_left    a deed leaves an interrupt at which it does not aim
--   named_here      the interrupts that a window names are its frame's, by their INTID
--   addressed       a message names one shared interrupt
--   zero_quiet      a written 0 of a set or clear family does nothing
--   bit_quiet       so a word with one 1 leaves every interrupt but that one's
use mathlib.Core.Path.{◌≡◌, refl, sym, ap, ◌∙◌}
use mathlib.Core.Bool.{Bool, true, false, cond, not, ◌&&◌, ◌||◌}
use Prim.Native.Nat.{ℕ, ◌+◌, ◌-◌, ◌%◌, ◌≤◌, ◌<◌}
use native.Mathlib.Omega.{arith}
use lib.Dec.{eqb}
use borrow.Author.Tests.{eqb-true, ne_eqb, eq-eqb}
use Rattle.lists.specs.Word.{digit_at}
use Rattle.lists.proofs.Bools.{and_left, and_right, clash}
use Rattle.lists.proofs.Every.{every, every_at}
use Rattle.types.specs.declared.Frame.{Frame}
use Rattle.types.specs.declared.Frame.TheVariants.{Dist, Redist}
use Rattle.types.specs.declared.Side.{Side}
use Rattle.types.specs.declared.Way.TheVariants.{Write}
use Rattle.types.specs.declared.Shape.{Shape}
use Rattle.types.specs.declared.Switch.{Switch}
use Rattle.types.specs.declared.Kind.{Kind}
use Rattle.types.specs.declared.Kind.TheVariants.{Switched}
use Rattle.types.specs.declared.Window.{Window}
use Rattle.meaning.specs.Interrupt.{Interrupt, shared, own, intid, same, interrupt, in_frame, between}
use Rattle.meaning.specs.Cell.{Cell, get, put}
use Rattle.meaning.specs.Registers.{kind_of, bits_of, names}
use Rattle.meaning.specs.Rule.{Deed, write, bit_of, switched, update, reaches, addresses, aims, admits, effect, performed}
use Rattle.meaning.proofs.Choices.{cond_keeps}
use Rattle.meaning.proofs.Cells.{put-get}
use Rattle.meaning.proofs.Homes.{between_low, between_high}

pub same_true : (i j : Interrupt) → same i j ≡ true → i ≡ j
unfolding same
same_true (shared m) (shared n) h = ap shared (eqb-true m n h)
same_true (shared m) (own n) h = absurd (clash h refl)
same_true (own m) (shared n) h = absurd (clash h refl)
same_true (own m) (own n) h = ap own (eqb-true m n h)

pub same_self : (i : Interrupt) → same i i ≡ true
unfolding same
same_self (shared m) = eq-eqb m m refl
same_self (own m) = eq-eqb m m refl

pub unaimed_left : (s : Shape) (d : Deed) (i : Interrupt) (c : Cell) → aims s d i ≡ false → performed s d i c ≡ c
unfolding performed
unaimed_left s d i c h = ap (λ (b : Bool). cond (b && admits s d i c) (effect s d i c) c) h

-- the window's frame, and its INTIDs
in_frame_lem : (r : Frame) (i : Interrupt) → in_frame r i ≡ true → interrupt r (intid i) ≡ i
in_frame_lem Dist (shared m) h = refl
in_frame_lem Dist (own m) h = absurd (clash h refl)
in_frame_lem Redist (shared m) h = absurd (clash h refl)
in_frame_lem Redist (own m) h = refl

module _ (w : Window) (i : Interrupt) (t : names w i ≡ true) where
  pub named_here : interrupt w.frame (intid i) ≡ i
  unfolding names
  named_here = in_frame_lem w.frame i (and_left (in_frame w.frame i) _ t)

  inside : between w.first (w.first + w.count) (intid i) ≡ true
  unfolding names
  inside = and_right (in_frame w.frame i) (between w.first (w.first + w.count) (intid i)) t

  pub named_low : w.first ≤ intid i
  named_low = between_low w.first (w.first + w.count) (intid i) inside

  pub named_high : intid i < w.first + w.count
  named_high = between_high w.first (w.first + w.count) (intid i) inside

pub addressed : (s : Shape) (v : ℕ) (i : Interrupt) → addresses s v i ≡ true → i ≡ shared (v % 8192)
unfolding addresses
addressed s v (shared m) t = ap shared (eqb-true m (v % 8192) (and_right s.mbis (eqb m (v % 8192)) t))
addressed s v (own m) t = absurd (clash t refl)

pub zero_quiet : (s : Shape) (side : Side) (on : Bool) (b : Switch) (d : ℕ) (i : Interrupt) (c : Cell)
    → eqb d 1 ≡ false → update s side (Switched on b) d i c ≡ c
unfolding update switched
zero_quiet s side on b d i c h = ap (λ (x : Bool). put (bit_of b) (cond x on (get (bit_of b) c)) c) h ∙ put-get (bit_of b) c

-- a word of a set or clear family, where the written digit of i is 0
pub word_quiet : (s : Shape) (side : Side) (w : Window) (v : ℕ) (i : Interrupt) (c : Cell) (on : Bool) (b : Switch)
    → kind_of w.family ≡ Switched on b
    → (names w i ≡ true → eqb (digit_at (bits_of w.family) (intid i - w.first) v) 1 ≡ false) → performed s (write side w v) i c ≡ c
unfolding performed aims admits effect
word_quiet s side w v i c on b k z =
    cond_keeps (λ (d : Cell). d) (names w i && reaches s side Write (kind_of w.family) i c) _ c
    (λ t.
    ap (λ (x : Kind). update s side x (digit_at (bits_of w.family) (intid i - w.first) v) i c) k
    ∙ zero_quiet s side on b _ i c (z (and_left (names w i) _ t)))

-- bit x is the only 1 of the 32-bit value v
abbrev only_bit : ℕ → ℕ → Bool
only_bit v x = every (λ j. eqb j x || not (eqb (digit_at 1 j v) 1)) 0 32

other_bit : (v x j : ℕ) → only_bit v x ≡ true → j < 32 → (j ≡ x → ⊥) → eqb (digit_at 1 j v) 1 ≡ false
other_bit v x j h l ne =
    neither (eqb j x) (eqb (digit_at 1 j v) 1) (ne_eqb j x ne) (every_at (λ i. eqb i x || not (eqb (digit_at 1 i v) 1)) 32 h j l)
  where
    neither : (a b : Bool) → a ≡ false → (a || not b) ≡ true → b ≡ false
    neither true b e k = absurd (clash refl e)
    neither false true e k = sym k
    neither false false e k = refl

pub bit_quiet : (s : Shape) (side : Side) (w : Window) (v x : ℕ) (i : Interrupt) (c : Cell) (on : Bool) (b : Switch)
    → kind_of w.family ≡ Switched on b → bits_of w.family ≡ 1 → w.count ≡ 32 → only_bit v x ≡ true
    → same (interrupt w.frame (w.first + x)) i ≡ false → performed s (write side w v) i c ≡ c
bit_quiet s side w v x i c on b k one many only ne = word_quiet s side w v i c on b k zero
  where
    elsewhere : names w i ≡ true → intid i - w.first ≡ x → ⊥
    elsewhere t e =
        let z : w.first + x ≡ intid i = (let lo = named_low w i t in omega arith) in
        clash (ap (λ (j : Interrupt). same j i) (ap (interrupt w.frame) z ∙ named_here w i t) ∙ same_self i) ne

    zero : names w i ≡ true → eqb (digit_at (bits_of w.family) (intid i - w.first) v) 1 ≡ false
    zero t =
        let lo = named_low w i t in
        let hi = named_high w i t in
        rw one (other_bit v x (intid i - w.first) only (omega arith) (elsewhere t))
