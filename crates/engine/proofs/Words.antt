-- A REGISTER WORD in its bank: what the engine writes is the rule at every slot of it, what it reads is what the rule shows. The bank is
-- known here by `Spanned` alone.
--   write_meant    the bank after a write
--   read_meant     the word that is read
use mathlib.Core.Path.{◌≡◌, refl, sym, ap, ap₂, ◌∙◌}
use mathlib.Core.Bool.{Bool, true, false, cond, ◌&&◌}
use mathlib.Core.List.{List}
use mathlib.Core.Logic.{◌⊎◌, inl, inr}
use Prim.Native.Nat.{ℕ, ◌+◌, ◌-◌, ◌≤◌, ◌<◌}
use native.Mathlib.Omega.{arith}
use native.Mathlib.Decide.{dec_lt}
use lib.ListN.{length, get_or, drop, length-take, length-drop}
use lib.Seq.{get_or-take, get_or-drop}
use Rattle.lists.specs.Word.{bit_at, digit_at, row}
use Rattle.lists.proofs.Maps.{map_from_part}
use Rattle.lists.proofs.Rows.{row_same, row_cut}
use Rattle.lists.proofs.Bools.{both}
use Rattle.types.specs.declared.Frame.{Frame}
use Rattle.types.specs.declared.Frame.TheVariants.{Dist, Redist}
use Rattle.types.specs.declared.Side.{Side}
use Rattle.types.specs.declared.Way.TheVariants.{Write}
use Rattle.types.specs.declared.Shape.{Shape}
use Rattle.types.specs.declared.Kind.{Kind}
use Rattle.types.specs.declared.Window.{Window}
use Rattle.meaning.specs.Interrupt.{Interrupt, intid, interrupt, in_frame, between}
use Rattle.meaning.specs.Cell.{Cell, decode, encode}
use Rattle.meaning.specs.Layout.{Tables, records_of, lengths_fit, slots, interrupt_at, implemented, cell_of}
use Rattle.meaning.specs.Registers.{kind_of, bits_of, names}
use Rattle.meaning.specs.Rule.{write, reaches, update, visible, aims, admits, effect, performed}
use Rattle.meaning.specs.Step.{column, word_read}
use Rattle.meaning.proofs.Homes.{between_in}
use Rattle.meaning.proofs.Gates.{missing_left, missing_unseen}
use Rattle.meaning.proofs.Aims.{unaimed_left, named_here, named_low, named_high}
use Rattle.meaning.proofs.After.{records_length, cell_present, slot_cell}
use Rattle.record_writes.specs.Touched.{touched}
use Rattle.table_words.specs.Part.{shown_at, gathered, stored_at, stored}
use Rattle.table_spans.specs.declared.Span.{Span}
use Rattle.table_spans.proofs.Spanned.{Spanned}
use Rattle.engine.specs.Bank.{part, word_of, read_in, written_in}
use Rattle.engine.proofs.Banks.{after, same_slot, number_at}

intid_from : (f : Frame) (m x : ℕ) → intid (interrupt f (m + x)) - m ≡ x
intid_from Dist m x = omega arith
intid_from Redist m x = omega arith

in_own_frame : (f : Frame) (m : ℕ) → in_frame f (interrupt f m) ≡ true
in_own_frame Dist m = refl
in_own_frame Redist m = refl

intid_of : (f : Frame) (m : ℕ) → intid (interrupt f m) ≡ m
intid_of Dist m = refl
intid_of Redist m = refl

-- a window names the interrupts from its first on
window_names : (w : Window) (x : ℕ) → x < w.count → names w (interrupt w.frame (w.first + x)) ≡ true
unfolding names
window_names w x l =
    both _ _ (in_own_frame w.frame (w.first + x))
    (ap (between w.first (w.first + w.count)) (intid_of w.frame (w.first + x))
    ∙ between_in w.first (w.first + w.count) (w.first + x) (omega arith) (omega arith))

module _ (s : Shape) (t : Tables) (fit : lengths_fit t ≡ true) (side : Side) (w : Window) (p : Span)
    (sp : Spanned s t w.frame w.first w.count p) where
  abbrev xs : List ℕ
  xs = records_of w.frame t

  abbrev at : ℕ → Interrupt
  at x = interrupt w.frame (w.first + x)

  abbrev kind : Kind
  kind = kind_of w.family

  abbrev bits : ℕ
  bits = bits_of w.family

  -- slot x of the span: its interrupt's cell
  cell_in_lem : (x : ℕ) → x < p.end - p.start → cell_of s t (at x) ≡ decode (bit_at p.implemented x) (get_or xs (p.start + x) 0)
  cell_in_lem x l =
      let i = sp.inside in
      ap (cell_of s t) (sym (sp.here x l))
      ∙ (slot_cell s t w.frame (p.start + x) (omega arith)
      ∙ ap (λ (b : Bool). decode b (get_or xs (p.start + x) 0)) (ap (implemented s t) (sp.here x l) ∙ sp.present x l))

  -- the rule at an interrupt that the window names
  at_named : (v x : ℕ) (c : Cell) → x < w.count → performed s (write side w v) (at x) c ≡ touched s side kind (digit_at bits x v) (at x) c
  unfolding performed aims admits effect touched
  at_named v x c l =
      ap₂ (λ (b : Bool) (y : ℕ). cond (b && reaches s side Write kind (at x) c) (update s side kind (digit_at bits y v) (at x) c) c)
      (window_names w x l) (intid_from w.frame w.first x)

  -- WRITES, inside the span
  inner : (v k : ℕ) → p.start ≤ k → k < p.end
      → stored_at s at (word_of side w p) v (k - p.start) (get_or xs k 0)
      ≡ encode (performed s (write side w v) (interrupt_at w.frame k) (cell_of s t (interrupt_at w.frame k)))
  unfolding stored_at
  inner v k a b =
      let x : ℕ = k - p.start in
      let l : x < p.end - p.start = omega arith in
      let e : p.start + x ≡ k = omega arith in
      let u = sp.short in
      ap (λ (j : ℕ). encode (touched s side kind (digit_at bits x v) (at x) (decode (bit_at p.implemented x) (get_or xs j 0)))) (sym e)
      ∙ (ap (λ (c : Cell). encode (touched s side kind (digit_at bits x v) (at x) c)) (sym (cell_in_lem x l))
      ∙ (ap encode (sym (at_named v x (cell_of s t (at x)) (omega arith)))
      ∙ (ap (λ (i : Interrupt). encode (performed s (write side w v) i (cell_of s t i))) (sym (sp.here x l))
      ∙ ap (λ (j : ℕ). encode (performed s (write side w v) (interrupt_at w.frame j) (cell_of s t (interrupt_at w.frame j)))) e)))

  -- and outside: a slot of no interrupt that the window names, or of a missing one
  module _ (v k : ℕ) (l : k < slots w.frame) (o : (k < p.start) ⊎ (p.end ≤ k)) where
    abbrev J : Interrupt
    J = interrupt_at w.frame k

    apart : (x : ℕ) → x < p.end - p.start → (k < p.start) ⊎ (p.end ≤ k) → p.start + x ≡ k → ⊥
    apart x a (inl z) e = omega arith
    apart x a (inr z) e = omega arith

    gone : (x : ℕ) → x < w.count → J ≡ at x → Dec (x < p.end - p.start) → implemented s t J ≡ false
    gone x a e (yes z) =
        let i = sp.inside in
        let q = sp.ordered in
        absurd (apart x z o (same_slot w.frame (p.start + x) k (omega arith) l (sp.here x z ∙ sym e)))
    gone x a e (no z) = ap (implemented s t) e ∙ sp.missing x (omega arith) a

    named_missing : names w J ≡ true → implemented s t J ≡ false
    named_missing e =
        let lo = named_low w J e in
        let hi = named_high w J e in
        let x : ℕ = intid J - w.first in
        let z : intid J ≡ w.first + x = omega arith in
        gone x (omega arith) (sym (named_here w J e) ∙ ap (interrupt w.frame) z) (dec_lt x (p.end - p.start))

    outer : performed s (write side w v) J (cell_of s t J) ≡ cell_of s t J
    unfolding aims
    outer = by (names w J) refl
      where
        by : (b : Bool) → names w J ≡ b → performed s (write side w v) J (cell_of s t J) ≡ cell_of s t J
        by false e = unaimed_left s (write side w v) J (cell_of s t J) e
        by true e = missing_left s J (cell_of s t J) (write side w v) refl (cell_present s t J ∙ named_missing e)

  pub write_meant : (v : ℕ) → written_in s at side w v p xs ≡ after s (write side w v) t w.frame
  unfolding written_in stored column
  write_meant v =
      let size = records_length t fit w.frame in
      map_from_part (λ k old. encode (performed s (write side w v) (interrupt_at w.frame k) (cell_of s t (interrupt_at w.frame k))))
      (stored_at s at (word_of side w p) v) xs p.start p.end sp.ordered (let i = sp.inside in omega arith) (inner v)
      (λ k l o. let u : k < slots w.frame = rw size at l in ap encode (outer v k u o) ∙ number_at s t fit w.frame k u)

  -- READS
  abbrev shown : ℕ → ℕ
  shown x = visible s side kind (at x) (cell_of s t (at x))

  shown_in : (x : ℕ) → x < p.end - p.start → shown_at s at (word_of side w p) x (get_or (part p xs) x 0) ≡ shown x
  unfolding shown_at
  shown_in x l =
      ap (λ (n : ℕ). visible s side kind (at x) (decode (bit_at p.implemented x) n))
      (get_or-take (p.end - p.start) (drop p.start xs) x 0 l ∙ get_or-drop p.start xs x 0)
      ∙ ap (visible s side kind (at x)) (sym (cell_in_lem x l))

  unseen : (x : ℕ) → p.end - p.start ≤ x → x < w.count → shown x ≡ 0
  unseen x l u = missing_unseen s (at x) (cell_of s t (at x)) side kind (cell_present s t (at x) ∙ sp.missing x l u)

  pub read_meant : read_in s at side w p xs ≡ word_read s side w (cell_of s t)
  unfolding read_in gathered word_read
  read_meant =
      let size = records_length t fit w.frame in
      let n : ℕ = p.end - p.start in
      let cut = length-drop p.start xs in
      let i = sp.inside in
      let q = sp.short in
      let long : length (part p xs) ≡ n = length-take n (drop p.start xs) ∙ omega arith in
      let whole : w.count ≡ n + (w.count - n) = omega arith in
      ap (λ (k : ℕ). row bits k (λ x. shown_at s at (word_of side w p) x (get_or (part p xs) x 0))) long
      ∙ (row_same bits n (λ x. shown_at s at (word_of side w p) x (get_or (part p xs) x 0)) shown shown_in
      ∙ (sym (row_cut bits (w.count - n) n shown (λ x l u. unseen x l (omega arith)))
      ∙ ap (λ (k : ℕ). row bits k shown) (sym whole)))
