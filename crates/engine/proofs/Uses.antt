-- What the engine's functions ask and answer at a span.
--   fewer                            its part has no more digits than the window
--   at_slot, at_none                 what is done at its first slot, if it has one
--   happened_slot, happened_none     an event there
--   refused_same                     a refused event leaves the record
use mathlib.Core.Path.{◌≡◌, refl, sym, ap, ◌∙◌}
use mathlib.Core.Bool.{Bool, true, false, cond}
use mathlib.Core.List.{List}
use Prim.Native.Nat.{ℕ, ◌-◌, ◌%◌, ◌≤◌, ◌<◌}
use native.Mathlib.Omega.{arith}
use lib.Dec.{eqb, ltb}
use lib.ListN.{length, get_or, drop, set, length-take}
use lib.Seq.{set-get_or}
use Rattle.std.specs.Prelude.{Some, None, Err}
use Rattle.types.specs.declared.Shape.{Shape}
use Rattle.types.specs.declared.Event.{Event}
use Rattle.types.specs.declared.Window.{Window}
use Rattle.types.specs.declared.Refusal.TheVariants as refusal
use Rattle.meaning.specs.Answers.{Answer}
use Rattle.meaning.specs.Interrupt.{Interrupt}
use Rattle.meaning.specs.Cell.{Cell, decode, encode}
use Rattle.meaning.specs.Rule.{event_answer, is_done}
use Rattle.meaning.proofs.Choices.{cond_true, cond_false}
use Rattle.meaning.proofs.Bytes.{encode-decode}
use Rattle.table_words.specs.Part.{Numbered}
use Rattle.table_spans.specs.declared.Span.{Span}
use Rattle.table_spans.specs.declared.Slot.{Slot}
use Rattle.table_spans.specs.Span.{first_of}
use Rattle.engine.specs.Bank.{part, on_slot, eventful, answer_in, Happened}

-- THE LOOPS
few : (p : Span) (xs : List ℕ) → length (part p xs) ≤ p.end - p.start
few p xs = let l = length-take (p.end - p.start) (drop p.start xs) in omega arith

pub fewer : (w : Window) (p : Span) (xs : List ℕ) (at : ℕ → Interrupt) → p.end - p.start ≤ w.count → Numbered w.count w.first at
    → Numbered (length (part p xs)) w.first at
fewer w p xs at short n x l = n x (let u = few p xs in let v : x < length (part p xs) = l in omega arith)

-- ONE SLOT k, the first of a span
abbrev at_first : Span → Slot
at_first p = record { at = p.start; implemented = eqb (p.implemented % 2) 1 }

abbrev pub slot_cell : Slot → List ℕ → Cell
slot_cell k xs = decode k.implemented (get_or xs k.at 0)

found : (p : Span) (k : Slot) → Some k ≡ first_of p → (ltb p.start p.end ≡ true) × (k ≡ at_first p)
unfolding first_of
found p k h = by (ltb p.start p.end) refl h
  where
    by : (b : Bool) → ltb p.start p.end ≡ b → Some k ≡ cond b (Some (at_first p)) None → (ltb p.start p.end ≡ true) × (k ≡ at_first p)
    by true e z = (e, cc)
    by false e z = cc

nothing_found : (p : Span) → None ≡ first_of p → ltb p.start p.end ≡ false
unfolding first_of
nothing_found p h = by (ltb p.start p.end) refl h
  where
    by : (b : Bool) → ltb p.start p.end ≡ b → None ≡ cond b (Some (at_first p)) None → ltb p.start p.end ≡ false
    by true e z = cc
    by false e z = e

module _ (g : Cell → Cell) (p : Span) (xs : List ℕ) where
  pub at_slot : (k : Slot) → Some k ≡ first_of p → set xs k.at (encode (g (slot_cell k xs))) ≡ on_slot g p xs
  unfolding on_slot
  at_slot k h =
      let f = found p k h in
      ap (λ (z : Slot). set xs z.at (encode (g (slot_cell z xs)))) f.1 ∙ sym (cond_true (ltb p.start p.end) _ _ f.0)

  pub at_none : None ≡ first_of p → xs ≡ on_slot g p xs
  unfolding on_slot
  at_none h = sym (cond_false (ltb p.start p.end) _ _ (nothing_found p h))

-- an event
module _ (s : Shape) (e : Event) (i : Interrupt) where
  pub happened_slot : (p : Span) (xs ys : List ℕ) (a : Answer) (k : Slot) → Some k ≡ first_of p
      → a ≡ event_answer s e i (slot_cell k xs) → ys ≡ set xs k.at (encode (eventful s e i (slot_cell k xs)))
      → Happened s e i p xs a ys
  unfolding answer_in
  happened_slot p xs ys a k l h z =
      let f = found p k l in
      record {
        answered =
            h ∙ (ap (λ (q : Slot). event_answer s e i (slot_cell q xs)) f.1 ∙ sym (cond_true (ltb p.start p.end) _ _ f.0));
        records = z ∙ at_slot (eventful s e i) p xs k l;
      }

  pub happened_none : (p : Span) (xs : List ℕ) → None ≡ first_of p → Happened s e i p xs (Err refusal.Intid) xs
  unfolding answer_in
  happened_none p xs l =
      record {
        answered = sym (cond_false (ltb p.start p.end) _ _ (nothing_found p l));
        records = at_none (eventful s e i) p xs l;
      }

  pub refused_same : (b : Bool) (k : ℕ) (xs : List ℕ) → is_done (event_answer s e i (decode b (get_or xs k 0))) ≡ false
      → xs ≡ set xs k (encode (eventful s e i (decode b (get_or xs k 0))))
  unfolding eventful
  refused_same b k xs h =
      sym (ap (λ (c : Cell). set xs k (encode c)) (cond_false (is_done (event_answer s e i (decode b (get_or xs k 0)))) _ _ h)
      ∙ (ap (set xs k) (encode-decode b (get_or xs k 0)) ∙ set-get_or xs k 0))
