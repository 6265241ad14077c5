-- A bank after a deed: the rule's column, and when the deed leaves it.
--   after        the records of a frame after a deed, by the rule
--   bank_left    a deed that leaves the interrupts of a bank leaves the bank
--   unaimed_bank, idle_bank    so does one that aims at none of them
--   same_slot    a slot has one interrupt, and that has one slot
--   one_meant    a deed that aims at one interrupt: the record at its slot, if it has one, and no other
use mathlib.Core.Path.{◌≡◌, refl, sym, ap, ◌∙◌}
use mathlib.Core.Bool.{Bool, true, false}
use mathlib.Core.List.{List}
use Prim.Native.Nat.{ℕ, ◌+◌, ◌%◌, ◌≤◌, ◌<◌}
use native.Mathlib.Omega.{arith}
use native.Mathlib.Decide.{dec_lt}
use native.Mathlib.Nat.{div-one, add-zero}
use lib.Dec.{eqb, ltb}
use lib.ListN.{get_or, set}
use borrow.Author.Tests.{lt-ltb, le-ltb}
use Rattle.lists.specs.Word.{bit_at}
use Rattle.lists.proofs.Maps.{map_from_same, map_from_set}
use Rattle.types.specs.declared.Frame.{Frame}
use Rattle.types.specs.declared.Shape.{Shape}
use Rattle.meaning.specs.Interrupt.{Interrupt, interrupt}
use Rattle.meaning.specs.Cell.{Cell, decode, encode}
use Rattle.meaning.specs.Layout.{Tables, records_of, lengths_fit, slots, slot, home_of, interrupt_at, record_at, implemented, cell_of}
use Rattle.meaning.specs.Rule.{Deed, idle, aims, performed}
use Rattle.meaning.specs.Step.{column}
use Rattle.meaning.proofs.Choices.{cond_true, cond_false}
use Rattle.meaning.proofs.Homes.{slot_home}
use Rattle.meaning.proofs.Sides.{is_clear}
use Rattle.meaning.proofs.Gates.{missing_left}
use Rattle.meaning.proofs.Aims.{unaimed_left}
use Rattle.meaning.proofs.After.{records_length, record_of, cell_present, slot_cell}
use Rattle.table_spans.specs.declared.Span.{Span}
use Rattle.table_spans.proofs.Spanned.{Spanned}
use Rattle.engine.specs.Bank.{cell_in, on_slot}

-- THE RECORDS of a frame after a deed
abbrev pub after : Shape → Deed → Tables → Frame → List ℕ
after s d t f = column (λ i. performed s d i (cell_of s t i)) encode f (records_of f t)

pub same_slot : (f : Frame) (j k : ℕ) → j < slots f → k < slots f → interrupt_at f j ≡ interrupt_at f k → j ≡ k
same_slot f j k l u e =
    let p : slot f j (slot_home f j l).0 ≡ slot f k (slot_home f k u).0 =
    sym (slot_home f j l).1 ∙ (ap home_of e ∙ (slot_home f k u).1)
    in cc

module _ (s : Shape) (t : Tables) (fit : lengths_fit t ≡ true) (f : Frame) where
  -- the number at a slot is its interrupt's
  pub number_at : (k : ℕ) → k < slots f → encode (cell_of s t (interrupt_at f k)) ≡ get_or (records_of f t) k 0
  number_at k l = record_of s t (interrupt_at f k) ∙ ap (record_at t) (slot_home f k l).1

  bank_left : (d : Deed)
      → ((k : ℕ) → k < slots f → performed s d (interrupt_at f k) (cell_of s t (interrupt_at f k)) ≡ cell_of s t (interrupt_at f k))
      → after s d t f ≡ records_of f t
  unfolding column
  bank_left d h =
      map_from_same (λ k old. encode (performed s d (interrupt_at f k) (cell_of s t (interrupt_at f k)))) (records_of f t)
      (λ k l. let u : k < slots f = rw (records_length t fit f) at l in ap encode (h k u) ∙ number_at k u)

  pub unaimed_bank : (d : Deed) → ((k : ℕ) → aims s d (interrupt_at f k) ≡ false) → after s d t f ≡ records_of f t
  unaimed_bank d h = bank_left d (λ k l. unaimed_left s d (interrupt_at f k) (cell_of s t (interrupt_at f k)) (h k))

  pub idle_bank : after s idle t f ≡ records_of f t
  unfolding aims
  idle_bank = unaimed_bank idle (λ k. refl)

bit_0 : (v : ℕ) → bit_at v 0 ≡ eqb (v % 2) 1
unfolding bit_at
bit_0 v = ap (λ (n : ℕ). eqb (n % 2) 1) (div-one v)

-- A DEED THAT AIMS AT ONE INTERRUPT, the one of INTID m
module _ (s : Shape) (t : Tables) (fit : lengths_fit t ≡ true) (f : Frame) (m : ℕ) (p : Span) (sp : Spanned s t f m 1 p) where
  abbrev I : Interrupt
  I = interrupt f m

  first : interrupt f (m + 0) ≡ I
  first = ap (interrupt f) (add-zero m)

  slot_inside : p.start < p.end → p.start < slots f
  slot_inside l = let i = sp.inside in omega arith

  slot_here : p.start < p.end → interrupt_at f p.start ≡ I
  slot_here l = ap (interrupt_at f) (sym (add-zero p.start)) ∙ (sp.here 0 (omega arith) ∙ first)

  pub cell_here : p.start < p.end → cell_of s t I ≡ cell_in p (records_of f t)
  cell_here l =
      ap (cell_of s t) (sym (slot_here l))
      ∙ (slot_cell s t f p.start (slot_inside l)
      ∙ ap (λ (b : Bool). decode b (get_or (records_of f t) p.start 0))
      (ap (implemented s t) (slot_here l ∙ sym first) ∙ (sp.present 0 (omega arith) ∙ bit_0 p.implemented)))

  pub missing_here : p.end ≤ p.start → (cell_of s t I).implemented ≡ false
  missing_here l = cell_present s t I ∙ (ap (implemented s t) (sym first) ∙ sp.missing 0 (omega arith) (omega arith))

  module _ (d : Deed) (no_reset : is_clear d ≡ false) (one : (i : Interrupt) → aims s d i ≡ true → i ≡ I) where
    abbrev left_at : ℕ → Type 0
    left_at k = performed s d (interrupt_at f k) (cell_of s t (interrupt_at f k)) ≡ cell_of s t (interrupt_at f k)

    -- a slot is unchanged, unless it is that of m and has a reason
    other_slot : (k : ℕ) → (interrupt_at f k ≡ I → left_at k) → left_at k
    other_slot k h = by (aims s d (interrupt_at f k)) refl
      where
        by : (b : Bool) → aims s d (interrupt_at f k) ≡ b → left_at k
        by true e = h (one (interrupt_at f k) e)
        by false e = unaimed_left s d (interrupt_at f k) (cell_of s t (interrupt_at f k)) e

    stored : p.start < p.end → set (records_of f t) p.start (encode (performed s d I (cell_of s t I))) ≡ after s d t f
    unfolding column
    stored l =
        let size = records_length t fit f in
        let i = slot_inside l in
        map_from_set (λ k old. encode (performed s d (interrupt_at f k) (cell_of s t (interrupt_at f k)))) (records_of f t) p.start
        (encode (performed s d I (cell_of s t I))) (omega arith)
        (sym (ap (λ (j : Interrupt). encode (performed s d j (cell_of s t j))) (slot_here l)))
        (λ k u ne.
        let w : k < slots f = rw size at u in
        ap encode (other_slot k (λ z. absurd (ne (same_slot f k p.start w i (z ∙ sym (slot_here l)))))) ∙ number_at s t fit f k w)

    nothing_left : p.end ≤ p.start → after s d t f ≡ records_of f t
    nothing_left l =
        bank_left s t fit f d
        (λ k u.
        other_slot k
        (λ z.
        missing_left s (interrupt_at f k) (cell_of s t (interrupt_at f k)) d no_reset
        (ap (λ (j : Interrupt). (cell_of s t j).implemented) z ∙ missing_here l)))

    -- THE LAW
    pub one_meant : on_slot (performed s d I) p (records_of f t) ≡ after s d t f
    unfolding on_slot
    one_meant = by (dec_lt p.start p.end)
      where
        by : Dec (p.start < p.end) → on_slot (performed s d I) p (records_of f t) ≡ after s d t f
        by (yes l) =
            cond_true (ltb p.start p.end) _ _ (lt-ltb p.start p.end l)
            ∙ (ap (λ (c : Cell). set (records_of f t) p.start (encode (performed s d I c))) (sym (cell_here l)) ∙ stored l)
        by (no l) = cond_false (ltb p.start p.end) _ _ (le-ltb p.start p.end (omega arith)) ∙ sym (nothing_left (omega arith))
