-- THE LENT TABLES AFTER A STEP are the rule at every interrupt; and what the rule leaves keeps the number that was lent.
--   slot_cell, slot_number   the interrupt that a slot keeps, and its number there
--   cell_after      each interrupt of the tables after a step is the rule's
--   record_stays    an interrupt that the rule leaves keeps its number, whatever that was
--   rest_stays      what is above a number's eight bits is changed by a reset alone
--   lengths_kept, well_kept    a step leaves the lengths, and so tables that are well-formed
--   answer_well, tables_well   on well-formed tables, the answer and the tables after
use mathlib.Core.Path.{◌≡◌, refl, sym, ap, ◌∙◌}
use mathlib.Core.Bool.{Bool, true, false, ◌&&◌, and-false}
use mathlib.Core.List.{List}
use Prim.Native.Nat.{ℕ, ◌/◌, ◌%◌, ◌<◌, ◌≤◌}
use native.Mathlib.Omega.{arith}
use native.Mathlib.Decide.{dec_lt}
use lib.Dec.{eqb}
use lib.ListN.{length, get_or, get_or-eq_default}
use borrow.Author.Tests.{eqb-true}
use Rattle.lists.proofs.Maps.{length-map_from, at-map_from}
use Rattle.lists.proofs.Bools.{and_left, and_right, clash}
use Rattle.types.specs.declared.Frame.{Frame}
use Rattle.types.specs.declared.Frame.TheVariants.{Dist, Redist}
use Rattle.types.specs.declared.Shape.{Shape}
use Rattle.meaning.specs.Interrupt.{Interrupt, intid}
use Rattle.meaning.specs.Cell.{Cell, decode, encode}
use Rattle.meaning.specs.Layout.{Tables, records_of, presence_of, slots, presence_words, shape_fits, lengths_fit, well_formed, in_range}
use Rattle.meaning.specs.Layout.{Home, slot, nowhere, home_of, interrupt_at, present_at, record_at, implemented, cell_of}
use Rattle.meaning.specs.Rule.{Step, Deed, idle, write, send, happen, clear, deed_of, aims, admits, effect, performed, act}
use Rattle.meaning.specs.Step.{answer, column, tables_where, tables_after, Outcome, stepped}
use Rattle.meaning.proofs.Choices.{cond_true}
use Rattle.meaning.proofs.Bytes.{encode-decode, decode-encode, rest_back}
use Rattle.meaning.proofs.Homes.{home_back, home_past, slot_home}
use Rattle.meaning.proofs.Sides.{is_clear}
use Rattle.meaning.proofs.Gates.{missing_left}
use Rattle.meaning.proofs.Kept.{presence_kept, rest_kept}

-- THE LENGTHS
column_length : (after : Interrupt → Cell) (of : Cell → ℕ) (r : Frame) (xs : List ℕ) → length (column after of r xs) ≡ length xs
unfolding column
column_length after of r xs = length-map_from 0 _ xs

lengths_same : (after : Interrupt → Cell) (t : Tables) → lengths_fit (tables_where after t) ≡ lengths_fit t
unfolding lengths_fit tables_where
lengths_same after t = rw (column_length after encode Dist t.dist, column_length after encode Redist t.redist) refl

pub lengths_kept : (s : Shape) (q : Step) (t : Tables) → lengths_fit (tables_after s q t) ≡ lengths_fit t
lengths_kept s q t = lengths_same (λ i. act s q i (cell_of s t i)) t

pub well_shape : (s : Shape) (t : Tables) → well_formed s t ≡ true → shape_fits s ≡ true
unfolding well_formed
well_shape s t h = and_left (shape_fits s) (lengths_fit t) h

pub well_lengths : (s : Shape) (t : Tables) → well_formed s t ≡ true → lengths_fit t ≡ true
unfolding well_formed
well_lengths s t h = and_right (shape_fits s) (lengths_fit t) h

-- the lengths of well-formed tables
module _ (t : Tables) (fit : lengths_fit t ≡ true) where
  pub records_length : (r : Frame) → length (records_of r t) ≡ slots r
  unfolding lengths_fit
  records_length Dist = eqb-true (length t.dist) (slots Dist) (and_left _ _ fit)
  records_length Redist =
      eqb-true (length t.redist) (slots Redist) (and_left _ _ (and_right (eqb (length t.dist) (slots Dist)) _ fit))

  pub presence_length : (r : Frame) → length (presence_of r t) ≡ presence_words r
  unfolding lengths_fit
  presence_length r = by r
    where
      both_fit : (eqb (length t.dist_presence) 63 && eqb (length t.redist_presence) 3) ≡ true
      both_fit = and_right (eqb (length t.redist) 96) _ (and_right (eqb (length t.dist) 2012) _ fit)

      by : (r : Frame) → length (presence_of r t) ≡ presence_words r
      by Dist = eqb-true (length t.dist_presence) 63 (and_left _ _ both_fit)
      by Redist = eqb-true (length t.redist_presence) 3 (and_right (eqb (length t.dist_presence) 63) _ both_fit)

-- A COLUMN at a slot
column_at : (after : Interrupt → Cell) (of : Cell → ℕ) (r : Frame) (xs : List ℕ) (k : ℕ) → k < length xs
    → get_or (column after of r xs) k 0 ≡ of (after (interrupt_at r k))
unfolding column
column_at after of r xs k h = at-map_from (λ j old. of (after (interrupt_at r j))) xs k h

-- the slot of an interrupt, or past the table, where what is expected is 0
column_home : (after : Interrupt → Cell) (of : Cell → ℕ) (r : Frame) (xs : List ℕ) (k : ℕ) (i : Interrupt) → interrupt_at r k ≡ i
    → (length xs ≤ k → of (after i) ≡ 0) → get_or (column after of r xs) k 0 ≡ of (after i)
column_home after of r xs k i e h = by (dec_lt k (length xs))
  where
    by : Dec (k < length xs) → get_or (column after of r xs) k 0 ≡ of (after i)
    by (yes l) = column_at after of r xs k l ∙ ap (λ (j : Interrupt). of (after j)) e
    by (no l) =
        get_or-eq_default (column after of r xs) 0 (let z = column_length after of r xs in omega arith) ∙ sym (h (omega arith))

-- a missing interrupt that is 0 stays 0
missing_zero : (s : Shape) (d : Deed) (i : Interrupt) (c : Cell) → c.implemented ≡ false → encode c ≡ 0 → encode (performed s d i c) ≡ 0
unfolding performed aims admits effect
missing_zero s d i c h k = by (is_clear d) refl
  where
    cleared : (d : Deed) → is_clear d ≡ true → performed s d i c ≡ decode c.implemented 0
    cleared idle h = absurd (clash h refl)
    cleared (write side w v) h = absurd (clash h refl)
    cleared (send side g v) h = absurd (clash h refl)
    cleared (happen e m) h = absurd (clash h refl)
    cleared clear h = refl

    by : (b : Bool) → is_clear d ≡ b → encode (performed s d i c) ≡ 0
    by true e = ap encode (cleared d e) ∙ encode-decode c.implemented 0
    by false e = ap encode (missing_left s i c d e h) ∙ k

pub record_of : (s : Shape) (t : Tables) (i : Interrupt) → encode (cell_of s t i) ≡ record_at t (home_of i)
unfolding cell_of
record_of s t i = encode-decode (implemented s t i) (record_at t (home_of i))

pub cell_present : (s : Shape) (t : Tables) (i : Interrupt) → (cell_of s t i).implemented ≡ implemented s t i
unfolding cell_of decode
cell_present s t i = refl

-- the interrupt of a slot
pub slot_cell : (s : Shape) (t : Tables) (r : Frame) (k : ℕ) → k < slots r
    → cell_of s t (interrupt_at r k) ≡ decode (implemented s t (interrupt_at r k)) (get_or (records_of r t) k 0)
unfolding cell_of
slot_cell s t r k l = ap (λ (h : Home). decode (implemented s t (interrupt_at r k)) (record_at t h)) (slot_home r k l).1

-- the number at a slot is its interrupt's
pub slot_number : (s : Shape) (t : Tables) (r : Frame) (k : ℕ) → k < slots r
    → encode (cell_of s t (interrupt_at r k)) ≡ get_or (records_of r t) k 0
slot_number s t r k l = record_of s t (interrupt_at r k) ∙ ap (record_at t) (slot_home r k l).1

module _ (s : Shape) (q : Step) (t : Tables) (fit : lengths_fit t ≡ true) where
  abbrev after : Interrupt → Cell
  after i = act s q i (cell_of s t i)

  records_after : (r : Frame) → records_of r (tables_after s q t) ≡ column after encode r (records_of r t)
  unfolding tables_where
  records_after Dist = refl
  records_after Redist = refl

  implemented_after : (i : Interrupt) → implemented s (tables_after s q t) i ≡ implemented s t i
  unfolding implemented tables_where
  implemented_after i = ap (λ (b : Bool). in_range s i && b) (by (home_of i))
    where
      by : (h : Home) → present_at (tables_after s q t) (intid i % 32) h ≡ present_at t (intid i % 32) h
      by (slot Dist k w) = refl
      by (slot Redist k w) = refl
      by nowhere = refl

  -- out of range, or nowhere: missing
  out_missing : (i : Interrupt) → in_range s i ≡ false → (cell_of s t i).implemented ≡ false
  unfolding implemented
  out_missing i h = cell_present s t i ∙ ap (λ (b : Bool). b && present_at t (intid i % 32) (home_of i)) h

  nowhere_missing : (i : Interrupt) → home_of i ≡ nowhere → (cell_of s t i).implemented ≡ false
  unfolding implemented
  nowhere_missing i h =
      cell_present s t i ∙ (ap (λ (x : Home). in_range s i && present_at t (intid i % 32) x) h ∙ and-false (in_range s i))

  -- the column at the home of an interrupt
  record_after : (i : Interrupt) → record_at (tables_after s q t) (home_of i) ≡ encode (after i)
  unfolding act
  record_after i = by (home_of i) refl
    where
      by : (h : Home) → home_of i ≡ h → record_at (tables_after s q t) h ≡ encode (performed s (deed_of q) i (cell_of s t i))
      by (slot r k w) e =
          ap (λ (xs : List ℕ). get_or xs k 0) (records_after r)
          ∙ column_home after encode r (records_of r t) k i (home_back i r k w e)
          (λ l.
          missing_zero s (deed_of q) i (cell_of s t i) (out_missing i (home_past s i r k w e (rw (records_length t fit r) at l)))
          (record_of s t i ∙ (ap (record_at t) e ∙ get_or-eq_default (records_of r t) 0 l)))
      by nowhere e =
          sym (missing_zero s (deed_of q) i (cell_of s t i) (nowhere_missing i e) (record_of s t i ∙ ap (record_at t) e))

  present_after : (i : Interrupt) → implemented s (tables_after s q t) i ≡ (after i).implemented
  unfolding act
  present_after i = implemented_after i ∙ (sym (cell_present s t i) ∙ sym (presence_kept s i (cell_of s t i) (deed_of q)))

  -- THE BRIDGE: each interrupt of the tables after a step is the rule's
  encoded : (i : Interrupt) → cell_of s (tables_after s q t) i ≡ decode (after i).implemented (encode (after i))
  unfolding cell_of
  encoded i = λ z. decode (present_after i z) (record_after i z)

  pub cell_after : (i : Interrupt) → cell_of s (tables_after s q t) i ≡ act s q i (cell_of s t i)
  cell_after i = encoded i ∙ decode-encode (after i)

  -- a slot of the tables after is its interrupt's number
  slot_after : (r : Frame) (k : ℕ) → k < slots r → get_or (records_of r (tables_after s q t)) k 0 ≡ encode (after (interrupt_at r k))
  slot_after r k l =
      ap (λ (xs : List ℕ). get_or xs k 0) (records_after r)
      ∙ column_at after encode r (records_of r t) k (rw (records_length t fit r) l)

  -- UNTOUCHED NUMBERS STAY
  pub record_stays : (r : Frame) (k : ℕ) → k < slots r
      → act s q (interrupt_at r k) (cell_of s t (interrupt_at r k)) ≡ cell_of s t (interrupt_at r k)
      → get_or (records_of r (tables_after s q t)) k 0 ≡ get_or (records_of r t) k 0
  record_stays r k l h = slot_after r k l ∙ (ap encode h ∙ slot_number s t r k l)

  pub rest_stays : is_clear (deed_of q) ≡ false → (r : Frame) (k : ℕ) → k < slots r
      → get_or (records_of r (tables_after s q t)) k 0 / 256 ≡ get_or (records_of r t) k 0 / 256
  unfolding act
  rest_stays c r k l =
      let i = interrupt_at r k in
      ap (λ (n : ℕ). n / 256) (slot_after r k l)
      ∙ (rest_back (performed s (deed_of q) i (cell_of s t i))
      ∙ (rest_kept s i (cell_of s t i) (deed_of q) c
      ∙ (sym (rest_back (cell_of s t i)) ∙ ap (λ (n : ℕ). n / 256) (slot_number s t r k l))))

-- ON WELL-FORMED TABLES
module _ (s : Shape) (q : Step) (t : Tables) (well : well_formed s t ≡ true) where
  stepped_well : stepped s q t ≡ record { answered = answer s q (cell_of s t); tables = tables_after s q t }
  unfolding stepped
  stepped_well = cond_true (well_formed s t) _ _ well

  pub answer_well : (stepped s q t).answered ≡ answer s q (cell_of s t)
  answer_well = ap (λ (o : Outcome). o.answered) stepped_well

  pub tables_well : (stepped s q t).tables ≡ tables_after s q t
  tables_well = ap (λ (o : Outcome). o.tables) stepped_well

  -- a step leaves the tables well-formed
  pub well_kept : well_formed s (stepped s q t).tables ≡ true
  unfolding well_formed
  well_kept =
      ap (λ (u : Tables). shape_fits s && lengths_fit u) tables_well ∙ (ap (λ (b : Bool). shape_fits s && b) (lengths_kept s q t) ∙ well)

  -- each interrupt of the tables that it leaves
  pub cells_stepped : (i : Interrupt) → cell_of s (stepped s q t).tables i ≡ act s q i (cell_of s t i)
  cells_stepped i = ap (λ (u : Tables). cell_of s u i) tables_well ∙ cell_after s q t (well_lengths s t well) i
