-- K1 to K12 hold of the lent tables: the meaning's table of cases, carried over, not proved again.
--   all_present_lem       tables that hold records have every interrupt of the bench, with its record
--   cases_on_tables   each case, on any tables that hold its start
use mathlib.Core.Path.{◌≡◌, refl, sym, ap, ap₂, ◌∙◌, subst}
use mathlib.Core.Bool.{Bool, false, ◌&&◌, and-true}
use mathlib.Core.List.{List, [], ◌∷◌}
use Prim.Native.Nat.{ℕ, ◌+◌, ◌-◌, ◌/◌, ◌%◌, ◌≤◌, ◌<◌}
use native.Mathlib.Omega.{arith}
use lib.ListN.{get_or}
use Rattle.lists.specs.Word.{bit_at}
use Rattle.lists.proofs.Bools.{clash}
use Rattle.types.specs.declared.Frame.{Frame}
use Rattle.types.specs.declared.Frame.TheVariants.{Dist, Redist}
use Rattle.types.specs.declared.Side.{Side}
use Rattle.types.specs.declared.Shape.{Shape}
use Rattle.meaning.specs.Answers.{Answer}
use Rattle.meaning.specs.Interrupt.{Interrupt, shared, own, intid, between}
use Rattle.meaning.specs.Cell.{decode, encode}
use Rattle.meaning.specs.Layout.{Tables, presence_of, presence_words, in_range, Home, slot, home_of, present_at, implemented, cell_of}
use Rattle.meaning.specs.Rule.{Step, act}
use Rattle.meaning.specs.Step.{answer, tables_where, tables_after, stepped}
use Rattle.meaning.specs.Cases.{bench, Records, present, naming, Row, Case, cases, Says, RowsHold, Hold}
use Rattle.meaning.proofs.Bytes.{encode-decode}
use Rattle.meaning.proofs.Choices.{no_true}
use Rattle.meaning.proofs.Homes.{shared_home, own_home, between_in, between_low, between_high}
use Rattle.meaning.proofs.After.{record_of, answer_well, tables_well, well_kept, cells_stepped}
use Rattle.meaning.proofs.Cases.{all_hold}
use Rattle.promises.specs.OnTables.{Holding, OnTables, AllOnTables}

-- EVERY INTERRUPT OF THE BENCH IS PRESENT
narrower : (lo hi top m : ℕ) → hi ≤ top → between lo top m ≡ false → between lo hi m ≡ false
narrower lo hi top m l f =
    no_true (between lo hi m) (λ t. clash (between_in lo top m (between_low lo hi m t) (let u = between_high lo hi m t in omega arith)) f)

module _ (r : Records) (t : Tables) (h : Holding r t) where
  abbrev Here : Interrupt → Home → Type 0
  Here i z = (in_range bench i && present_at t (intid i % 32) z) ≡ in_range bench i

  -- its bit is one of its table's; one that is kept nowhere is out of range
  bit_set : (i : Interrupt) (f : Frame) (k w : ℕ) → w < presence_words f → Here i (slot f k w)
  bit_set i f k w l =
      ap (λ (b : Bool). in_range bench i && b) (h.present_all f w (intid i % 32) l (omega arith)) ∙ and-true (in_range bench i)

  here : (i : Interrupt) → Here i (home_of i)
  unfolding in_range
  here (shared m) =
      shared_home (Here (shared m)) m (λ a b. bit_set (shared m) Dist (m - 32) _ (let l : m / 32 - 1 < 63 = omega arith in l))
      (λ a b. bit_set (shared m) Dist (988 + (m - 4096)) _ (omega arith))
      (λ a b. rw (narrower 32 320 1020 m (omega arith) a, narrower 4096 4224 5120 m (omega arith) b) refl)
  here (own m) =
      own_home (Here (own m)) m (λ a. bit_set (own m) Redist m 0 (let l : 0 < 3 = omega arith in l))
      (λ a b. bit_set (own m) Redist (32 + (m - 1056)) _ (let l : (m - 1024) / 32 < 3 = omega arith in l))
      (λ a b. rw (a, narrower 1056 1088 1120 m (omega arith) b) refl)

  pub all_present_lem : (i : Interrupt) → cell_of bench t i ≡ present r i
  unfolding cell_of implemented present
  all_present_lem i = ap₂ decode (here i) (h.records i)

-- THE CASES, row by row
-- the presence words are never written
unwritten : (s : Shape) (q : Step) (t : Tables) (f : Frame) → presence_of f (tables_after s q t) ≡ presence_of f t
unfolding tables_where
unwritten s q t Dist = refl
unwritten s q t Redist = refl

module _ (r : Records) (q : Step) (t : Tables) (h : Holding r t) where
  abbrev after : Tables
  after = (stepped bench q t).tables

  says : (n v : ℕ) → Says (answer bench q (present r)) n v → Says (stepped bench q t).answered n v
  says n v a =
      let same = answer_well bench q t h.well ∙ ap (answer bench q) (λ z i. all_present_lem r t h i z) in
      subst (λ (x : Answer). Says x n v) (sym same) a

  words : (f : Frame) → presence_of f after ≡ presence_of f t
  words f = ap (presence_of f) (tables_well bench q t h.well) ∙ unwritten bench q t f

  holding : (r' : Records) → ((i : Interrupt) → act bench q i (present r i) ≡ present r' i) → Holding r' after
  unfolding present
  holding r' e =
      record {
        well = well_kept bench q t h.well;
        present_all = λ f w x l k. ap (λ (ws : List ℕ). bit_at (get_or ws w 0) x) (words f) ∙ h.present_all f w x l k;
        records = λ i. sym (record_of bench after i) ∙ (ap encode (cell i) ∙ encode-decode (in_range bench i) (r' i));
      }
    where
      cell : (i : Interrupt) → cell_of bench after i ≡ present r' i
      cell i = cells_stepped bench q t h.well i ∙ (ap (act bench q i) (all_present_lem r t h i) ∙ e i)

carried : (r : Records) (rows : List Row) (t : Tables) → RowsHold r rows → Holding r t → OnTables r rows t
carried r [] t h k = tt
carried r (w ∷ ws) t h k =
    let next = holding r w.step t k (naming w.after r) h.1 in
    let rest = carried (naming w.after r) ws (stepped bench w.step t).tables h.2 next in
    (says r w.step t k w.status w.value h.0, next, rest)

every : (ks : List Case) → Hold ks → AllOnTables ks
every [] h = tt
every (k ∷ ks) h = (λ t q. carried k.start k.rows t h.0 q, every ks h.1)

pub cases_on_tables : (r : Records) (v : ℕ) (side : Side) → AllOnTables (cases r v side)
cases_on_tables r v side = every (cases r v side) (all_hold r v side)
