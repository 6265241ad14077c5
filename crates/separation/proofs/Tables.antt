-- DEMAND 3 ON THE LENT TABLES: they keep the interrupts, each acted on alone, so the run theorem is theirs.
--   same_for_both          clause 1: two well-formed sets of tables, alike; the same Non-secure and common steps; each its own private ones
--   demand_3               in document 01's words, and in bytes
--   same_answer_for_both   its heart, for one step
--   private_deleted        the private steps of a run can be deleted
--   step_leaves_secure     no Non-secure step changes the number of a Secure or a missing interrupt ..
--   run_leaves_secure      .. nor do those of a run: it ends as the other steps alone make it
--   alone_leaves_secure    .. and on any tables where the run has no other steps
--   same_heard             the answers of both runs are the same list
--   same_record, same_bytes, in_bytes   what is said of interrupts is said of the lent numbers
--   separate, runs_indistinct, deleted_indistinct   the same from tables that the Non-secure side cannot tell apart
use mathlib.Core.Path.{◌≡◌, refl, sym, ap, ap₂, ◌∙◌}
use mathlib.Core.Bool.{Bool, true, false, ◌&&◌}
use mathlib.Core.List.{List, [], ◌∷◌}
use Prim.Native.Nat.{ℕ, ◌<◌}
use native.Mathlib.Omega.{arith}
use lib.ListN.{get_or}
use Rattle.lists.proofs.Bools.{and_left, and_right}
use Rattle.types.specs.declared.Frame.{Frame}
use Rattle.types.specs.declared.Shape.{Shape}
use Rattle.meaning.specs.Interrupt.{Interrupt}
use Rattle.meaning.specs.Cell.{decode, encode, non_secure, owned}
use Rattle.meaning.specs.Layout.{Tables, records_of, slots, interrupt_at, well_formed, implemented, cell_of}
use Rattle.meaning.specs.Rule.{Step}
use Rattle.meaning.specs.Step.{stepped}
use Rattle.meaning.proofs.After.{slot_number, answer_well, well_kept, cells_stepped, well_lengths, cell_after}
use Rattle.promises.specs.Records.{Kept}
use Rattle.promises.proofs.Refused.{by_shape}
use Rattle.promises.proofs.Records.{slot_kept}
use Rattle.separation.specs.Runs.{Item, public, common, private, without_private, publics, others, Plain, heard, sights, ended}
use Rattle.separation.specs.Steps.{NonSecureStep, PrivateStep, CommonStep}
use Rattle.separation.specs.Lent.{controller, Run, AlikeTables, Indistinct, Same, SameBytes, SameInBytes, acted}
use Rattle.separation.proofs.Unwinding.{Unwinds, Keeps, two_runs, run_deleted, plain_same, heard_same, runs_weaker, unwinds}
use Rattle.separation.proofs.Views.{same_owned, same_cell, alike_glimpse}
use Rattle.separation.proofs.Steps.{unowned_left, common_kept}
use Rattle.separation.proofs.Confidential.{watched, confidential}

module _ (s : Shape) where
  pub separate : Unwinds (controller s) (Indistinct s) (λ u. NonSecureStep (cell_of s u)) CommonStep (λ u. PrivateStep s (cell_of s u))
  separate = unwinds (watched s) NonSecureStep CommonStep (PrivateStep s) (confidential s) (controller s) _ (cell_of s) keeps
    where
      keeps : Keeps (watched s) (controller s) (λ t. well_formed s t ≡ true) (cell_of s)
      keeps =
          record {
            stays_good = λ q t h. well_kept s q t h;
            step_cells = λ q t h i. cells_stepped s q t h i;
            see_cells = λ q t h. answer_well s q t h;
          }

  pub runs_indistinct : (t u : Tables) → Indistinct s t u → (r r' : List (Item Step)) → without_private r ≡ without_private r'
      → Run s t r → Run s u r' → Same s t r u r'
  runs_indistinct t u h r r' e k k' = two_runs (controller s) (Indistinct s) _ _ _ separate r r' t u e h k k'

  pub deleted_indistinct : (t u : Tables) → Indistinct s t u → (r : List (Item Step)) → Run s t r
      → Run s u (without_private r) × Same s t r u (without_private r)
  deleted_indistinct t u h r k = run_deleted (controller s) (Indistinct s) _ _ _ separate r t u h k

module _ (s : Shape) (t u : Tables) (h : Indistinct s t u) where
  -- the records of what is owned are the same numbers
  pub same_record : (r : Frame) (k : ℕ) → k < slots r → owned (cell_of s t (interrupt_at r k)) ≡ true
      → get_or (records_of r t) k 0 ≡ get_or (records_of r u) k 0
  same_record r k l o =
      sym (slot_number s t r k l) ∙ (ap encode (same_cell _ _ (h.same (interrupt_at r k)) o) ∙ slot_number s u r k l)

  pub same_bytes : SameBytes s t u
  same_bytes = record { owners = λ r k l. same_owned _ _ (h.same (interrupt_at r k)); bytes = same_record }

-- so the answers of two runs are the same list, and what is said of the runs is said of their bytes
pub same_heard : (s : Shape) (t u : Tables) (r r' : List (Item Step)) → Same s t r u r'
    → heard (sights (controller s) t r) ≡ heard (sights (controller s) u r')
same_heard s t u r r' h = heard_same (Indistinct s) (sights (controller s) t r) (sights (controller s) u r') h.answers

pub in_bytes : (s : Shape) (t u : Tables) (r r' : List (Item Step)) → Same s t r u r' → SameInBytes s t r u r'
in_bytes s t u r r' h = runs_weaker (controller s) (Indistinct s) (SameBytes s) (same_bytes s) t r u r' h

-- CLAUSE 1. Document 01's words give what the run theorem asks.
pub owned_here : (s : Shape) (t : Tables) (i : Interrupt) → owned (cell_of s t i) ≡ (implemented s t i && non_secure (cell_of s t i))
unfolding owned cell_of decode
owned_here s t i = refl

module _ (s : Shape) (t u : Tables) (wt : well_formed s t ≡ true) (wu : well_formed s u ≡ true) (h : AlikeTables s t u) where
  owned_alike : (i : Interrupt) → owned (cell_of s t i) ≡ owned (cell_of s u i)
  owned_alike i = owned_here s t i ∙ (by (implemented s t i) refl ∙ sym (owned_here s u i))
    where
      by : (x : Bool) → implemented s t i ≡ x
          → (implemented s t i && non_secure (cell_of s t i)) ≡ (implemented s u i && non_secure (cell_of s u i))
      by true e = ap₂ ◌&&◌ (h.presence i) (h.grouping i e)
      by false e =
          ap (λ (b : Bool). b && non_secure (cell_of s t i)) e
          ∙ sym (ap (λ (b : Bool). b && non_secure (cell_of s u i)) (sym (h.presence i) ∙ e))

  same_there : (i : Interrupt) → owned (cell_of s t i) ≡ true → cell_of s t i ≡ cell_of s u i
  unfolding cell_of
  same_there i o =
      let both = sym (owned_here s t i) ∙ o in
      ap₂ decode (h.presence i) (h.records i (and_left (implemented s t i) _ both) (and_right (implemented s t i) _ both))

  pub alike_indistinct : Indistinct s t u
  alike_indistinct =
      record {
        first = wt;
        second = wu;
        same = λ i. alike_glimpse (cell_of s t i) (cell_of s u i) (owned_alike i) (same_there i);
      }

  -- every Non-secure answer agrees, and every Non-secure record after every step. Both runs take the same Non-secure steps and the same
  -- common ones, each its own private ones.
  pub same_for_both : (r r' : List (Item Step)) → without_private r ≡ without_private r' → Run s t r → Run s u r' → Same s t r u r'
  same_for_both = runs_indistinct s t u alike_indistinct

  -- document 01's words: nothing is taken in common, and the Non-secure steps are the same
  pub demand_3 : (r r' : List (Item Step)) → Plain r → Plain r' → publics r ≡ publics r' → Run s t r → Run s u r' → SameInBytes s t r u r'
  demand_3 r r' p p' e k k' = in_bytes s t u r r' (same_for_both r r' (plain_same r r' p p' e) k k')

  -- its heart: a Non-secure answer depends on the request, the shape, presence, grouping and Non-secure records, and on nothing else
  pub same_answer_for_both : (q : Step) → NonSecureStep (cell_of s t) q → (stepped s q t).answered ≡ (stepped s q u).answered
  same_answer_for_both q n = (separate s).see_alike q t u alike_indistinct n

pub private_deleted : (s : Shape) (t : Tables) → well_formed s t ≡ true → (r : List (Item Step)) → Run s t r
    → Run s t (without_private r) × Same s t r t (without_private r)
private_deleted s t well = deleted_indistinct s t t (record { first = well; second = well; same = λ i. refl })

-- NO NON-SECURE STEP CHANGES A SECURE RECORD, nor a missing one: on any tables, the number at its slot is what it was ..
pub step_leaves_secure : (s : Shape) (t : Tables) (q : Step) → NonSecureStep (cell_of s t) q → (r : Frame) (k : ℕ) → k < slots r
    → owned (cell_of s t (interrupt_at r k)) ≡ false → Kept s q t r k
step_leaves_secure s t q n r k l o = slot_kept s q t r k l (unowned_left s (cell_of s t) q n (interrupt_at r k) o _ o)

-- .. and over a run: it ends as the other steps of the run, one after the other and without the Non-secure ones, make it
module _ (s : Shape) (i : Interrupt) where
  secure_cell : (r : List (Item Step)) (t : Tables) → well_formed s t ≡ true → Run s t r → owned (cell_of s t i) ≡ false
      → cell_of s (ended (controller s) t r) i ≡ acted s i (others r) (cell_of s t i)
  secure_cell [] t well k o = refl
  secure_cell (public q ∷ r) t well k o =
      let left = cells_stepped s q t well i ∙ unowned_left s (cell_of s t) q k.0 i o (cell_of s t i) o in
      secure_cell r _ (well_kept s q t well) k.1 (ap owned left ∙ o) ∙ ap (acted s i (others r)) left
  secure_cell (common q ∷ r) t well k o =
      let cell = cells_stepped s q t well i in
      secure_cell r _ (well_kept s q t well) k.1 (ap owned cell ∙ (common_kept s q k.0 i (cell_of s t i) ∙ o))
      ∙ ap (acted s i (others r)) cell
  secure_cell (private q ∷ r) t well k o =
      let cell = cells_stepped s q t well i in
      secure_cell r _ (well_kept s q t well) k.1 (ap owned cell ∙ (same_owned _ _ (k.0 i) ∙ o))
      ∙ ap (acted s i (others r)) cell

pub run_leaves_secure : (s : Shape) (t : Tables) → well_formed s t ≡ true → (r : List (Item Step)) → Run s t r → (f : Frame) (k : ℕ)
    → k < slots f → owned (cell_of s t (interrupt_at f k)) ≡ false
    → get_or (records_of f (ended (controller s) t r)) k 0 ≡ encode (acted s (interrupt_at f k) (others r) (cell_of s t (interrupt_at f k)))
run_leaves_secure s t well r run f k l o =
    sym (slot_number s (ended (controller s) t r) f k l) ∙ ap encode (secure_cell s (interrupt_at f k) r t well run o)

-- a run of Non-secure steps alone leaves it on any tables, well-formed or not
pub alone_leaves_secure : (s : Shape) (t : Tables) (r : List (Item Step)) → others r ≡ [] → Run s t r → (f : Frame) (k : ℕ) → k < slots f
    → owned (cell_of s t (interrupt_at f k)) ≡ false → get_or (records_of f (ended (controller s) t r)) k 0 ≡ get_or (records_of f t) k 0
alone_leaves_secure s t [] e n f k l o = refl
alone_leaves_secure s t (common q ∷ r) e n f k l o = absurd (let z : ◌≡◌ {A = ℕ} 0 1 = cc in omega arith)
alone_leaves_secure s t (private q ∷ r) e n f k l o = absurd (let z : ◌≡◌ {A = ℕ} 0 1 = cc in omega arith)
alone_leaves_secure s t (public q ∷ r) e n f k l o =
    alone_leaves_secure s (stepped s q t).tables r e n.1 f k l (ap owned cell ∙ o) ∙ step_leaves_secure s t q n.0 f k l o
  where
    i : Interrupt
    i = interrupt_at f k

    cell : cell_of s (stepped s q t).tables i ≡ cell_of s t i
    cell =
        by_shape s q t (λ (u : Tables). cell_of s u i ≡ cell_of s t i) refl
        (λ e. cell_after s q t (well_lengths s t e) i ∙ unowned_left s (cell_of s t) q n.0 i o (cell_of s t i) o)
