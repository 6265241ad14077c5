-- DEMAND 1: a refusal leaves every lent byte as it was.
--   placed_done    an access that has a place is done
--   step_left      a step that is refused leaves every interrupt
--   by_shape       the tables after a step, by whether refusal 1 applies
--   refused_kept   and so the four tables, whatever numbers stand in them
use Rattle.std.specs.Prelude.{Ok, Err}
use mathlib.Core.Path.{◌≡◌, refl, sym, ap, ◌∙◌, subst}
use mathlib.Core.Bool.{Bool, true, false, ◌&&◌}
use Prim.Native.Nat.{ℕ}
use native.Mathlib.Omega.{arith}
use lib.ListN.{length}
use lib.Seq.{ext_get_or}
use Rattle.lists.proofs.Bools.{and_left, and_right, clash}
use Rattle.types.specs.declared.Frame.{Frame}
use Rattle.types.specs.declared.Frame.TheVariants.{Dist, Redist}
use Rattle.types.specs.declared.Shape.{Shape}
use Rattle.types.specs.declared.Way.{Way}
use Rattle.types.specs.declared.Way.TheVariants.{Read, Write}
use Rattle.types.specs.declared.Access.{Access}
use Rattle.types.specs.declared.Place.{Place}
use Rattle.types.specs.declared.Event.{Event}
use Rattle.types.specs.declared.Refusal.{Refusal}
use Rattle.meaning.specs.Answers.{Decoded}
use Rattle.meaning.specs.Interrupt.{Interrupt, same, named}
use Rattle.meaning.specs.Layout.{Tables, records_of, slots, interrupt_at, lengths_fit, well_formed, cell_of}
use Rattle.meaning.specs.Registers.{place_of, target_of}
use Rattle.meaning.specs.Rule.{Step, access, happens, reset, Deed, happen, deed_of, is_done, event_answer, aims, admits, performed, act}
use Rattle.meaning.specs.Step.{Cells, read, access_answer, answer, tables_where, tables_after, Outcome, stepped}
use Rattle.meaning.proofs.Choices.{cond_shut, cond_false}
use Rattle.meaning.proofs.Aims.{same_true}
use Rattle.meaning.proofs.After.{records_length, lengths_kept, record_stays, answer_well, tables_well, well_lengths}
use Rattle.promises.proofs.Deeds.{by_access, idle_left}

refused_done : {r : Refusal} {v : ℕ} → Err r ≡ Ok v → ⊥
refused_done e = let z : ◌≡◌ {A = ℕ} 0 1 = cc in omega arith

-- AN ACCESS with a place is done
pub placed_done : (s : Shape) (a : Access) (p : Place) (cells : Cells) → place_of a ≡ Ok p → (v : ℕ) × (answer s (access a) cells ≡ Ok v)
unfolding answer
placed_done s a p cells e = by a.way (ap (λ (d : Decoded). access_answer s a d cells) e)
  where
    by : (w : Way) → access_answer s a (place_of a) cells ≡ elim w [ Read ↦ Ok (read s a.side (target_of p) cells) | Write ↦ Ok 0 ]
        → (v : ℕ) × (access_answer s a (place_of a) cells ≡ Ok v)
    by Read h = (read s a.side (target_of p) cells, h)
    by Write h = (0, h)

-- A REFUSED STEP leaves every interrupt
event_left : (s : Shape) (e : Event) (m : ℕ) (cells : Cells) (r : Refusal) (i : Interrupt)
    → event_answer s e (named m) (cells (named m)) ≡ Err r → performed s (happen e m) i (cells i) ≡ cells i
unfolding performed aims admits
event_left s e m cells r i h =
    cond_shut (same (named m) i && is_done (event_answer s e i (cells i))) _ (cells i)
    (λ t.
    let here = same_true (named m) i (and_left (same (named m) i) (is_done (event_answer s e i (cells i))) t) in
    clash (and_right (same (named m) i) (is_done (event_answer s e i (cells i))) t)
    (ap is_done (ap (λ (j : Interrupt). event_answer s e j (cells j)) (sym here) ∙ h)))

pub step_left : (s : Shape) (q : Step) (cells : Cells) (r : Refusal) (i : Interrupt) → answer s q cells ≡ Err r
    → act s q i (cells i) ≡ cells i
unfolding act deed_of answer
step_left s (access a) cells r i h =
    by_access (λ (d : Deed). performed s d i (cells i) ≡ cells i) a (idle_left s i (cells i))
    (λ p e w. let d = placed_done s a p cells e in absurd (refused_done (sym h ∙ d.1)))
step_left s (happens e m) cells r i h = event_left s e m cells r i h
step_left s reset cells r i h = absurd (refused_done (sym h))

-- A STEP THAT LEAVES EVERY INTERRUPT leaves the tables
module _ (s : Shape) (q : Step) (t : Tables) (fit : lengths_fit t ≡ true)
    (left : (i : Interrupt) → act s q i (cell_of s t i) ≡ cell_of s t i) where
  table_left : (r : Frame) → records_of r (tables_after s q t) ≡ records_of r t
  table_left r =
      ext_get_or 0 (records_of r (tables_after s q t)) (records_of r t) (long ∙ sym (records_length t fit r))
      (λ k l. record_stays s q t fit r k (rw long at l) (left (interrupt_at r k)))
    where
      long : length (records_of r (tables_after s q t)) ≡ slots r
      long = records_length (tables_after s q t) (lengths_kept s q t ∙ fit) r

  tables_left : tables_after s q t ≡ t
  unfolding tables_where
  tables_left =
      λ z.
      record {
        dist = table_left Dist z;
        redist = table_left Redist z;
        dist_presence = t.dist_presence;
        redist_presence = t.redist_presence;
      }

-- REFUSAL 1 comes first, and leaves the tables. What holds of them, and where they are well-formed of the rule's, holds after a step.
pub by_shape : (s : Shape) (q : Step) (t : Tables) (P : Tables → Type 0) → P t → (well_formed s t ≡ true → P (tables_after s q t))
    → P (stepped s q t).tables
unfolding stepped
by_shape s q t P ill well = by (well_formed s t) refl
  where
    by : (b : Bool) → well_formed s t ≡ b → P (stepped s q t).tables
    by true e = subst P (sym (tables_well s q t e)) (well e)
    by false e = subst P (sym (ap (λ (o : Outcome). o.tables) (cond_false (well_formed s t) _ _ e))) ill

pub refused_kept : (s : Shape) (q : Step) (t : Tables) (r : Refusal) → (stepped s q t).answered ≡ Err r → (stepped s q t).tables ≡ t
refused_kept s q t r h =
    by_shape s q t (λ (u : Tables). u ≡ t) refl
    (λ e. tables_left s q t (well_lengths s t e) (λ i. step_left s q (cell_of s t) r i (sym (answer_well s q t e) ∙ h)))
