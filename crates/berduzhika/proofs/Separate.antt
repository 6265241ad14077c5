-- DEMAND 3 OF THE EXPORTED FUNCTIONS: runs of calls, by numbers.
--   calls_same       two well-formed sets of tables, alike; the same Non-secure and common calls; each its own private ones: the same
--                    numbers are returned, and the same bytes of Non-secure interrupts are there after each and at the end
--   nameless_alone   what a call is answered whose numbers name nothing depends on the request alone
use mathlib.Core.Path.{◌≡◌, refl, sym, ap, ◌∙◌, subst}
use mathlib.Core.Bool.{Bool, true, false, ◌&&◌}
use mathlib.Core.List.{List}
use Prim.Native.Nat.{ℕ}
use Rattle.types.specs.declared.Shape.{Shape}
use Rattle.meaning.specs.Interrupt.{Interrupt}
use Rattle.meaning.specs.Layout.{Tables, well_formed, cell_of}
use Rattle.meaning.specs.Rule.{Step}
use Rattle.meaning.proofs.After.{well_kept}
use Rattle.separation.specs.Runs.{Item, without_private}
use Rattle.separation.specs.Steps.{NonSecureStep, glimpse, CommonStep}
use Rattle.separation.specs.Lent.{AlikeTables, Indistinct, SameBytes}
use Rattle.separation.proofs.Unwinding.{Unwinds, two_runs, runs_weaker}
use Rattle.separation.proofs.Tables.{separate, same_bytes, alike_indistinct}
use Rattle.abi_numbers.specs.Numbers.{one_or_two, zero_or_one, shape_of}
use Rattle.abi_numbers.specs.Code.{code_of, shut}
use Rattle.berduzhika.specs.Returned.{Returned, after_gate}
use Rattle.berduzhika.specs.Calls.{Call, calls_access, calls_wire, calls_activate, calls_deactivate, calls_reset, step_of, returns}
use Rattle.berduzhika.specs.Calls.{exported, CallRun, SameCalls}

-- THE GATE, before any step: what is returned and left, from alike tables
module _ (s : Shape) (q : Step) (a b : Tables) (h : Indistinct s a b) where
  code_same : (named sound : Bool) → NonSecureStep (cell_of s a) q
      → (after_gate named sound s q a).code ≡ (after_gate named sound s q b).code
  unfolding after_gate
  code_same true true n = ap code_of ((separate s).see_alike q a b h n)
  code_same true false n = refl
  code_same false sound n = refl

  left_same : (named sound : Bool) → NonSecureStep (cell_of s a) q
      → Indistinct s (after_gate named sound s q a).tables (after_gate named sound s q b).tables
  unfolding after_gate
  left_same true true n = (separate s).step_alike q a b h n
  left_same true false n = h
  left_same false sound n = h

  common_left : (named sound : Bool) → CommonStep q
      → Indistinct s (after_gate named sound s q a).tables (after_gate named sound s q b).tables
  unfolding after_gate
  common_left true true n = (separate s).common_alike q a b h n
  common_left true false n = h
  common_left false sound n = h

stays_well : (s : Shape) (q : Step) (t : Tables) (named sound : Bool) → well_formed s t ≡ true
    → well_formed s (after_gate named sound s q t).tables ≡ true
unfolding after_gate
stays_well s q t true true h = well_kept s q t h
stays_well s q t true false h = h
stays_well s q t false sound h = h

module _ (lines espi eppi mbis : ℕ) where
  abbrev shape : Shape
  shape = shape_of lines espi eppi mbis

  -- whether the numbers of a call name what they have to
  abbrev pub names_all : Call → Bool
  names_all (calls_access frame side way width offset value) = one_or_two frame && (one_or_two side && one_or_two way)
  names_all (calls_wire intid level) = zero_or_one level
  names_all (calls_activate side intid) = one_or_two side
  names_all (calls_deactivate side intid) = one_or_two side
  names_all calls_reset = true

  gated : (c : Call) (t : Tables) → returns lines espi eppi mbis c t ≡ after_gate (names_all c) (zero_or_one mbis) shape (step_of c) t
  gated (calls_access frame side way width offset value) t = refl
  gated (calls_wire intid level) t = refl
  gated (calls_activate side intid) t = refl
  gated (calls_deactivate side intid) t = refl
  gated calls_reset t = refl

  abbrev Public : Tables → Call → Type 0
  Public u c = NonSecureStep (cell_of shape u) (step_of c)

  abbrev Common : Call → Type 0
  Common c = CommonStep (step_of c)

  abbrev Private : Tables → Call → Type 0
  Private u c = (i : Interrupt) → glimpse (cell_of shape (returns lines espi eppi mbis c u).tables i) ≡ glimpse (cell_of shape u i)

  -- what holds of the gated step holds of the call
  by_gate : (P : Returned → Returned → Type 0) (c : Call) (a b : Tables)
      → P (after_gate (names_all c) (zero_or_one mbis) shape (step_of c) a)
      (after_gate (names_all c) (zero_or_one mbis) shape (step_of c) b)
      → P (returns lines espi eppi mbis c a) (returns lines espi eppi mbis c b)
  by_gate P c a b h =
      subst (λ (x : Returned). P x (returns lines espi eppi mbis c b)) (sym (gated c a))
      (subst (λ (y : Returned). P (after_gate (names_all c) (zero_or_one mbis) shape (step_of c) a) y) (sym (gated c b)) h)

  separate_calls : Unwinds (exported lines espi eppi mbis) (Indistinct shape) Public Common Private
  separate_calls =
      record {
        sym_alike = λ a b h. (separate shape).sym_alike a b h;
        public_alike = λ c a b h n. (separate shape).public_alike (step_of c) a b h n;
        see_alike = λ c a b h n.
            by_gate (λ x y. x.code ≡ y.code) c a b (code_same shape (step_of c) a b h (names_all c) (zero_or_one mbis) n);
        step_alike = λ c a b h n.
            by_gate (λ x y. Indistinct shape x.tables y.tables) c a b
            (left_same shape (step_of c) a b h (names_all c) (zero_or_one mbis) n);
        common_alike = λ c a b h n.
            by_gate (λ x y. Indistinct shape x.tables y.tables) c a b
            (common_left shape (step_of c) a b h (names_all c) (zero_or_one mbis) n);
        private_alike = λ c a b h p.
            record {
              first = by_gate (λ x y. well_formed shape x.tables ≡ true) c a a
                  (stays_well shape (step_of c) a (names_all c) (zero_or_one mbis) h.first);
              second = h.second;
              same = λ i. p i ∙ h.same i;
            };
      }

  -- THE THEOREM
  pub calls_same : (t u : Tables) → well_formed shape t ≡ true → well_formed shape u ≡ true → AlikeTables shape t u
      → (r r' : List (Item Call)) → without_private r ≡ without_private r' → CallRun lines espi eppi mbis t r
      → CallRun lines espi eppi mbis u r'
      → SameCalls lines espi eppi mbis t r u r'
  calls_same t u wt wu h r r' e k k' =
      runs_weaker (exported lines espi eppi mbis) (Indistinct shape) (SameBytes shape) (same_bytes shape) t r u r'
      (two_runs (exported lines espi eppi mbis) (Indistinct shape) Public Common Private separate_calls r r' t u e
      (alike_indistinct shape t u wt wu h) k k')

  -- a call whose numbers name nothing: 100 and 0, and every lent byte as it was, whatever the tables
  pub nameless_alone : (c : Call) (t : Tables) → names_all c ≡ false
      → returns lines espi eppi mbis c t ≡ record { code = shut false (zero_or_one mbis); tables = t }
  unfolding after_gate
  nameless_alone c t h = gated c t ∙ ap (λ (b : Bool). after_gate b (zero_or_one mbis) shape (step_of c) t) h
