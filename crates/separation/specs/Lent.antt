-- Demand 3 on the lent tables: their runs, tables that are alike, and the table where no Secure interrupt exists.
use Rattle.std.specs.Prelude.{◌≡◌, Bool, true, cond, not, ◌&&◌, List, [], ◌∷◌, ℕ, ◌+◌, ◌*◌, ◌-◌, ◌<◌, get_or, eqb, ltb}
use Rattle.lists.specs.Map.{map_from}
use Rattle.lists.specs.Word.{digit, bit_at, row}
use Rattle.types.specs.declared.Frame.{Frame}
use Rattle.types.specs.declared.Frame.TheVariants.{Dist, Redist}
use Rattle.types.specs.declared.Shape.{Shape}
use Rattle.meaning.specs.Answers.{Answer}
use Rattle.meaning.specs.Interrupt.{Interrupt, interrupt}
use Rattle.meaning.specs.Cell.{Cell, non_secure, owned}
use Rattle.meaning.specs.Layout.{Tables, records_of, presence_of, slots, interrupt_at, home_of, record_at, well_formed, implemented}
use Rattle.meaning.specs.Layout.{cell_of}
use Rattle.meaning.specs.Rule.{Step, act}
use Rattle.meaning.specs.Step.{stepped}
use Rattle.separation.specs.Runs.{Machine, Item, Honest, Alike, SameRuns}
use Rattle.separation.specs.Steps.{NonSecureStep, glimpse, PrivateStep, CommonStep}

-- the controller as a machine on the lent tables
abbrev pub controller : Shape → Machine Tables Step Answer
controller s = record { step = λ q t. (stepped s q t).tables; see = λ q t. (stepped s q t).answered }

-- A run: each step is a Non-secure step, a common one, or a private one, of the tables where it is taken.
abbrev pub Run : Shape → Tables → List (Item Step) → Type 0
Run s t r = Honest (controller s) (λ u. NonSecureStep (cell_of s u)) CommonStep (λ u. PrivateStep s (cell_of s u)) t r

-- Tables alike in presence, grouping and Non-secure records, asked at implemented interrupts only. The shape is the same s.
pub record AlikeTables (s : Shape) (t u : Tables) : Type 0 where
  pub presence : (i : Interrupt) → implemented s t i ≡ implemented s u i
  pub grouping : (i : Interrupt) → implemented s t i ≡ true → non_secure (cell_of s t i) ≡ non_secure (cell_of s u i)
  pub records : (i : Interrupt) → implemented s t i ≡ true → non_secure (cell_of s t i) ≡ true
      → record_at t (home_of i) ≡ record_at u (home_of i)

-- Well-formed tables of which the Non-secure side has the same: it owns the same interrupts, and those are the same.
abbrev pub Indistinct : Shape → Tables → Tables → Type 0
Indistinct s t u = Alike (λ v. well_formed s v ≡ true) (λ v i. glimpse (cell_of s v i)) t u

-- The Non-secure side has the same of the run r from t and of the run r' from u: the same answers, and after each of them and at the
-- end indistinct tables.
abbrev pub Same : Shape → Tables → List (Item Step) → Tables → List (Item Step) → Type 0
Same s t r u r' = SameRuns (controller s) (Indistinct s) t r u r'

-- IN BYTES: an implemented Non-secure interrupt of the one is one of the other, and its record is the same number.
pub record SameBytes (s : Shape) (t u : Tables) : Type 0 where
  pub owners : (r : Frame) (k : ℕ) → k < slots r → owned (cell_of s t (interrupt_at r k)) ≡ owned (cell_of s u (interrupt_at r k))
  pub bytes : (r : Frame) (k : ℕ) → k < slots r → owned (cell_of s t (interrupt_at r k)) ≡ true
      → get_or (records_of r t) k 0 ≡ get_or (records_of r u) k 0

-- the same answers, and after each of them and at the end the same bytes of Non-secure interrupts
abbrev pub SameInBytes : Shape → Tables → List (Item Step) → Tables → List (Item Step) → Type 0
SameInBytes s t r u r' = SameRuns (controller s) (SameBytes s) t r u r'

-- what these steps, one after the other, do to the interrupt i, and to no other
abbrev pub acted : Shape → Interrupt → List Step → Cell → Cell
acted s i [] c = c
acted s i (q ∷ qs) c = acted s i qs (act s q i c)

-- THE TABLE WHERE NO SECURE INTERRUPT EXISTS: the same tables, with the presence bits of the Secure interrupts cleared.
-- the INTID of bit x of presence word w
unfoldable pub present_intid : Frame → ℕ → ℕ → ℕ
present_intid Dist w x = cond (ltb w 31) (32 * (w + 1) + x) (4096 + (32 * (w - 31) + x))
present_intid Redist w x = cond (eqb w 0) x (1024 + (32 * w + x))

unfoldable pub secure_at : Shape → Tables → Interrupt → Bool
secure_at s t i = implemented s t i && not (non_secure (cell_of s t i))

-- the presence words without them
unfoldable pub cleared : Shape → Tables → Frame → List ℕ
cleared s t r =
    map_from 0 (λ w word. row 1 32 (λ x. digit (bit_at word x && not (secure_at s t (interrupt r (present_intid r w x))))))
    (presence_of r t)

unfoldable pub without_secure : Shape → Tables → Tables
without_secure s t = record { dist = t.dist; redist = t.redist; dist_presence = cleared s t Dist; redist_presence = cleared s t Redist }
