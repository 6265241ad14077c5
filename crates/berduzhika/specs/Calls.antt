-- The exported functions as one machine, for runs of calls. The shape's four numbers are the same at every call.
use Rattle.std.specs.Prelude.{◌≡◌, List, ℕ, eqb}
use Rattle.types.specs.declared.Event.TheVariants.{Wire, Activate, Deactivate}
use Rattle.meaning.specs.Interrupt.{Interrupt}
use Rattle.meaning.specs.Layout.{Tables, cell_of}
use Rattle.meaning.specs.Rule as step
use Rattle.separation.specs.Runs.{Machine, Item, Honest, SameRuns}
use Rattle.separation.specs.Steps.{NonSecureStep, glimpse, CommonStep}
use Rattle.separation.specs.Lent.{SameBytes}
use Rattle.abi_numbers.specs.Numbers.{side_of, shape_of, request_of}
use Rattle.berduzhika.specs.Returned.{Returned, access_returns, wire_returns, activate_returns, deactivate_returns, reset_returns}

-- a call, by the numbers of its request
pub data Call : Type 0 where
  calls_access : (frame side way width offset value : ℕ) → Call
  calls_wire : (intid level : ℕ) → Call
  calls_activate : (side intid : ℕ) → Call
  calls_deactivate : (side intid : ℕ) → Call
  calls_reset : Call

-- the step that its numbers stand for
abbrev pub step_of : Call → step.Step
step_of (calls_access frame side way width offset value) = step.access (request_of frame side way width offset value)
step_of (calls_wire intid level) = step.happens (Wire (eqb level 1)) intid
step_of (calls_activate side intid) = step.happens (Activate (side_of side)) intid
step_of (calls_deactivate side intid) = step.happens (Deactivate (side_of side)) intid
step_of calls_reset = step.reset

module _ (lines espi eppi mbis : ℕ) where
  abbrev pub returns : Call → Tables → Returned
  returns (calls_access frame side way width offset value) t = access_returns lines espi eppi mbis frame side way width offset value t
  returns (calls_wire intid level) t = wire_returns lines espi eppi mbis intid level t
  returns (calls_activate side intid) t = activate_returns lines espi eppi mbis side intid t
  returns (calls_deactivate side intid) t = deactivate_returns lines espi eppi mbis side intid t
  returns calls_reset t = reset_returns lines espi eppi mbis t

  -- the number that is returned, and the lent tables after it
  abbrev pub exported : Machine Tables Call ℕ
  exported = record { step = λ c t. (returns c t).tables; see = λ c t. (returns c t).code }

  -- A run of calls: each is the Non-secure side's, by the step that its numbers stand for; one in common; or private, which is whatever
  -- leaves what the Non-secure side has. A call whose numbers name nothing leaves all.
  abbrev pub CallRun : Tables → List (Item Call) → Type 0
  CallRun t r =
      Honest exported (λ u c. NonSecureStep (cell_of (shape_of lines espi eppi mbis) u) (step_of c)) (λ c. CommonStep (step_of c))
      (λ u c. (i : Interrupt)
      → glimpse (cell_of (shape_of lines espi eppi mbis) (returns c u).tables i) ≡ glimpse (cell_of (shape_of lines espi eppi mbis) u i))
      t r

  -- the same numbers returned to the Non-secure side, and after each of them and at the end the same bytes of Non-secure interrupts
  abbrev pub SameCalls : Tables → List (Item Call) → Tables → List (Item Call) → Type 0
  SameCalls t r u r' = SameRuns exported (SameBytes (shape_of lines espi eppi mbis)) t r u r'
