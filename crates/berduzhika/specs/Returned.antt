-- What an exported function returns and leaves: one number of 64 bits, and the lent tables.
use Rattle.std.specs.Prelude.{Bool, true, false, ◌&&◌, ℕ, eqb}
use Rattle.types.specs.declared.Shape.{Shape}
use Rattle.types.specs.declared.Event.TheVariants.{Wire, Activate, Deactivate}
use Rattle.meaning.specs.Layout.{Tables}
use Rattle.meaning.specs.Rule as step
use Rattle.meaning.specs.Step.{Outcome, stepped}
use Rattle.abi_numbers.specs.Code.{code_of, shut}
use Rattle.abi_numbers.specs.Numbers.{one_or_two, zero_or_one, side_of, shape_of, request_of}

pub record Returned : Type 0 where
  pub code : ℕ
  pub tables : Tables

abbrev pub returned : Outcome → Returned
returned o = record { code = code_of o.answered; tables = o.tables }

-- THE PROMISE: `named` says that the numbers of the request name something, `sound` that mbis is 0 or 1.
-- Behind the gate it is the meaning's machine; before it every lent byte is as it was.
unfoldable pub after_gate : Bool → Bool → Shape → step.Step → Tables → Returned
after_gate true true s q t = returned (stepped s q t)
after_gate true false s q t = record { code = shut true false; tables = t }
after_gate false sound s q t = record { code = shut false sound; tables = t }

abbrev pub access_returns : ℕ → ℕ → ℕ → ℕ → ℕ → ℕ → ℕ → ℕ → ℕ → ℕ → Tables → Returned
access_returns lines espi eppi mbis frame side way width offset value t =
    after_gate (one_or_two frame && (one_or_two side && one_or_two way)) (zero_or_one mbis) (shape_of lines espi eppi mbis)
    (step.access (request_of frame side way width offset value)) t

abbrev pub wire_returns : ℕ → ℕ → ℕ → ℕ → ℕ → ℕ → Tables → Returned
wire_returns lines espi eppi mbis intid level t =
    after_gate (zero_or_one level) (zero_or_one mbis) (shape_of lines espi eppi mbis) (step.happens (Wire (eqb level 1)) intid) t

abbrev pub activate_returns : ℕ → ℕ → ℕ → ℕ → ℕ → ℕ → Tables → Returned
activate_returns lines espi eppi mbis side intid t =
    after_gate (one_or_two side) (zero_or_one mbis) (shape_of lines espi eppi mbis) (step.happens (Activate (side_of side)) intid) t

abbrev pub deactivate_returns : ℕ → ℕ → ℕ → ℕ → ℕ → ℕ → Tables → Returned
deactivate_returns lines espi eppi mbis side intid t =
    after_gate (one_or_two side) (zero_or_one mbis) (shape_of lines espi eppi mbis) (step.happens (Deactivate (side_of side)) intid) t

abbrev pub reset_returns : ℕ → ℕ → ℕ → ℕ → Tables → Returned
reset_returns lines espi eppi mbis t = after_gate true (zero_or_one mbis) (shape_of lines espi eppi mbis) step.reset t
