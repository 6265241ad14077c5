-- What is said of every record.
use Rattle.std.specs.Prelude.{◌≡◌, Bool, false, ℕ, get_or}
use Rattle.types.specs.declared.Frame.{Frame}
use Rattle.types.specs.declared.Shape.{Shape}
use Rattle.types.specs.declared.Access.{Access}
use Rattle.types.specs.declared.Target.{Target}
use Rattle.types.specs.declared.Target.TheVariants as target
use Rattle.meaning.specs.Interrupt.{Interrupt}
use Rattle.meaning.specs.Layout.{Tables, records_of}
use Rattle.meaning.specs.Registers.{written_value, names}
use Rattle.meaning.specs.Rule.{Step, addresses}
use Rattle.meaning.specs.Step.{stepped}

-- the number at slot k of a table is after the step what it was
abbrev pub Kept : Shape → Step → Tables → Frame → ℕ → Type 0
Kept s q t r k = get_or (records_of r (stepped s q t).tables) k 0 ≡ get_or (records_of r t) k 0

-- whether an access to a target names an interrupt: its window has a digit of it, or its message names it
unfoldable pub reached_by : Shape → Access → Target → Interrupt → Bool
reached_by s a (target.Digits w) i = names w i
reached_by s a target.Typer i = false
reached_by s a (target.Message g) i = addresses s (written_value a) i
