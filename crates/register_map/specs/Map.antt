-- The auditors' register map: what the word at 4·k of the Distributor frame is, if it is a register's.
use Rattle.std.specs.Prelude.{Option, Some, None, Ok, Err, ℕ, ◌*◌}
use Rattle.types.specs.declared.Frame.TheVariants.{Dist}
use Rattle.types.specs.declared.Place.TheVariants as place
use Rattle.meaning.specs.Answers.{Decoded}
use Rattle.meaning.specs.Registers.{listed}
use Rattle.register_map.specs.declared.Entry.{Entry}
use Rattle.register_map.specs.declared.Entry.TheVariants as entry

unfoldable pub entry_of : Decoded → Option Entry
entry_of (Ok (place.Word r f n)) = Some (entry.Register f)
entry_of (Ok (place.Extended r f n)) = None
entry_of (Ok place.Typer) = Some entry.Typer
entry_of (Ok (place.Message g)) = Some (entry.Message g)
entry_of (Err r) = None

unfoldable pub entry_at : ℕ → Option Entry
entry_at k = entry_of (listed Dist (4 * k))
