-- One statement over the whole table: it is the list of `entry_at` at its 1,024 places.
use Rattle.std.proofs.Common.{None}
use Rattle.meaning.specs.Registers.{row_of, in_column, in_messages, listed}
use Rattle.register_map.specs.Map.{entry_of, entry_at}
use Rattle.lists.proofs.Tables.{tabulate_at}
use Rattle.register_map.proofs.entry_at.Goals as goal

pub returns : goal.returns
unfolding entry_at entry_of listed in_column in_messages row_of
returns c = tabulate_at entry_at None 1024 c.args.word c.requires
