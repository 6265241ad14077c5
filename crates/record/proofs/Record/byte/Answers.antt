-- `Record::byte` is the byte of the cell: a byte that is decoded encodes back.
use Rattle.std.proofs.Common.{sym}
use Rattle.meaning.proofs.Bytes.{encode-decode}
use Rattle.record.proofs.Record.byte.Goals as goal

pub returns : goal.returns
returns c = rw (← c.self.view_is) (sym (encode-decode c.self.inside.implemented c.self.inside.byte))
