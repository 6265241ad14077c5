-- `switched` is `switched`. A digit other than 1 leaves the record: the bit that it has is put again.
use borrow.Author.Tests.{ne_eqb}
use Rattle.meaning.specs.Rule.{switched}
use Rattle.meaning.proofs.Cells.{put-get}
use Rattle.record_writes.proofs.switched.Goals as goal

pub returns-else-d-eq1 : goal.returns-else-d-eq1
unfolding switched
returns-else-d-eq1 c = rw (ne_eqb _ _ c.if-d-eq1.false, put-get)
