-- `walk` leaves `stored`, record by record.
use Rattle.std.proofs.Common.{arith}
use Rattle.lists.proofs.Loops.{mapped_more, mapped_all}
use Rattle.table_words.specs.Part.{stored}
use Rattle.table_words.proofs.walk.Goals as goal

pub loop-x-preserved : goal.loop-x-preserved
loop-x-preserved c s at n =
    mapped_more _ _ _ _ _ (c.loop-x.invariant s at n) (omega arith) (c.stored.ensures s at (n c.loop-x.x c.loop-x-test.true))

pub returns : goal.returns
unfolding stored
returns c s at n = mapped_all _ _ _ _ (c.loop-x.invariant s at n) c.loop-x-test.false
