-- `byte`. Two ways out: a line's end (returns-then-b-eq10), by what the line reached; and any other byte (returns), which is kept.
use Rattle.std.proofs.Common.{arith}
use Rattle.replay_stream.proofs.ReachedLive.{after_line, after_other}
use Rattle.replay_stream.proofs.piece.byte.Goals as goal

pub returns-then-b-eq10 : goal.returns-then-b-eq10
returns-then-b-eq10 c =
    after_line c.args.s _ c.args.line.now _ _ _ _ _ c.if-b-eq10.true c.prefix.ensures c.line_read.ensures

pub returns : goal.returns
returns c =
    after_other c.args.s _ c.args.line.now _ _ _ _ c.if-b-eq10.false (omega arith) c.push.auto.line c.push.ensures
