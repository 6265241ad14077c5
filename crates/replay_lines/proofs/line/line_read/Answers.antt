-- `line_read` reaches `line_read`: what has come on the sheet has come in the lent buffer. One way out.
use Rattle.std.proofs.Common.{rules, arith}
use Rattle.replay_lines.proofs.Reaching.{reached}
use Rattle.replay_lines.proofs.line.line_read.Goals as goal

pub returns : goal.returns
returns c = let same = c.advance-at.ensures.put.same in reached _ _ _ c.advance-at.ensures (omega arith) (search rules)
