-- `finish` writes what ends a replay. Two ways out: the buffer has less than 32 bytes (returns-then-out-lt32), and the last text is put
-- (returns).
use Rattle.std.proofs.Common.{rules}
use Rattle.replay_state.proofs.Ending.{ended_said, ended_full}
use Rattle.replay_state.proofs.finish.Goals as goal

pub returns-then-out-lt32 : goal.returns-then-out-lt32
returns-then-out-lt32 c = ended_full _ _ c.if-out-lt32.true

pub returns : goal.returns
returns c =
    let put = rw c.prefix.ensures at c.put_ending.ensures.put in
    ended_said c.if-out-lt32.false (search rules)
