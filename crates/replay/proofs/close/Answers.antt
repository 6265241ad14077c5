-- `close` writes what ends a replay: the bytes that `finish` says it wrote lie within the buffer. Four ways out: no room for them
-- (returns-in_default), a write failed and the word on standard error was written (returns-in_ok-eprintln) or failed too
-- (returns-in_err-eprintln), and all is written (returns-else-is_err).
use Rattle.replay_state.proofs.Ending.{said_fits, said_taken}
use Rattle.replay.proofs.close.Goals as goal

pub slice_bounds-out-end : goal.slice_bounds-out-end
slice_bounds-out-end g c = said_fits c.in-Some.is c.finish.ensures

pub slice_bounds-write_all-end : goal.slice_bounds-write_all-end
slice_bounds-write_all-end g c = said_taken c.in-Some.is c.finish.ensures
