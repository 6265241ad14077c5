-- `read_full` stays inside the buffer and ends: each turn that goes on has read at least one byte, and no more than there was room
-- for. Three ways out: a read failed (returns-in_err-n), the input has ended (returns-then-n-eq0), and the buffer is full (returns).
use Rattle.std.proofs.Common.{◌-◌, ◌≤◌, length}
use Rattle.soak.proofs.plan.read_full.Given as goal

abbrev pub invariant-loop-done : goal.invariant-loop-done
invariant-loop-done g l = l.done ≤ length l.buffer

abbrev pub decreases-loop-done : goal.decreases-loop-done
decreases-loop-done g l = length l.initial.buffer - l.done
