-- The output's buffer has room for a byte's output. The measure is how many bytes of the piece are not taken yet.
use Rattle.std.proofs.Common.{◌≤◌, length}
use Rattle.replay.proofs.take.Given as goal

abbrev pub invariant-loop-rest : goal.invariant-loop-rest
invariant-loop-rest g l = 128 ≤ length l.out

abbrev pub decreases-loop-rest : goal.decreases-loop-rest
decreases-loop-rest g l = length l.rest
