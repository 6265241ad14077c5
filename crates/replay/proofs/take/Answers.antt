-- `take` takes all of a piece: with room for a byte's output, `feed` takes at least one byte each time.
-- Two ways out: a write failed (returns-in_err-write_all), and the piece's end (returns).
use Rattle.std.proofs.Common.{rules, arith, ◌<◌, length, length-take, length-drop}
use Rattle.replay_meaning.specs.Replay.{all_present}
use Rattle.replay_stream.proofs.ReachedLive.{taken_goes}
use Rattle.replay.proofs.take.Goals as goal

pub loop-rest-smaller : goal.loop-rest-smaller
loop-rest-smaller g c =
    let l = c.loop-rest in
    let some : 0 < length l.rest.now = search rules in
    let goes = taken_goes l.state _ l.line l.rest.now l.out {t' = all_present c.feed-fed.new.dist c.feed-fed.new.redist}
    c.feed-fed.ensures.taken l.invariant some in
    simp (length-take, length-drop) (omega arith)
