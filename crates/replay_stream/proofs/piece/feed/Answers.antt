-- `feed` takes a piece as `within` says. Three ways out: no room for anything (returns-then-out-lt128), none for a byte more
-- (returns-then-out-state-lt128), and the piece's end (returns).
use Rattle.std.proofs.Common.{◌≡◌, refl, ◌+◌, ◌≤◌, length, arith}
use Rattle.replay_state.specs.Held.{held_in}
use Rattle.replay_state.proofs.Stored.{held_none, held_next}
use Rattle.replay_stream.proofs.ReachedLive.{feeding_more, feeding_done, feeding_full, other_end}
use Rattle.replay_stream.proofs.piece.feed.Goals as goal
use Rattle.replay_stream.proofs.piece.feed.Goals.{else-b-eq10-via-then-b-eq10+else-out-state-lt128, else-b-eq10-via-else-b-eq10}

pub returns-then-out-lt128 : goal.returns-then-out-lt128
returns-then-out-lt128 c =
    record {
      taken =
          feeding_full (record { going = refl; inside = omega arith; kept = refl; fits = omega arith; same = refl })
          c.if-out-lt128.true;
      held = held_none _;
    }

pub loop-used-init : goal.loop-used-init
loop-used-init c =
    record {
      feeding = record { going = refl; inside = omega arith; kept = refl; fits = omega arith; same = refl };
      room = omega (arith, c.if-out-lt128.false);
      held = held_none _;
    }

pub byte-state-requires : goal.byte-state-requires
byte-state-requires c = c.loop-used.invariant.room

pub returns-then-out-state-lt128 : goal.returns-then-out-state-lt128
returns-then-out-state-lt128 c =
    let b = c.byte-state in
    let i = c.loop-used.invariant in
    let more = feeding_more i.feeding _ _ _ c.loop-used-test.true i.room b.ensures.reached b.auto.out in
    record {
      taken = feeding_full more (omega (arith, more.fits, c.if-out-state-lt128.true));
      held = held_next (held_in c.args.line.now c.args.s.len) c.args.piece.now _ i.held b.ensures.held c.loop-used-test.true;
    }

pub loop-used-preserved : goal.loop-used-preserved
loop-used-preserved c =
    let b = c.byte-state in
    let i = c.loop-used.invariant in
    let more = feeding_more i.feeding _ _ _ c.loop-used-test.true i.room b.ensures.reached b.auto.out in
    let room : b.result.end + 128 ≤ length b.new.out =
    elim c.else-b-eq10.branch [
      | else-b-eq10-via-then-b-eq10+else-out-state-lt128 w ↦ omega (arith, more.fits, w.if-out-state-lt128.false)
      | else-b-eq10-via-else-b-eq10 w ↦
          let same = other_end _ _ _ _ _ w.if-b-eq10.false i.feeding.fits b.ensures.reached in omega (arith, i.room, b.auto.out, same)
    ] in
    record {
      feeding = more;
      room = room;
      held = held_next (held_in c.args.line.now c.args.s.len) c.args.piece.now _ i.held b.ensures.held c.loop-used-test.true;
    }

pub returns : goal.returns
returns c =
    let i = c.loop-used.invariant in
    let all : length c.args.piece.now ≡ c.loop-used.used = omega arith in
    rw all (record { taken = feeding_done i.feeding c.loop-used-test.false; held = i.held })
