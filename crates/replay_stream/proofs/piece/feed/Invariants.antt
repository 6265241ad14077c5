-- The first `used` bytes are taken, and there is room for the next; ₀ is what was lent, and the state at the loop's start.
use Rattle.std.proofs.Common.{◌≡◌, ◌+◌, ◌≤◌, List, ℕ, length, take}
use Rattle.replay_meaning.specs.Replay.{all_present}
use Rattle.replay_meaning.specs.Stream.{within}
use Rattle.replay_state.specs.declared.State.{State}
use Rattle.replay_state.specs.Held.{held_in, bytes_held}
use Rattle.replay_stream.specs.ReachedLive.{resumed}
use Rattle.replay_stream.proofs.ReachedLive.{Feeding}
use Rattle.replay_stream.proofs.piece.feed.Given as goal

pub record Going (dist₀ redist₀ line₀ out₀ piece : List ℕ) (state₀ : State) (dist redist line out : List ℕ) (state : State) (used : ℕ)
    : Type 0 where
  pub feeding :
      Feeding (within (length out₀) (resumed state₀ (all_present dist₀ redist₀) line₀) piece) (length out₀) state
      (all_present dist redist) line out₀ out piece used
  pub room : state.end + 128 ≤ length out
  pub held : held_in line state.len ≡ bytes_held (held_in line₀ state₀.len) (take used piece)

abbrev pub invariant-loop-used : goal.invariant-loop-used
invariant-loop-used l =
    Going l.initial.dist l.initial.redist l.initial.line l.initial.out l.piece l.initial.state l.dist l.redist l.line l.out l.state l.used
