-- A whole replay by its calls: `feed`, as often as there is input, each time with what it wrote handed on before the next call, and
-- `finish` at the input's end.
use Rattle.std.specs.Prelude.{◌≡◌, List, [], ◌++◌, ℕ, length, take, drop, Option, Some}
use Rattle.meaning.specs.Layout.{Tables}
use Rattle.replay_meaning.specs.Replay.{ending}
use Rattle.replay_meaning.specs.Stream.{within}
use Rattle.replay_state.specs.declared.State.{State}
use Rattle.replay_state.specs.Ended.{EndWritten}
use Rattle.replay_stream.specs.ReachedLive.{resumed, Taken}

-- Calls s t line input output: from the state s, with the tables t and the buffer `line` of the unfinished line, calls that keep the
-- promises of `feed` and `finish` take all of the input, and what they hand on is the output.
pub data Calls : State → Tables → List ℕ → List ℕ → List ℕ → Type 0 where
  -- the input has ended: what `finish` says it wrote is handed on
  last : (s : State) (t : Tables) (line : List ℕ) (r : Option ℕ) (n : ℕ) (buffer buffer' : List ℕ)
      → EndWritten (ending s.at (take s.len line)) buffer r buffer'
      → r ≡ Some n
      → Calls s t line [] (take n buffer')
  -- a piece is next: what `feed` wrote is handed on, and the bytes that it has not taken come again, before all later ones
  next : (s s' : State) (t t' : Tables) (line line' piece : List ℕ) (used : ℕ) (later buffer buffer' output : List ℕ)
      → Taken (within (length buffer) (resumed s t line) piece) s' t' line' piece used buffer buffer'
      → Calls s' t' line' (drop used piece ++ later) output
      → Calls s t line (piece ++ later) (take s'.end buffer' ++ output)
