-- How the lent memory stands for a replay in the middle of a line, and what a byte or a piece has reached.
use Rattle.std.specs.Prelude.{◌≡◌, List, [], ℕ, ◌≤◌, length, take, drop}
use Rattle.meaning.specs.Layout.{Tables}
use Rattle.replay_meaning.specs.Stream.{Live, Fed}
use Rattle.replay_lines.specs.Reached.{run_of}
use Rattle.replay_state.specs.declared.State.{State}
use Rattle.replay_state.specs.Held.{Held, held_in, bytes_held}

-- the unfinished line is the first bytes of a lent buffer, and so is what was written
abbrev pub live_of : State → Tables → List ℕ → List ℕ → Live
live_of s t line buffer = record { run = run_of s.at t buffer s.end; line = take s.len line; most = length line }

-- the same replay with nothing written: what was written before has been handed on
abbrev pub resumed : State → Tables → List ℕ → Live
resumed s t line = record { run = record { at = s.at; tables = t; said = [] }; line = take s.len line; most = length line }

-- The replay l is reached. The buffer was written from e up to the end that s names, and after that it is as it was.
pub record ReachedLive (l : Live) (s : State) (t : Tables) (line buffer : List ℕ) (e : ℕ) (buffer' : List ℕ) : Type 0 where
  pub live : live_of s t line buffer' ≡ l
  pub kept : drop s.end buffer' ≡ drop s.end buffer
  pub more : e ≤ s.end
  pub fits : s.end ≤ length buffer'

-- What a byte promises: the replay l is reached, and the line's buffer stands as h has it.
pub record AfterByte (l : Live) (h : Held) (s : State) (t : Tables) (line buffer : List ℕ) (e : ℕ) (buffer' : List ℕ) : Type 0 where
  pub reached : ReachedLive l s t line buffer e buffer'
  pub held : held_in line s.len ≡ h

-- A piece was taken as f says: `used` of its bytes.
pub record Taken (f : Fed) (s : State) (t : Tables) (line piece : List ℕ) (used : ℕ) (buffer buffer' : List ℕ) : Type 0 where
  pub live : live_of s t line buffer' ≡ f.live
  pub left : drop used piece ≡ f.left
  pub inside : used ≤ length piece
  pub kept : drop s.end buffer' ≡ drop s.end buffer
  pub fits : s.end ≤ length buffer'

-- What a piece promises: it was taken as f says, and the line's buffer, which stood as h has it, holds its bytes too.
pub record AfterPiece (f : Fed) (h : Held) (s : State) (t : Tables) (line piece : List ℕ) (used : ℕ) (buffer buffer' : List ℕ)
    : Type 0 where
  pub taken : Taken f s t line piece used buffer buffer'
  pub held : held_in line s.len ≡ bytes_held h (take used piece)
