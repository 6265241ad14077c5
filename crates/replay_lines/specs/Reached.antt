-- How the lent memory stands for a replay, and what a line has reached.
use Rattle.std.specs.Prelude.{◌≡◌, List, ◌++◌, ℕ, ◌≤◌, length, take, drop}
use Rattle.meaning.specs.Layout.{Tables}
use Rattle.text.specs.declared.write.Sheet.{Sheet}
use Rattle.text.specs.Sheet.{Writes}
use Rattle.replay_meaning.specs.declared.Progress.{Progress}
use Rattle.replay_meaning.specs.Run.{Run, bad_text, stopped}
use Rattle.replay_state.specs.declared.State.{State}

-- what stands before the end e of the buffer is what was written
abbrev pub run_of : Progress → Tables → List ℕ → ℕ → Run
run_of p t buffer e = record { at = p; tables = t; said = take e buffer }

-- what a sheet holds is what was written
abbrev pub run_on : Progress → Tables → Sheet → Run
run_on p t s = run_of p t s.bytes.now s.end

-- A line has reached the replay r: in the state s, with nothing of the next line kept. The buffer was written from e up to the end
-- that s names, and after that it is as it was.
pub record Reached (r : Run) (s : State) (t : Tables) (buffer : List ℕ) (e : ℕ) (buffer' : List ℕ) : Type 0 where
  pub run : run_of s.at t buffer' s.end ≡ r
  pub none : s.len ≡ 0
  pub kept : drop s.end buffer' ≡ drop s.end buffer
  pub more : e ≤ s.end
  pub fits : s.end ≤ length buffer'

-- The same on a sheet: the replay has come as far as p, and what is new of its output was put on the sheet.
pub record Advanced (r : Run) (p : Progress) (t : Tables) (s s' : Sheet) : Type 0 where
  pub text : List ℕ
  pub put : Writes s text s'
  pub run : record { at = p; tables = t; said = take s.end s.bytes.now ++ text } ≡ r

-- A bad line: the replay is over, and bad= is put.
pub record BadWritten (p p' : Progress) (s s' : Sheet) : Type 0 where
  pub over : p' ≡ stopped p
  pub put : Writes s (bad_text p) s'
