-- A whole replay: the output for an input, by lines.
use Rattle.std.specs.Prelude.{Bool, false, cond, ◌&&◌, List, [], ◌∷◌, ◌++◌, ℕ, eqb, length, replicate}
use Rattle.meaning.specs.Layout.{Tables}
use Rattle.text.specs.Text.{bytes}
use Rattle.text.specs.Number.{numbered}
use Rattle.replay_keys.specs.declared.Key.{Key}
use Rattle.replay_keys.specs.declared.Key.TheVariants as key
use Rattle.replay_keys.specs.Keys.{rank}
use Rattle.replay_meaning.specs.declared.Progress.{Progress}
use Rattle.replay_meaning.specs.Run.{Run, bad_text, line_read}

-- A text cut at its line ends: its whole lines, and the rest after the last line end.
pub record Cut : Type 0 where
  pub lines : List (List ℕ)
  pub rest : List ℕ

abbrev pub longer : ℕ → List (List ℕ) → List ℕ → Cut
longer b [] rest = record { lines = []; rest = b ∷ rest }
longer b (l ∷ ls) rest = record { lines = (b ∷ l) ∷ ls; rest = rest }

unfoldable pub cut : List ℕ → Cut
cut [] = record { lines = []; rest = [] }
cut (b ∷ bs) =
    cond (eqb b 10) (record { lines = [] ∷ (cut bs).lines; rest = (cut bs).rest }) (longer b (cut bs).lines (cut bs).rest)

-- The lent tables of a replay, by their records: all interrupts are present.
unfoldable pub all_present : List ℕ → List ℕ → Tables
all_present dist redist =
    record {
      dist = dist;
      redist = redist;
      dist_presence = replicate 63 4294967295;
      redist_presence = replicate 3 4294967295;
    }

-- Records start at 0.
unfoldable pub start_tables : Tables
start_tables = all_present (replicate 2012 0) (replicate 96 0)

unfoldable pub start_progress : Progress
start_progress = record { key = key.Lines; values = replicate 10 0; steps = 0; over = false }

unfoldable pub start : Run
start = record { at = start_progress; tables = start_tables; said = [] }

unfoldable pub lines_read : Run → List (List ℕ) → Run
lines_read r [] = r
lines_read r (t ∷ ts) = lines_read (line_read r t) ts

-- op= is a step's first line: only before it may the input end
abbrev pub is_first : Key → Bool
is_first k = eqb (rank k) 4

-- What is written at the end of the input, after its last whole line: nothing once a bad line was read; end= and the count;
-- or, for a missing line or one without its line end, bad=.
unfoldable pub ending : Progress → List ℕ → List ℕ
ending p rest =
    cond p.over []
    (cond (is_first p.key && eqb (length rest) 0) (numbered (bytes "end=") p.steps) (bad_text p))

unfoldable pub finished : Run → List ℕ → List ℕ
finished r rest = r.said ++ ending r.at rest

-- THE REPLAY: the whole output for a whole input
unfoldable pub replayed : List ℕ → List ℕ
replayed input = finished (lines_read start (cut input).lines) (cut input).rest
