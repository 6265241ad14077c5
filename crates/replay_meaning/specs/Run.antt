-- What one line does to a replay: document 01's "Bench replay".
use Rattle.std.specs.Prelude.{Bool, true, cond, List, ◌++◌, ℕ, ◌+◌, ◌*◌, eqb, leb, get_or, set, Option, Some, None}
use Rattle.types.specs.declared.Frame.{Frame}
use Rattle.types.specs.declared.Frame.TheVariants.{Dist, Redist}
use Rattle.types.specs.declared.Side.{Side}
use Rattle.types.specs.declared.Side.TheVariants.{Secure, NonSecure}
use Rattle.types.specs.declared.Way.{Way}
use Rattle.types.specs.declared.Way.TheVariants.{Read, Write}
use Rattle.types.specs.declared.Shape.{Shape}
use Rattle.types.specs.declared.Access.{Access}
use Rattle.meaning.specs.Answers.{Answer, status_of, value_of}
use Rattle.meaning.specs.Layout.{Tables}
use Rattle.meaning.specs.Rule.{access}
use Rattle.meaning.specs.Step.{Outcome, stepped}
use Rattle.text.specs.Text.{bytes}
use Rattle.text.specs.Number.{numbered}
use Rattle.replay_keys.specs.declared.Key.{Key}
use Rattle.replay_keys.specs.Keys.{rank, after, field_of}
use Rattle.replay_meaning.specs.declared.Progress.{Progress}

-- A replay between two lines: how far it has come, the lent tables, and what it has written.
pub record Run : Type 0 where
  pub at : Progress
  pub tables : Tables
  pub said : List ℕ

-- The values, by rank: the shape's numbers, and a step's words and numbers.
abbrev pub frame_of : ℕ → Frame
frame_of n = cond (eqb n 0) Dist Redist

abbrev pub side_of : ℕ → Side
side_of n = cond (eqb n 0) Secure NonSecure

abbrev pub way_of : ℕ → Way
way_of n = cond (eqb n 0) Read Write

unfoldable pub shape_of : List ℕ → Shape
shape_of vs = record { lines = get_or vs 0 0; espi = get_or vs 1 0; eppi = get_or vs 2 0; mbis = eqb (get_or vs 3 0) 1 }

unfoldable pub request_of : List ℕ → Access
request_of vs =
    record {
      frame = frame_of (get_or vs 5 0);
      side = side_of (get_or vs 6 0);
      way = way_of (get_or vs 4 0);
      width = get_or vs 7 0;
      offset = get_or vs 8 0;
      value = get_or vs 9 0;
    }

-- the number of the line whose turn it is, from 1: four lines of the shape, six of each step
unfoldable pub line_number : Progress → ℕ
line_number p = rank p.key + 6 * p.steps + 1

unfoldable pub bad_text : Progress → List ℕ
bad_text p = numbered (bytes "bad=") (line_number p)

unfoldable pub stopped : Progress → Progress
stopped p = record { key = p.key; values = p.values; steps = p.steps; over = true }

-- at the first bad line: its number, and nothing after it
unfoldable pub bad_line : Run → Run
bad_line r = record { at = stopped r.at; tables = r.tables; said = r.said ++ bad_text r.at }

-- for each step step=, status= (0 or the refusal), value=
unfoldable pub step_text : ℕ → Answer → List ℕ
step_text n a =
    numbered (bytes "step=") n ++ (numbered (bytes "status=") (status_of a) ++ numbered (bytes "value=") (value_of a))

unfoldable pub counted : Progress → Progress
counted p = record { key = p.key; values = p.values; steps = p.steps + 1; over = p.over }

unfoldable pub answered : Run → Outcome → Run
answered r o =
    record { at = counted r.at; tables = o.tables; said = r.said ++ step_text (r.at.steps + 1) o.answered }

-- a whole step: the machine's answer, and the tables that it leaves
unfoldable pub completed : Run → Run
completed r = answered r (stepped (shape_of r.at.values) (access (request_of r.at.values)) r.tables)

-- a good line: its value is kept, and the next key's turn comes
unfoldable pub keeping : Progress → ℕ → Progress
keeping p v = record { key = after p.key; values = set p.values (rank p.key) v; steps = p.steps; over = p.over }

unfoldable pub kept : Run → ℕ → Run
kept r v = record { at = keeping r.at v; tables = r.tables; said = r.said }

-- value= is a step's last line
abbrev pub is_last : Key → Bool
is_last k = eqb (rank k) 9

unfoldable pub good_line : Run → ℕ → Run
good_line r v = cond (is_last r.at.key) (completed (kept r v)) (kept r v)

-- a line by what it says: a value is kept, and anything else is a bad line
abbrev pub line_judged : Run → Option ℕ → Run
line_judged r (Some v) = good_line r v
line_judged r None = bad_line r

abbrev pub most_steps : ℕ
most_steps = 1000000

-- What one line does. Step 1,000,001 has no good line. After a bad line nothing is read.
unfoldable pub line_read : Run → List ℕ → Run
line_read r t =
    cond r.at.over r (line_judged r (cond (leb most_steps r.at.steps) None (field_of r.at.key t)))
