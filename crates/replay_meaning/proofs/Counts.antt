-- bad= shows the number of the line that is bad: the line whose turn it is, counted from 1.
use mathlib.Core.Path.{◌≡◌}
use mathlib.Core.Bool.{Bool, false, cond, true≢false}
use mathlib.Core.List.{List, [], ◌∷◌}
use Prim.Native.Nat.{ℕ, suc, ◌+◌}
use native.Mathlib.Omega.{arith}
use lib.Dec.{leb}
use lib.ListN.{length}
use Rattle.lists.proofs.Bools.{clash}
use Rattle.meaning.specs.Layout.{Tables}
use Rattle.meaning.proofs.Choices.{chosen}
use Rattle.std.specs.Prelude.{Option, Some, None}
use Rattle.replay_keys.specs.declared.Key.{Key}
use Rattle.replay_keys.specs.declared.Key.TheVariants.{Lines, Espi, Eppi, Mbis, Op, Frame, Sec, Width, Offset, Value}
use Rattle.replay_keys.specs.Keys.{field_of}
use Rattle.replay_meaning.specs.Run.{Run, line_number, stopped, bad_line, counted, answered, completed, keeping, kept}
use Rattle.replay_meaning.specs.Run.{good_line, line_judged, line_read, most_steps}
use Rattle.replay_meaning.specs.Replay.{start, start_progress, lines_read}

abbrev run : Key → List ℕ → ℕ → Bool → Tables → List ℕ → Run
run k vs n o t s = record { at = record { key = k; values = vs; steps = n; over = o }; tables = t; said = s }

good_counts : (k : Key) (vs : List ℕ) (n : ℕ) (o : Bool) (t : Tables) (s : List ℕ) (v : ℕ)
    → line_number (good_line (run k vs n o t s) v).at ≡ suc (line_number (run k vs n o t s).at)
unfolding good_line kept keeping completed answered counted line_number
good_counts Lines vs n o t s v = omega arith
good_counts Espi vs n o t s v = omega arith
good_counts Eppi vs n o t s v = omega arith
good_counts Mbis vs n o t s v = omega arith
good_counts Op vs n o t s v = omega arith
good_counts Frame vs n o t s v = omega arith
good_counts Sec vs n o t s v = omega arith
good_counts Width vs n o t s v = omega arith
good_counts Offset vs n o t s v = omega arith
good_counts Value vs n o t s v = omega arith

judged_counts : (r : Run) (n : Option ℕ) → (line_judged r n).at.over ≡ false → line_number (line_judged r n).at ≡ suc (line_number r.at)
unfolding bad_line stopped
judged_counts r (Some v) h = good_counts r.at.key r.at.values r.at.steps r.at.over r.tables r.said v
judged_counts r None h = absurd (true≢false h)

-- once over, a replay stays so
line_stays : (r : Run) (t : List ℕ) → (line_read r t).at.over ≡ false → r.at.over ≡ false
unfolding line_read
line_stays r t =
    chosen (λ (q : Run). q.at.over ≡ false → r.at.over ≡ false) r.at.over r _ (λ e h. h) (λ e h. e)

lines_stay : (r : Run) (ts : List (List ℕ)) → (lines_read r ts).at.over ≡ false → r.at.over ≡ false
unfolding lines_read
lines_stay r [] h = h
lines_stay r (t ∷ ts) h = line_stays r t (lines_stay (line_read r t) ts h)

-- each line that is not bad counts one
line_counts : (r : Run) (t : List ℕ) → (line_read r t).at.over ≡ false → line_number (line_read r t).at ≡ suc (line_number r.at)
unfolding line_read
line_counts r t h =
    chosen (λ (q : Run). q.at.over ≡ false → line_number q.at ≡ suc (line_number r.at)) r.at.over r _
    (λ e k. absurd (clash e k)) (λ e. judged_counts r (cond (leb most_steps r.at.steps) None (field_of r.at.key t))) h

lines_count : (r : Run) (ts : List (List ℕ)) → (lines_read r ts).at.over ≡ false
    → line_number (lines_read r ts).at ≡ length ts + line_number r.at
unfolding lines_read
lines_count r [] h = omega arith
lines_count r (t ∷ ts) h =
    let first = line_counts r t (lines_stay (line_read r t) ts h) in
    let more = lines_count (line_read r t) ts h in
    omega arith

-- after n good lines the next line's number is n + 1
pub lines_counted : (ts : List (List ℕ)) → (lines_read start ts).at.over ≡ false → line_number (lines_read start ts).at ≡ length ts + 1
unfolding start start_progress line_number
lines_counted ts h = lines_count start ts h
