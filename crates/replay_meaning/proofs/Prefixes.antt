-- What a replay does next does not depend on what it has written so far. So its output can be handed on at any time: what is written
-- from there on comes after it (closed_handed_on).
use mathlib.Core.Path.{◌≡◌, refl, sym, ap, ◌∙◌}
use mathlib.Core.Bool.{cond}
use mathlib.Core.List.{List, [], ◌∷◌, ◌++◌, append_assoc, append-nil}
use Prim.Native.Nat.{ℕ, ◌+◌}
use lib.Dec.{eqb, leb}
use Rattle.meaning.specs.Step.{Outcome, stepped}
use Rattle.meaning.specs.Rule.{access}
use Rattle.meaning.proofs.Choices.{cond_alike}
use Rattle.std.specs.Prelude.{Option, Some, None}
use Rattle.replay_keys.specs.Keys.{field_of}
use Rattle.replay_meaning.specs.Run.{Run, shape_of, request_of, bad_text, bad_line, step_text, answered, completed, kept, is_last}
use Rattle.replay_meaning.specs.Run.{good_line, line_judged, line_read, most_steps}
use Rattle.replay_meaning.specs.Replay.{ending, finished}
use Rattle.replay_meaning.specs.Stream.{Live, byte_read, fed, closed, handed_on}

-- the run r, with the text t written before all that r has written
abbrev behind : List ℕ → Run → Run
behind t r = record { at = r.at; tables = r.tables; said = t ++ r.said }

bad_behind : (t : List ℕ) (r : Run) → bad_line (behind t r) ≡ behind t (bad_line r)
unfolding bad_line
bad_behind t r =
    ap (λ (s : List ℕ). record { at = (bad_line r).at; tables = r.tables; said = s }) (append_assoc t r.said (bad_text r.at))

answered_behind : (t : List ℕ) (r : Run) (o : Outcome) → answered (behind t r) o ≡ behind t (answered r o)
unfolding answered
answered_behind t r o =
    ap (λ (s : List ℕ). record { at = (answered r o).at; tables = o.tables; said = s })
    (append_assoc t r.said (step_text (r.at.steps + 1) o.answered))

completed_behind : (t : List ℕ) (r : Run) → completed (behind t r) ≡ behind t (completed r)
unfolding completed
completed_behind t r = answered_behind t r (stepped (shape_of r.at.values) (access (request_of r.at.values)) r.tables)

good_behind : (t : List ℕ) (r : Run) (v : ℕ) → good_line (behind t r) v ≡ behind t (good_line r v)
unfolding good_line kept
good_behind t r v =
    cond_alike (λ (q : Run). q) (behind t) (is_last r.at.key) _ _ _ _ (λ e. completed_behind t (kept r v)) (λ e. refl)

judged_behind : (t : List ℕ) (r : Run) (n : Option ℕ) → line_judged (behind t r) n ≡ behind t (line_judged r n)
judged_behind t r (Some v) = good_behind t r v
judged_behind t r None = bad_behind t r

line_behind : (t : List ℕ) (r : Run) (l : List ℕ) → line_read (behind t r) l ≡ behind t (line_read r l)
unfolding line_read
line_behind t r l =
    cond_alike (λ (q : Run). q) (behind t) r.at.over _ _ _ _ (λ e. refl)
    (λ e. judged_behind t r (cond (leb most_steps r.at.steps) None (field_of r.at.key l)))

-- the same of a replay in the middle of a line
abbrev later : List ℕ → Live → Live
later t l = record { run = behind t l.run; line = l.line; most = l.most }

byte_later : (t : List ℕ) (l : Live) (b : ℕ) → byte_read (later t l) b ≡ later t (byte_read l b)
unfolding byte_read
byte_later t l b =
    cond_alike (λ (m : Live). m) (later t) (eqb b 10) _ _ _ _
    (λ e. ap (λ (r : Run). record { run = r; line = []; most = l.most }) (line_behind t l.run l.line)) (λ e. refl)

fed_later : (t : List ℕ) (l : Live) (bs : List ℕ) → fed (later t l) bs ≡ later t (fed l bs)
unfolding fed
fed_later t l [] = refl
fed_later t l (b ∷ bs) = ap (λ (m : Live). fed m bs) (byte_later t l b) ∙ fed_later t (byte_read l b) bs

closed_later : (t : List ℕ) (l : Live) → closed (later t l) ≡ t ++ closed l
unfolding closed finished
closed_later t l = append_assoc t l.run.said (ending l.run.at l.line)

-- a replay is its output so far, and after it the same replay with that output handed on
live_handed_on : (l : Live) → later l.run.said (handed_on l) ≡ l
unfolding handed_on
live_handed_on l =
    ap (λ (s : List ℕ). record { run = record { at = l.run.at; tables = l.run.tables; said = s }; line = l.line; most = l.most })
    (append-nil l.run.said)

pub closed_handed_on : (l : Live) (bs : List ℕ) → closed (fed l bs) ≡ l.run.said ++ closed (fed (handed_on l) bs)
closed_handed_on l bs =
    ap (λ (m : Live). closed (fed m bs)) (sym (live_handed_on l))
    ∙ (ap closed (fed_later l.run.said (handed_on l) bs) ∙ closed_later l.run.said (fed (handed_on l) bs))
