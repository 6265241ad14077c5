-- What a line does, case by case.
use mathlib.Core.Path.{◌≡◌, ap, ◌∙◌}
use mathlib.Core.Bool.{true, false}
use mathlib.Core.List.{List}
use Prim.Native.Nat.{ℕ, ◌<◌, ◌≤◌}
use borrow.Author.Tests.{le-leb, lt-leb, eq-eqb, ne_eqb}
use Rattle.replay_keys.specs.Keys.{rank, field_of}
use Rattle.meaning.proofs.Choices.{cond_true, cond_false}
use Rattle.replay_meaning.specs.Run.{Run, bad_line, completed, kept, good_line, line_judged, line_read, most_steps}

module _ (r : Run) (t : List ℕ) where
  pub line_over : r.at.over ≡ true → line_read r t ≡ r
  unfolding line_read
  line_over h = cond_true r.at.over r _ h

  pub line_full : r.at.over ≡ false → most_steps ≤ r.at.steps → line_read r t ≡ bad_line r
  unfolding line_read
  line_full h k =
      cond_false r.at.over r _ h ∙ ap (line_judged r) (cond_true _ _ (field_of r.at.key t) (le-leb most_steps r.at.steps k))

  pub line_judged_lem : r.at.over ≡ false → r.at.steps < most_steps → line_read r t ≡ line_judged r (field_of r.at.key t)
  unfolding line_read
  line_judged_lem h k =
      cond_false r.at.over r _ h ∙ ap (line_judged r) (cond_false _ _ (field_of r.at.key t) (lt-leb most_steps r.at.steps k))

pub good_last : (r : Run) (v : ℕ) → rank r.at.key ≡ 9 → good_line r v ≡ completed (kept r v)
unfolding good_line
good_last r v h = cond_true _ (completed (kept r v)) (kept r v) (eq-eqb (rank r.at.key) 9 h)

pub good_more : (r : Run) (v : ℕ) → (rank r.at.key ≡ 9 → ⊥) → good_line r v ≡ kept r v
unfolding good_line
good_more r v h = cond_false _ (completed (kept r v)) (kept r v) (ne_eqb (rank r.at.key) 9 h)
