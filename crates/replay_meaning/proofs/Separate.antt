-- THE REPLAY'S STEPS ARE THE CONTROLLER'S, each on the tables that the step before left.
--   tables_handed_on   a whole step leaves the machine's tables: what echoes the first ones does not
--   step_said          demand 3 of the replay: what is written for a Non-secure step, and what the Non-secure side then has, depends on the
--                      step and on what it had, in two replays whose other steps were others
use mathlib.Core.Path.{◌≡◌, refl, ap}
use mathlib.Core.List.{List, ◌++◌}
use Prim.Native.Nat.{ℕ, ◌+◌}
use Rattle.types.specs.declared.Side.TheVariants.{NonSecure}
use Rattle.meaning.specs.Answers.{Answer}
use Rattle.meaning.specs.Layout.{Tables, cell_of}
use Rattle.meaning.specs.Rule.{Step, access}
use Rattle.meaning.specs.Step.{stepped}
use Rattle.separation.specs.Lent.{Indistinct}
use Rattle.separation.specs.Steps.{NonSecureStep, its_access}
use Rattle.separation.proofs.Tables.{separate}
use Rattle.replay_meaning.specs.Run.{Run, shape_of, request_of, step_text, answered, completed}
use Rattle.replay_meaning.specs.declared.Progress.{Progress}

-- the step that a replay's values name
abbrev named : Progress → Step
named p = access (request_of p.values)

pub tables_handed_on : (r : Run) → (completed r).tables ≡ (stepped (shape_of r.at.values) (named r.at) r.tables).tables
unfolding completed answered
tables_handed_on r = refl

-- two replays that have come to the same step, with tables of which the Non-secure side has the same
module _ (p : Progress) (t u : Tables) (said said' : List ℕ) (h : Indistinct (shape_of p.values) t u)
    (its : (request_of p.values).side ≡ NonSecure) where
  abbrev one : Run
  one = record { at = p; tables = t; said = said }

  abbrev other : Run
  other = record { at = p; tables = u; said = said' }

  mine : NonSecureStep (cell_of (shape_of p.values) t) (named p)
  mine = its_access (request_of p.values) its

  pub step_said : (text : List ℕ) × ((completed one).said ≡ said ++ text) × ((completed other).said ≡ said' ++ text)
      × Indistinct (shape_of p.values) (completed one).tables (completed other).tables
  unfolding completed answered
  step_said =
      let apart = separate (shape_of p.values) in
      let back = apart.see_alike (named p) u t (apart.sym_alike t u h) (apart.public_alike (named p) t u h mine) in (
        step_text (p.steps + 1) (stepped (shape_of p.values) (named p) t).answered,
        refl,
        ap (λ (a : Answer). said' ++ step_text (p.steps + 1) a) back,
        apart.step_alike (named p) t u h mine,
      )
