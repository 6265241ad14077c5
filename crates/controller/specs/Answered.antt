-- What a method of the controller answers and leaves.
use Rattle.std.specs.Prelude.{◌≡◌, length}
use Rattle.meaning.specs.Answers.{Answer}
use Rattle.meaning.specs.Layout.{Tables, lent}
use Rattle.meaning.specs.Rule.{Step}
use Rattle.meaning.specs.Step.{Outcome, stepped}
use Rattle.controller.specs.declared.Controller.{Controller}

-- the four lent tables, as they are in memory
abbrev pub tables_of : Controller → Tables
tables_of c = lent c.dist.now c.redist.now c.dist_presence.now c.redist_presence.now

-- It holds what it held: the same lent record tables, by name, as long as they were; the same presence words; the same shape.
pub record Holds (c c' : Controller) : Type 0 where
  pub dist : c'.dist.ghost_name ≡ c.dist.ghost_name
  pub redist : c'.redist.ghost_name ≡ c.redist.ghost_name
  pub dist_long : length c'.dist.now ≡ length c.dist.now
  pub redist_long : length c'.redist.now ≡ length c.redist.now
  pub dist_presence : c'.dist_presence ≡ c.dist_presence
  pub redist_presence : c'.redist_presence ≡ c.redist_presence
  pub shape : c'.shape ≡ c.shape

-- THE PROMISE: the answer, and all four tables after the step, are what the meaning's `stepped` says, refusals included.
pub record Answered (c : Controller) (q : Step) (a : Answer) (c' : Controller) : Type 0 where
  pub is : ◌≡◌ {A = Outcome} (record { answered = a; tables = tables_of c' }) (stepped c.shape q (tables_of c))
  pub same : Holds c c'
