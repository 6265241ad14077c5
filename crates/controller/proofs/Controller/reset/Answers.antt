-- `Controller::reset` is `stepped` behind refusal 1: all records 0.
use Rattle.std.proofs.Common.{rules, sym}
use Rattle.controller.specs.Answered.{tables_of}
use Rattle.controller.proofs.Outcomes.{all_cleared}
use Rattle.controller.proofs.Controller.reset.Goals as goal

pub returns : goal.returns
returns c =
    let o = c.args.self.now in
    record {
      is =
          all_cleared o.shape (tables_of o) (sym c.if-not-fits.ensures.judged) _ _ c.clear.ensures
          c.clear-2.ensures;
      same = search rules;
    }
