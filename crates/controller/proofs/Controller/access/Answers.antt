-- `Controller::access` is `stepped` behind refusal 1: refusals 2 to 6 (returns-in_err-place), an access at its place (returns).
use Rattle.std.proofs.Common.{rules, sym}
use Rattle.std.proofs.lemmas.Result.{err_from_is_err_and}
use Rattle.register_decoder.proofs.Windows.{placed_number}
use Rattle.controller.specs.Answered.{tables_of}
use Rattle.controller.proofs.Places.{target_room}
use Rattle.controller.proofs.Outcomes.{access_refused, access_served}
use Rattle.controller.proofs.Controller.access.Goals as goal

pub returns-in_err-place : goal.returns-in_err-place
returns-in_err-place c =
    let o = c.args.self.now in
    let p = err_from_is_err_and c.from_residual.result c.from_residual.ensures.1 in
    record {
      is =
          rw (p.1, p.2)
          (access_refused o.shape (tables_of o) (sym c.if-not-fits.ensures.judged) c.args.request _
          (sym c.in_err-place.ensures));
      same = search rules;
    }

pub target_of-target-requires : goal.target_of-target-requires
target_of-target-requires c = placed_number c.args.request c.in_ok-place.place (sym c.in_ok-place.ensures)

pub serve-requires : goal.serve-requires
serve-requires c =
    let o = c.args.self.now in
    target_room o.shape (tables_of o) (sym c.if-not-fits.ensures.judged) c.args.request c.in_ok-place.place
    (sym c.in_ok-place.ensures) c.target_of-target.result c.target_of-target.ensures c.bank_of-bank.result c.bank_of-bank.ensures.frame

pub returns : goal.returns
returns c =
    let o = c.args.self.now in
    let served = rw c.bank_of-bank.ensures.shape at c.serve.ensures in
    record {
      is =
          access_served o.shape (tables_of o) (sym c.if-not-fits.ensures.judged) c.args.request c.in_ok-place.place
          (sym c.in_ok-place.ensures) c.target_of-target.result c.target_of-target.ensures c.bank_of-bank.result.presence.now
          c.bank_of-bank.ensures.presence _ _ _ served;
      same = search rules;
    }
