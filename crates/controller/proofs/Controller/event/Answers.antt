-- `Controller::event` is `stepped` behind refusal 1: an interrupt of the Distributor's bank (returns-in-Dist), of the Redistributor's
-- (returns-in-Redist).
use Rattle.std.proofs.Common.{rules, ◌∙◌, sym, ap}
use Rattle.types.specs.declared.Frame.{Frame}
use Rattle.types.specs.declared.Frame.TheVariants.{Dist, Redist}
use Rattle.meaning.specs.Layout.{presence_of}
use Rattle.controller.specs.Answered.{tables_of}
use Rattle.controller.proofs.Outcomes.{event_banked}
use Rattle.controller.proofs.Controller.event.Goals as goal

pub returns-in-Dist : goal.returns-in-Dist
returns-in-Dist c =
    let o = c.args.self.now in
    let b = c.bank_of-bank.ensures in
    let here = c.in-Dist.is in
    record {
      is =
          event_banked o.shape (tables_of o) (sym c.if-not-fits.ensures.judged) c.args.event c.args.intid Dist
          (sym c.frame_of-frame.ensures ∙ here) c.bank_of-bank.result (b.frame ∙ here) b.shape
          (b.presence ∙ ap (λ (f : Frame). presence_of f (tables_of o)) here) _ _ c.happen.ensures;
      same = search rules;
    }

pub returns-in-Redist : goal.returns-in-Redist
returns-in-Redist c =
    let o = c.args.self.now in
    let b = c.bank_of-bank.ensures in
    let here = c.in-Redist.is in
    record {
      is =
          event_banked o.shape (tables_of o) (sym c.if-not-fits.ensures.judged) c.args.event c.args.intid Redist
          (sym c.frame_of-frame.ensures ∙ here) c.bank_of-bank.result (b.frame ∙ here) b.shape
          (b.presence ∙ ap (λ (f : Frame). presence_of f (tables_of o)) here) _ _ c.happen-in-Redist.ensures;
      same = search rules;
    }
