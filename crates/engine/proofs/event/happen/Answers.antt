-- `happen` is the event at the slot of its INTID (returns), and refusal 7 where the bank has none (returns-in_err-slot).
use mathlib.Core.Path.{◌≡◌, sym, ◌∙◌}
use Rattle.types.specs.declared.Refusal.TheVariants.{Intid}
use Rattle.std.proofs.lemmas.Result.{err_from_is_err_and}
use Rattle.engine.proofs.Uses.{happened_slot, happened_none}
use Rattle.engine.proofs.event.happen.Goals as goal

pub returns-in_err-slot : goal.returns-in_err-slot
returns-in_err-slot c i h =
    let told = c.in_err-slot.ensures in
    let p = err_from_is_err_and c.from_residual.result c.from_residual.ensures.1 in
    let e : c.in_err-slot.field-0.0 ≡ Intid = let v = rw told.ok_part at told.value in cc in
    rw (p.1, p.2, e)
    (happened_none c.args.bank.shape c.args.event i _ _ (sym told.ok_part ∙ c.slot_of.ensures.first))

pub returns : goal.returns
returns c i h =
    let a = c.args in
    let done = c.happen_at.ensures a.bank.shape i h in
    happened_slot a.bank.shape a.event i _ _ _ _ _ (sym c.in_ok-slot.ensures.ok_part ∙ c.slot_of.ensures.first) done.0 done.1
