-- `clear` leaves a 0 at every place: `fill` leaves as many zeros as there were records.
use Rattle.std.proofs.lemmas.List.{get_or-replicate}
use Rattle.lists.proofs.Maps.{is-map_from}
use Rattle.engine.specs.Bank.{zeroed}
use Rattle.engine.proofs.reset.clear.Goals as goal

pub returns : goal.returns
returns c = is-map_from zeroed _ _ c.fill.ensures.len (λ k l. rw (c.fill.ensures.after (λ y h. h)) (get_or-replicate _ k 0 0 l))
