-- `happened` is `happened`. A wire is `wired`'s; an activation and a deactivation need no answer.
use Rattle.record_events.proofs.happened.Goals as goal

pub returns-in-Wire : goal.returns-in-Wire
returns-in-Wire c s i h = rw c.in-Wire.is (c.wired.ensures s i h)
