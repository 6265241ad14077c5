-- `berduzhika_access` is `access_returns`. Ways out: a call that is answered at once, and the controller's answer as one number.
use Rattle.std.proofs.Common.{rules, refl}
use Rattle.meaning.specs.Rule as step
use Rattle.berduzhika.proofs.Gate.{kept, passed}
use Rattle.berduzhika.proofs.berduzhika_access.Goals as goal

pub returns-in-Err : goal.returns-in-Err
returns-in-Err c =
    rw c.code.ensures
    (kept _ _ step.access _ _ _ c.asked.ensures c.shape_named.ensures c.access_named-request.ensures _ c.in-Err.is)

pub returns : goal.returns
returns c =
    rw c.code_of.ensures
    (passed _ _ step.access _ _ _ c.asked.ensures c.shape_named.ensures c.access_named-request.ensures
    _ c.in-Ok.is refl c.access.ensures (search rules) (search rules))
