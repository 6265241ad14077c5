-- `Sheet::put_digits` puts `digits_of k n`. It calls itself with k - 1, and the measure is k. The way out by which the digits before the
-- last are put by the call of itself, and then the last (returns); the check finds the others.
use Rattle.text.proofs.Numbers.{digits_more}
use Rattle.text.proofs.Puts.{writes_both}
use Rattle.text.proofs.write.Sheet.+put_digits.Goals as goal

pub returns : goal.returns
returns t c =
    rw (digits_more c.args.k c.args.n c.if-k-eq0.false c.if-n-lt10.false)
    (writes_both c.put_digits.ensures c.put_byte-2.ensures)
