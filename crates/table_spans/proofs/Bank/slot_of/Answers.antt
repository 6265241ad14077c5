-- The slot that `slot_of` finds is one of the bank's.
use native.Mathlib.Omega.{arith}
use Rattle.table_spans.proofs.Spanned.{first_inside}
use Rattle.table_spans.proofs.Bank.slot_of.Goals as goal

pub returns-clause-inside : goal.returns-clause-inside
returns-clause-inside c =
    rw c.first.ensures (first_inside c.args.self.frame 1 _ (c.span_of.ensures.bounds (omega arith)))
