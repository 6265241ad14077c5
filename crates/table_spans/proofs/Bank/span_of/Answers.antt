-- `span_of` where the range has the first INTID (returns-then-contains): what it asks there, and the span's bounds.
use mathlib.Core.Path.{sym, ◌∙◌}
use Rattle.table_spans.proofs.Spanned.{bounded_at, inside}
use Rattle.table_spans.proofs.Bank.span_of.Goals as goal

pub span_at-requires : goal.span_at-requires
span_at-requires c =
    inside c.args.self c.args.first c.args.count c.requires.count_bound _ c.range_of-range.ensures
    (sym c.contains.ensures ∙ c.if-contains.true)

pub returns-then-contains-clause-bounds : goal.returns-then-contains-clause-bounds
returns-then-contains-clause-bounds c block =
    rw c.span_at.ensures
    (bounded_at c.args.self c.args.first c.args.count block _ c.range_of-range.ensures (sym c.contains.ensures ∙ c.if-contains.true))
