-- A bank's own span of n INTIDs from m on.
use Rattle.std.specs.Prelude.{ℕ}
use Rattle.table_spans.specs.declared.Bank.{Bank}
use Rattle.table_spans.specs.declared.Span.{Span}
use Rattle.table_spans.specs.Span.{span_of}

abbrev pub bank_span : Bank → ℕ → ℕ → Span
bank_span b m n = span_of b.shape b.presence.now b.frame m n
