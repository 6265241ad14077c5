-- What a word asks for: who accesses which family, the INTID of the part's first record, and (bit x) whether record x is implemented.
use Rattle.std.specs.Prelude.{ℕ}
use Rattle.types.specs.declared.Side.{Side}
use Rattle.types.specs.declared.Family.{Family}

pub record Asked : Type 0 where
  pub side : Side
  pub family : Family
  pub first : ℕ
  pub implemented : ℕ
