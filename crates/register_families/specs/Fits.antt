-- A window that a register word can have.
use Rattle.std.specs.Prelude.{◌+◌, ◌*◌, ◌%◌, ◌≤◌}
use Rattle.types.specs.declared.Window.{Window}
use Rattle.meaning.specs.Registers.{bits_of}

-- 32 bits have its digits, one presence word has its interrupts, and its INTIDs are numbers of this controller
pub record Fits (w : Window) : Type 0 where
  pub digits : w.count * bits_of w.family ≤ 32
  pub block : w.first % 32 + w.count ≤ 32
  pub numbers : w.first ≤ 8192
