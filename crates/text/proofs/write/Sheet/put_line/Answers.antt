-- `Sheet::put_line` puts `numbered`: the key, the number's digits and the line's end, one after the other. One way out.
use Rattle.text.specs.Number.{numbered, decimal}
use Rattle.text.proofs.Puts.{writes_both}
use Rattle.text.proofs.write.Sheet.put_line.Goals as goal

pub returns : goal.returns
unfolding numbered decimal
returns c = writes_both c.put.ensures (writes_both c.put_digits.ensures c.put_byte.ensures)
