-- `Digit::stored` is `stored_at`: the digit of the value, and what writing it leaves.
use Rattle.lists.specs.Word.{digit_at}
use Rattle.table_words.specs.Part.{stored_at}
use Rattle.table_words.proofs.Digits.{modulus}
use Rattle.table_words.proofs.Digit.stored.Goals as goal

pub returns : goal.returns
unfolding stored_at digit_at
returns c s at n = rw (c.row-row.ensures, modulus c.args.self.word.family) at (c.written.ensures s at n)
