-- `gather`: the value is the row of the digits so far.
use Rattle.std.proofs.Common.{◌≡◌, ℕ, length, get_or}
use Rattle.lists.specs.Word.{row}
use Rattle.types.specs.declared.Shape.{Shape}
use Rattle.meaning.specs.Interrupt.{Interrupt}
use Rattle.meaning.specs.Registers.{bits_of}
use Rattle.table_words.specs.Part.{Numbered, shown_at}
use Rattle.table_words.proofs.gather.Given as goal

abbrev pub invariant-loop-x : goal.invariant-loop-x
invariant-loop-x l =
    (s : Shape) (at : ℕ → Interrupt)
    → Numbered (length l.part) l.word.first at
    → l.value ≡ row (bits_of l.word.family) l.x (λ k. shown_at s at l.word k (get_or l.part k 0))
