-- `walk`: the records before x are done, the others as they were.
use Rattle.std.proofs.Common.{ℕ, length}
use Rattle.lists.proofs.Loops.{Mapped}
use Rattle.types.specs.declared.Shape.{Shape}
use Rattle.meaning.specs.Interrupt.{Interrupt}
use Rattle.table_words.specs.Part.{Numbered, stored_at}
use Rattle.table_words.proofs.walk.Given as goal

abbrev pub invariant-loop-x : goal.invariant-loop-x
invariant-loop-x l =
    (s : Shape) (at : ℕ → Interrupt)
    → Numbered (length l.initial.part) l.word.first at
    → Mapped (stored_at s at l.word l.value) l.initial.part l.part l.x
