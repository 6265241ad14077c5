-- `jump`: x is the place of the lowest 1 of what remains of the value, and 32 where nothing does; a record whose bit is not among what
-- remains is as `stored` has it. The measure is what remains.
use Rattle.std.proofs.Common.{◌≡◌, ℕ, length}
use lib.Count.{count_trailing_zeros}
use Rattle.lists.proofs.Jumps.{Jumped}
use Rattle.types.specs.declared.Shape.{Shape}
use Rattle.meaning.specs.Interrupt.{Interrupt}
use Rattle.table_words.specs.Part.{Numbered, stored_at}
use Rattle.table_words.proofs.jump.Given as goal

abbrev pub invariant-loop-x : goal.invariant-loop-x
invariant-loop-x l =
    record {
      next : l.x ≡ count_trailing_zeros 32 l.rest;
      jumped : (s : Shape) (at : ℕ → Interrupt)
          → Numbered (length l.initial.part) l.word.first at
          → Jumped (stored_at s at l.word l.value) l.initial.part l.part l.value l.rest;
    }

abbrev pub decreases-loop-x : goal.decreases-loop-x
decreases-loop-x l = l.rest
