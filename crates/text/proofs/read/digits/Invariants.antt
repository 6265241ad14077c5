-- The bytes before the index are digits, and n is what they write.
use Rattle.std.proofs.Common.{◌≡◌, ◌≤◌, drop}
use Rattle.text.specs.Number.{digits_after}
use Rattle.text.proofs.read.digits.Given as goal

abbrev pub invariant-loop-b : goal.invariant-loop-b
invariant-loop-b l =
    record { small : l.n ≤ 4294967295; rest : digits_after 0 l.text ≡ digits_after l.n (drop l.b-index l.text) }
