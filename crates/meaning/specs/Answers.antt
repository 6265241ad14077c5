-- An answer is a Result: done with a value, or refused. This gives each case document 01's number and value.
use Rattle.std.specs.Prelude.{ℕ, Result, Ok, Err}
use Rattle.types.specs.declared.Place.{Place}
use Rattle.types.specs.declared.Refusal.{Refusal}
use Rattle.types.specs.declared.Refusal.TheVariants as refusals

-- what a step is answered: Ok is done, with a value; Err is refused
abbrev pub Answer : Type 0
Answer = Result ℕ Refusal

-- where an access goes: Ok is a listed register word
abbrev pub Decoded : Type 0
Decoded = Result Place Refusal

abbrev pub number : Refusal → ℕ
number refusals.Shape = 1
number refusals.Width = 2
number refusals.Alignment = 3
number refusals.Offset = 4
number refusals.Unlisted = 5
number refusals.Narrow = 6
number refusals.Intid = 7
number refusals.SgiWire = 8
number refusals.State = 9

-- 0 for done, else the refusal's number
abbrev pub status_of : Answer → ℕ
status_of (Ok v) = 0
status_of (Err r) = number r

-- a refusal carries 0
abbrev pub value_of : Answer → ℕ
value_of (Ok v) = v
value_of (Err r) = 0
