-- The answer as one number of 64 bits, and what is answered before there is a request.
use Rattle.std.specs.Prelude.{Bool, true, false, ℕ, ◌+◌, ◌*◌, ◌/◌, ◌%◌, ◌^◌, Option, Some, None, Result, Ok, Err}
use Rattle.types.specs.declared.Refusal.TheVariants as refusal
use Rattle.types.specs.declared.Shape.{Shape}
use Rattle.meaning.specs.Answers.{Answer, status_of, value_of}
use Rattle.abi_numbers.specs.declared.Shut.{Shut}
use Rattle.abi_numbers.specs.declared.Shut.TheVariants.{Nameless, IllShaped}

-- THE ANSWER AS ONE NUMBER: status · 2^32 + value
abbrev pub joined : ℕ → ℕ → ℕ
joined status value = status * 2 ^ 32 + value

unfoldable pub code_of : Answer → ℕ
code_of a = joined (status_of a) (value_of a)

-- what a caller takes out of it
abbrev pub status_in : ℕ → ℕ
status_in n = n / 2 ^ 32

abbrev pub value_in : ℕ → ℕ
value_in n = n % 2 ^ 32

-- Tried before the machine: 100, outside document 01's numbers, where a number of the request names nothing; then document 01's
-- refusal 1, where mbis, a number of the shape, is neither 0 nor 1. 0 lets the request pass. The theorems speak of `shut`; the code
-- answers `asked`. An Err of `asked` has the number that `shut` has (`shut_code`), of the same two tests in the same order; Ok is its 0.
unfoldable pub shut : Bool → Bool → ℕ
shut false sound = joined 100 0
shut true false = code_of (Err refusal.Shape)
shut true true = 0

-- The same of what the code has found, in the same order.
abbrev pub shut_code : Shut → ℕ
shut_code Nameless = joined 100 0
shut_code IllShaped = code_of (Err refusal.Shape)

abbrev pub asked : {T : Type 0} → Option Shape → Option T → Result (Shape × T) Shut
asked shape None = Err Nameless
asked None (Some q) = Err IllShaped
asked (Some s) (Some q) = Ok (s, q)
