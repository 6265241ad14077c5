-- Numbers in text: decimal, at most 4294967295, no leading zeros.
use Rattle.std.specs.Prelude.{Bool, cond, ◌&&◌, ◌||◌, List, [], ◌∷◌, ◌++◌, ℕ, zero, suc, ◌+◌, ◌*◌, ◌-◌, ◌/◌, ◌%◌, eqb, ltb, leb, length}
use Rattle.std.specs.Prelude.{get_or, Option, Some, None}

abbrev pub is_digit : ℕ → Bool
is_digit b = leb 48 b && leb b 57

-- n where it is at most the limit, and no number otherwise
unfoldable pub limited : ℕ → ℕ → Option ℕ
limited most n = cond (leb n most) (Some n) None

-- the number that the digits go on to write, n being what the digits before them write
unfoldable pub digits_after : ℕ → List ℕ → Option ℕ
digits_after n [] = limited 4294967295 n
digits_after n (b ∷ bs) = cond (is_digit b) (digits_after (n * 10 + (b - 48)) bs) None

unfoldable pub leading_zero : List ℕ → Bool
leading_zero t = ltb 1 (length t) && eqb (get_or t 0 0) 48

unfoldable pub number_in : List ℕ → Option ℕ
number_in t = cond (eqb (length t) 0 || leading_zero t) None (digits_after 0 t)

-- n in decimal, its last k digits at most, with no leading zeros
unfoldable pub digits_of : ℕ → ℕ → List ℕ
digits_of zero n = []
digits_of (suc k) n = cond (ltb n 10) [] (digits_of k (n / 10)) ++ ((48 + n % 10) ∷ [])

-- twenty digits hold every number of 64 bits
unfoldable pub decimal : ℕ → List ℕ
decimal n = digits_of 20 n

-- a line of text: a key, its number, and the line's end
unfoldable pub numbered : List ℕ → ℕ → List ℕ
numbered key n = key ++ (decimal n ++ (10 ∷ []))
