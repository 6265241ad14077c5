-- Laws of decimal numbers in text.
--   digits_step, digits_end    reading a number goes on by one digit, and ends with the text
--   digits_big, number_long    a text that writes more than 4294967295, or has more than ten bytes, writes no number
--   digits_one, digits_more    writing a number: its one digit, or the digits before the last and then the last
--   length_digits, length_numbered    a number has at most twenty digits, and so a line is at most 21 bytes longer than its key
use mathlib.Core.Path.{◌≡◌, refl, sym, ◌∙◌}
use mathlib.Core.Bool.{Bool, true, false, cond}
use mathlib.Core.List.{List, [], ◌∷◌, ◌++◌}
use Prim.Native.Nat.{ℕ, zero, suc, ◌+◌, ◌*◌, ◌-◌, ◌/◌, ◌%◌, ◌^◌, ◌<◌, ◌≤◌, zero-le}
use Rattle.std.specs.Prelude.{Option, Some, None}
use native.Mathlib.Nat.{not-suc-le-zero, pow-succ', mul_assoc, mul-le-mul, mul-le-mul_right, pow-le-pow_right}
use native.Mathlib.Numerals.{add-one, sub-one}
use native.Mathlib.Omega.{arith}
use lib.Dec.{eqb, ltb, leb}
use lib.ListN.{length, get_or, drop, length-append}
use lib.Seq.{drop-cons, drop-length}
use borrow.Author.Tests.{le-leb, lt-leb, lt-ltb, le-ltb, leb-true, eqb-false, ne_eqb}
use Rattle.text.specs.Number.{is_digit, limited, digits_after, digits_of, decimal, numbered, leading_zero, number_in}

module _ (n : ℕ) (t : List ℕ) (i : ℕ) where
  digits_step : i < length t
      → digits_after n (drop i t) ≡ cond (is_digit (get_or t i 0)) (digits_after (n * 10 + (get_or t i 0 - 48)) (drop (i + 1) t)) None
  unfolding digits_after
  digits_step h = rw (add-one, drop-cons t i 0 h)

  -- the byte at i is no digit, or it is the number's next digit, or there is none
  pub digits_stop : i < length t → is_digit (get_or t i 0) ≡ false → digits_after n (drop i t) ≡ None
  digits_stop h d = digits_step h ∙ rw d

  pub digits_next : (m : ℕ) → i < length t → is_digit (get_or t i 0) ≡ true → m ≡ n * 10 + (get_or t i 0 - 48)
      → digits_after n (drop i t) ≡ digits_after m (drop (i + 1) t)
  digits_next m h d e = digits_step h ∙ rw (d, e)

  pub digits_end : n ≤ 4294967295 → i ≡ length t → digits_after n (drop i t) ≡ Some n
  unfolding digits_after limited
  digits_end h e = rw (e, drop-length, le-leb n 4294967295 h)

-- a choice between two equal answers is the second of them, whichever is chosen
pub chosen : (b : Bool) {x y : Option ℕ} → x ≡ y → cond b x y ≡ y
chosen true h = h
chosen false h = refl

-- What the digits write so far is past the limit. A further digit makes it larger still, so the text writes no number.
pub digits_big : (n : ℕ) (t : List ℕ) → 4294967295 < n → digits_after n t ≡ None
unfolding digits_after limited
digits_big n [] h = rw (lt-leb n 4294967295 h)
digits_big n (b ∷ t) h = chosen (is_digit b) (digits_big (n * 10 + (b - 48)) t (omega arith))

-- what a reader of digits needs of them
pub ruleset reading = (digits_stop, digits_next, digits_end, digits_big)

length_some : (b : Bool) (t : List ℕ) (k : ℕ) → length t ≤ k → length (cond b [] t) ≤ k
length_some true t k h = zero-le
length_some false t k h = h

pub length_digits : (k n : ℕ) → length (digits_of k n) ≤ k
unfolding digits_of
length_digits zero n = zero-le
length_digits (suc k) n =
    let h = length_some (ltb n 10) (digits_of k (n / 10)) k (length_digits k (n / 10)) in
    simp length-append (omega arith)

length_decimal : (n : ℕ) → length (decimal n) ≤ 20
unfolding decimal
length_decimal n = length_digits 20 n

pub digits_one : (k n : ℕ) → (k ≡ 0 → ⊥) → n < 10 → digits_of k n ≡ (48 + n % 10) ∷ []
unfolding digits_of
digits_one zero n h l = absurd (h refl)
digits_one (suc k) n h l = rw (lt-ltb n 10 l)

pub digits_more : (k n : ℕ) → (k ≡ 0 → ⊥) → 10 ≤ n → digits_of k n ≡ digits_of (k - 1) (n / 10) ++ ((48 + n % 10) ∷ [])
unfolding digits_of
digits_more zero n h l = absurd (h refl)
digits_more (suc k) n h l = rw (le-ltb n 10 l, sub-one)

-- what is written so far, times ten for each byte to come, is past the limit: so the text writes no number
digits_long : (n : ℕ) (t : List ℕ) → 4294967295 < n * 10 ^ length t → digits_after n t ≡ None
unfolding digits_after limited
digits_long n [] h = rw (lt-leb n 4294967295 (omega arith))
digits_long n (b ∷ t) h = chosen (is_digit b) (digits_long (n * 10 + (b - 48)) t longer)
  where
    shift : n * 10 ^ suc (length t) ≡ n * 10 * 10 ^ length t
    shift = rw (pow-succ' 10 (length t)) (sym (mul_assoc n 10 (10 ^ length t)))

    step : n * 10 ≤ n * 10 + (b - 48)
    step = omega arith

    longer : 4294967295 < (n * 10 + (b - 48)) * 10 ^ length t
    longer = omega (arith, h, shift, mul-le-mul_right (10 ^ length t) step)

-- a text whose first byte is not the digit 0, with ten bytes or more after it, writes no number
long_from : (b : ℕ) (t : List ℕ) → eqb b 48 ≡ false → 10 ≤ length t → digits_after 0 (b ∷ t) ≡ None
unfolding digits_after
long_from b t h l = by (leb 48 b) refl
  where
    power : 10 ^ 10 ≤ 10 ^ length t
    power = pow-le-pow_right (omega arith) l

    by : (x : Bool) → leb 48 b ≡ x → digits_after 0 (b ∷ t) ≡ None
    by true e =
        let most = leb-true 48 b e in
        let first : 1 ≤ 0 * 10 + (b - 48) = omega (arith, eqb-false b 48 h) in
        chosen (is_digit b) (digits_long (0 * 10 + (b - 48)) t (omega (arith, mul-le-mul first power)))
    by false e = rw e

-- a text of more than ten bytes writes no number: its first digit is 0, which may not lead, or the number is past the limit
pub number_long : (t : List ℕ) → 11 ≤ length t → number_in t ≡ None
unfolding number_in leading_zero
number_long [] h = absurd (not-suc-le-zero h)
number_long (b ∷ t) h = by (eqb b 48) refl
  where
    by : (x : Bool) → eqb b 48 ≡ x → number_in (b ∷ t) ≡ None
    by true e = rw (ne_eqb (suc (length t)) 0 (omega arith), lt-ltb 1 (suc (length t)) (omega arith), e)
    by false e =
        rw (ne_eqb (suc (length t)) 0 (omega arith), lt-ltb 1 (suc (length t)) (omega arith), e)
        (long_from b t e (omega arith))

pub length_numbered : (key : List ℕ) (n : ℕ) → length (numbered key n) ≤ length key + 21
unfolding numbered
length_numbered key n = let h = length_decimal n in simp length-append (omega arith)
