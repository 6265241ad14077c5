-- The ones of a word of 32 bits: where the lowest one stands, and the word without it.
--   below_count      below the count of trailing zeros every bit is 0
--   at_count         at the count, where that is inside the word, the bit is 1
--   without_same     the word without bit x has no bit x
--   without_other    and every other bit as it was
--   without_less     where bit x was 1 it is a smaller number
use mathlib.Core.Path.{◌≡◌, refl, sym, ap, ◌∙◌}
use mathlib.Core.Bool.{Bool, true, false, not, ◌&&◌, beq}
use Prim.Native.Nat.{ℕ, zero, suc, ◌-◌, ◌*◌, ◌/◌, ◌%◌, ◌^◌, ◌<◌}
use native.Mathlib.Nat.{le_of_suc-le-suc, not-suc-le-zero, mod-lt, add_comm}
use native.Mathlib.Numerals.{add-one}
use native.Mathlib.Omega.{arith}
use borrow.Author.Tests.{eq-eqb, ne_eqb}
use lib.Dec.{eqb}
use lib.Bits.{bit_and, and_le_l, and_shr, and_mod}
use lib.Count.{under, count_trailing_zeros}
use lib.Pow.{shr-shr}
use Rattle.std.proofs.Math.Bool.{and-false, and-true}
use Rattle.lists.specs.Word.{bit_at}
use Rattle.lists.proofs.Bools.{beq_true, clash}
use Rattle.lists.proofs.Every.{every, every_at}

-- bit 0 is whether the number is odd; bit j + 1 is bit j of its half
bit_zero : (v : ℕ) → bit_at v zero ≡ eqb (v % 2) 1
unfolding bit_at
bit_zero v = let h : v / 1 ≡ v = omega arith in ap (λ (z : ℕ). eqb (z % 2) 1) h

bit_suc : (v j : ℕ) → bit_at v (suc j) ≡ bit_at (v / 2) j
unfolding bit_at
bit_suc v j =
    ap (λ (z : ℕ). eqb (v / 2 ^ z % 2) 1) (sym (add-one j) ∙ add_comm j 1) ∙ ap (λ (z : ℕ). eqb (z % 2) 1) (sym (shr-shr v 1 j))

pub below_count : (k v j : ℕ) → j < count_trailing_zeros k v → bit_at v j ≡ false
unfolding count_trailing_zeros
below_count zero v j h = absurd (not-suc-le-zero h)
below_count (suc k) v j h = by (v % 2) refl j h (λ i l. below_count k (v / 2) i l)
  where
    by : (d : ℕ) → v % 2 ≡ d → (j : ℕ) → j < under d (count_trailing_zeros k (v / 2))
        → ((i : ℕ) → i < count_trailing_zeros k (v / 2) → bit_at (v / 2) i ≡ false) → bit_at v j ≡ false
    by zero e zero l rest = bit_zero v ∙ ap (λ (z : ℕ). eqb z 1) e
    by zero e (suc i) l rest = bit_suc v i ∙ rest i (le_of_suc-le-suc l)
    by (suc d) e j l rest = absurd (not-suc-le-zero l)

pub at_count : (k v : ℕ) → count_trailing_zeros k v < k → bit_at v (count_trailing_zeros k v) ≡ true
unfolding count_trailing_zeros
at_count zero v h = absurd (not-suc-le-zero h)
at_count (suc k) v h = by (v % 2) refl h (λ l. at_count k (v / 2) l)
  where
    by : (d : ℕ) → v % 2 ≡ d → under d (count_trailing_zeros k (v / 2)) < suc k
        → (count_trailing_zeros k (v / 2) < k → bit_at (v / 2) (count_trailing_zeros k (v / 2)) ≡ true)
        → bit_at v (under d (count_trailing_zeros k (v / 2))) ≡ true
    by zero e l rest = bit_suc v (count_trailing_zeros k (v / 2)) ∙ rest (le_of_suc-le-suc l)
    by (suc d) e l rest = bit_zero v ∙ eq-eqb (v % 2) 1 (let u = mod-lt v {m = 2} (omega arith) in omega arith)

-- a bit of a & b is that bit of both
and_digit : (p q : ℕ) → p < 2 → q < 2 → eqb (bit_and p q) 1 ≡ (eqb p 1 && eqb q 1)
and_digit p q h k =
    beq_true (eqb (bit_and p q) 1) (eqb p 1 && eqb q 1) (every_at (row p) 2 (every_at (λ i. every (row i) 0 2) 2 refl p h) q k)
  where
    row : ℕ → ℕ → Bool
    row i j = beq (eqb (bit_and i j) 1) (eqb i 1 && eqb j 1)

and_bit : (a b j : ℕ) → bit_at (bit_and a b) j ≡ (bit_at a j && bit_at b j)
unfolding bit_at
and_bit a b j =
    ap (λ (z : ℕ). eqb (z % 2) 1) (and_shr a b j)
    ∙ (ap (λ (z : ℕ). eqb z 1) (and_mod (a / 2 ^ j) (b / 2 ^ j) 1)
    ∙ and_digit (a / 2 ^ j % 2) (b / 2 ^ j % 2) (mod-lt (a / 2 ^ j) (omega arith)) (mod-lt (b / 2 ^ j) (omega arith)))

-- a word of 32 bits without its bit x, as the language writes it: v & !(1 << x)
abbrev all_but : ℕ → ℕ
all_but x = 4294967295 - (1 * 2 ^ x) % 2 ^ 32

abbrev pub without : ℕ → ℕ → ℕ
without v x = bit_and v (all_but x)

all_but_lem : (x j : ℕ) → x < 32 → j < 32 → bit_at (all_but x) j ≡ not (eqb j x)
unfolding bit_at
all_but_lem x j h k =
    beq_true (bit_at (all_but x) j) (not (eqb j x)) (every_at (row x) 32 (every_at (λ i. every (row i) 0 32) 32 refl x h) j k)
  where
    row : ℕ → ℕ → Bool
    row x j = beq (bit_at (all_but x) j) (not (eqb j x))

pub without_same : (v x : ℕ) → x < 32 → bit_at (without v x) x ≡ false
without_same v x h =
    and_bit v (all_but x) x
    ∙ (ap (λ (b : Bool). bit_at v x && b) (all_but_lem x x h h ∙ ap not (eq-eqb x x refl)) ∙ and-false (bit_at v x))

pub without_other : (v x j : ℕ) → x < 32 → j < 32 → (j ≡ x → ⊥) → bit_at (without v x) j ≡ bit_at v j
without_other v x j h k ne =
    and_bit v (all_but x) j
    ∙ (ap (λ (b : Bool). bit_at v j && b) (all_but_lem x j h k ∙ ap not (ne_eqb j x ne)) ∙ and-true (bit_at v j))

pub without_less : (v x : ℕ) → x < 32 → bit_at v x ≡ true → without v x < v
without_less v x h one =
    let le = and_le_l v (all_but x) in
    let ne : without v x ≡ v → ⊥ = λ e. clash one (ap (λ (z : ℕ). bit_at z x) (sym e) ∙ without_same v x h) in
    omega arith
