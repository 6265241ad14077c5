-- The digits of a word: one bit or two each, where they stand, and how large a shown one is.
--   by_bits        what holds of one-bit and of two-bit digits holds of a family's
--   part_small     a part that fits has no more than 32 records,
--   inside         each has its digit inside the word
--   bits_small, modulus, modulus_pos   1 << bits, in a word of 32 bits, is 2 ^ bits
--   shown_small    a digit that is shown is below that
use mathlib.Core.Path.{◌≡◌, refl, sym, subst}
use mathlib.Core.List.{List}
use Prim.Native.Nat.{ℕ, ◌+◌, ◌*◌, ◌^◌, ◌%◌, ◌≤◌, ◌<◌}
use native.Mathlib.Omega.{arith}
use lib.ListN.{length}
use Rattle.lists.specs.Word.{bit_at}
use Rattle.types.specs.declared.Family.{Family}
use Rattle.types.specs.declared.Shape.{Shape}
use Rattle.meaning.specs.Interrupt.{Interrupt}
use Rattle.meaning.specs.Cell.{decode}
use Rattle.meaning.specs.Registers.{kind_of, bits_of}
use Rattle.meaning.proofs.Digits.{by_room}
use Rattle.meaning.proofs.Listed.{columns, visible_small}
use Rattle.table_words.specs.declared.Word.{Word}
use Rattle.table_words.specs.Part.{FitsWord, DigitInside, shown_at}

by_bits : (P : ℕ → Type 0) → P 1 → P 2 → (f : Family) → P (bits_of f)
by_bits P one two f = subst P (sym (columns f).digit_bits) (by_room P one two (kind_of f))

module _ (w : Word) (part : List ℕ) (fit : FitsWord w part) where
  abbrev n : ℕ
  n = length part

  pub part_small : n ≤ 32
  part_small =
      by_bits (λ b. n * b ≤ 32 → n ≤ 32) (λ h. let u : n * 1 ≤ 32 = h in omega arith) (λ h. let u : n * 2 ≤ 32 = h in omega arith)
      w.family fit.digits

  pub inside : (x : ℕ) → x < n → DigitInside w x
  inside x l =
      let m = part_small in
      let k = fit.numbers in
      record {
        digit =
            by_bits (λ b. n * b ≤ 32 → b + b * x ≤ 32) (λ h. let u : n * 1 ≤ 32 = h in omega arith)
            (λ h. let u : n * 2 ≤ 32 = h in omega arith) w.family fit.digits;
        place = omega arith;
        number = omega arith;
      }

pub bits_small : (f : Family) → bits_of f < 32
bits_small f = by_bits (λ b. b < 32) (omega arith) (omega arith) f

pub modulus : (f : Family) → (1 * 2 ^ bits_of f) % 2 ^ 32 ≡ 2 ^ bits_of f
modulus f = by_bits (λ b. (1 * 2 ^ b) % 2 ^ 32 ≡ 2 ^ b) refl refl f

pub modulus_pos : (f : Family) → 1 ≤ 2 ^ bits_of f
modulus_pos f = by_bits (λ b. 1 ≤ 2 ^ b) (omega arith) (omega arith) f

pub shown_small : (s : Shape) (at : ℕ → Interrupt) (w : Word) (x byte : ℕ) → shown_at s at w x byte < 2 ^ bits_of w.family
unfolding shown_at
shown_small s at w x byte = visible_small s w.side w.family (at x) (decode (bit_at w.implemented x) byte)
