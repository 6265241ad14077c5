-- What a set or clear family makes of the digits of a written word: they are its bits, a 0 leaves the record, a 1 is the digit 1.
--   quiet_at      record x where bit x is 0
--   one_at        record x where bit x is 1
use mathlib.Core.Path.{◌≡◌, refl, sym, ap, ◌∙◌}
use mathlib.Core.Bool.{Bool, true, false}
use Prim.Native.Nat.{ℕ, ◌*◌}
use native.Mathlib.Omega.{arith}
use borrow.Author.Tests.{eqb-true}
use lib.Dec.{eqb}
use Rattle.lists.specs.Word.{bit_at, digit_at}
use Rattle.types.specs.declared.Shape.{Shape}
use Rattle.types.specs.declared.Switch.{Switch}
use Rattle.types.specs.declared.Kind.{Kind}
use Rattle.types.specs.declared.Kind.TheVariants.{Switched}
use Rattle.types.specs.declared.Way.TheVariants.{Write}
use Rattle.meaning.specs.Interrupt.{Interrupt}
use Rattle.meaning.specs.Cell.{Cell, decode, encode}
use Rattle.meaning.specs.Registers.{kind_of, bits_of}
use Rattle.meaning.specs.Rule.{reaches}
use Rattle.meaning.proofs.Bytes.{encode-decode}
use Rattle.meaning.proofs.Choices.{cond_keeps}
use Rattle.meaning.proofs.Aims.{zero_quiet}
use Rattle.record_writes.specs.Touched.{touched}
use Rattle.table_words.specs.declared.Word.{Word}
use Rattle.table_words.specs.Part.{digit_stored, stored_at}
use Rattle.meaning.proofs.Digits.{room}
use Rattle.meaning.proofs.Listed.{columns}

module _ (s : Shape) (at : ℕ → Interrupt) (w : Word) (on : Bool) (b : Switch) (k : kind_of w.family ≡ Switched on b) (v x byte : ℕ) where
  abbrev d : ℕ
  d = digit_at (bits_of w.family) x v

  one_bit : bits_of w.family ≡ 1
  one_bit = (columns w.family).digit_bits ∙ ap room k

  -- digit x is 1 exactly where bit x is
  digit_bit : eqb d 1 ≡ bit_at v x
  unfolding digit_at bit_at
  digit_bit = rw one_bit (let u : 1 * x ≡ x = omega arith in rw u refl)

  switched_at : stored_at s at w v x byte ≡ digit_stored s at w (Switched on b) d x byte
  unfolding stored_at
  switched_at = ap (λ (z : Kind). digit_stored s at w z d x byte) k

  pub quiet_at : bit_at v x ≡ false → stored_at s at w v x byte ≡ byte
  unfolding touched
  quiet_at z =
      switched_at
      ∙ (ap encode (cond_keeps (λ (c : Cell). c) (reaches s w.side Write (Switched on b) (at x) cell) _ cell
      (λ t. zero_quiet s w.side on b d (at x) cell (digit_bit ∙ z)))
      ∙ encode-decode (bit_at w.implemented x) byte)
    where
      cell : Cell
      cell = decode (bit_at w.implemented x) byte

  pub one_at : (r : ℕ) → bit_at v x ≡ true → r ≡ digit_stored s at w (Switched on b) 1 x byte → r ≡ stored_at s at w v x byte
  one_at r o e =
      e ∙ sym (switched_at ∙ ap (λ (n : ℕ). digit_stored s at w (Switched on b) n x byte) (eqb-true d 1 (digit_bit ∙ o)))
