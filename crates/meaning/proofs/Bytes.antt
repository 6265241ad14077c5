-- The record number is a view of the cell: what is decoded encodes back, whatever the number, and the other way round.
--   encode-decode, decode-encode    the two ways round
--   digit_small, digit_fits, digit_back, rest_back    a digit, and what is above the eight bits
use mathlib.Core.Path.{◌≡◌, refl, sym, ap, ◌∙◌}
use mathlib.Core.Bool.{Bool, true, false}
use Prim.Native.Nat.{ℕ, ◌+◌, ◌*◌, ◌/◌, ◌%◌, ◌^◌, ◌≤◌, ◌<◌}
use native.Mathlib.Omega.{arith}
use lib.Dec.{eqb}
use borrow.Author.Tests.{eqb-true, eqb-false}
use Rattle.lists.specs.Word.{digit}
use Rattle.types.specs.declared.Bit.{Bit}
use Rattle.types.specs.declared.Bit.TheVariants.{Enabled, Latch, Wire, MessageLevel, Active, Edge, Group, Modifier}
use Rattle.meaning.specs.Cell.{Cell, value, get, decode, encode}

pub digit_small : (b : Bool) → digit b ≤ 1
digit_small true = omega arith
digit_small false = omega arith

pub digit_fits : (b : Bool) → digit b < 2 ^ 1
digit_fits b = let z = digit_small b in omega arith

pub digit_back : (b : Bool) → eqb (digit b) 1 ≡ b
digit_back true = refl
digit_back false = refl

digit_one : (x : ℕ) → x < 2 → digit (eqb x 1) ≡ x
digit_one x h = by (eqb x 1) refl
  where
    by : (b : Bool) → eqb x 1 ≡ b → digit b ≡ x
    by true e = sym (eqb-true x 1 e)
    by false e = let z = eqb-false x 1 e in omega arith

weight : (n v : ℕ) → digit (eqb (n / v % 2) 1) ≡ n / v % 2
weight n v = digit_one (n / v % 2) (omega arith)

-- a number, by its eight low bits and the rest
halved : (q0 q1 q2 q3 q4 q5 q6 q7 r b0 b1 b2 b3 b4 b5 b6 b7 : ℕ)
    → q0 ≡ b0 + 2 * q1 → q1 ≡ b1 + 2 * q2 → q2 ≡ b2 + 2 * q3 → q3 ≡ b3 + 2 * q4 → q4 ≡ b4 + 2 * q5
    → q5 ≡ b5 + 2 * q6 → q6 ≡ b6 + 2 * q7 → q7 ≡ b7 + 2 * r
    → 1 * b0 + 2 * b1 + 4 * b2 + 8 * b3 + 16 * b4 + 32 * b5 + 64 * b6 + 128 * b7 + 256 * r ≡ q0
halved q0 q1 q2 q3 q4 q5 q6 q7 r b0 b1 b2 b3 b4 b5 b6 b7 h0 h1 h2 h3 h4 h5 h6 h7 = omega arith

-- for every number, also one with bits above
pub encode-decode : (i : Bool) (n : ℕ) → encode (decode i n) ≡ n
unfolding encode decode
encode-decode i n =
    rw (weight n 1, weight n 2, weight n 4, weight n 8, weight n 16, weight n 32, weight n 64, weight n 128)
    (halved n (n / 2) (n / 4) (n / 8) (n / 16) (n / 32) (n / 64) (n / 128) (n / 256) _ _ _ _ _ _ _ _
    (omega arith) (omega arith) (omega arith) (omega arith) (omega arith) (omega arith) (omega arith) (omega arith))

-- each bit of the number is the record's bit
bit_back : (b : Bit) (c : Cell) → encode c / value b % 2 ≡ digit (get b c)
unfolding encode get
bit_back b c =
    let h0 = digit_small c.enabled in
    let h1 = digit_small c.latch in
    let h2 = digit_small c.wire in
    let h3 = digit_small c.message in
    let h4 = digit_small c.active in
    let h5 = digit_small c.edge in
    let h6 = digit_small c.group in
    let h7 = digit_small c.modifier in
    elim b as (λ (b : Bit). encode c / value b % 2 ≡ digit (get b c)) [
      | Enabled ↦ omega arith
      | Latch ↦ omega arith
      | Wire ↦ omega arith
      | MessageLevel ↦ omega arith
      | Active ↦ omega arith
      | Edge ↦ omega arith
      | Group ↦ omega arith
      | Modifier ↦ omega arith
    ]

has_back : (b : Bit) (c : Cell) → eqb (encode c / value b % 2) 1 ≡ get b c
has_back b c = ap (λ (n : ℕ). eqb n 1) (bit_back b c) ∙ digit_back (get b c)

pub rest_back : (c : Cell) → encode c / 256 ≡ c.rest
unfolding encode
rest_back c =
    let h0 = digit_small c.enabled in
    let h1 = digit_small c.latch in
    let h2 = digit_small c.wire in
    let h3 = digit_small c.message in
    let h4 = digit_small c.active in
    let h5 = digit_small c.edge in
    let h6 = digit_small c.group in
    let h7 = digit_small c.modifier in omega arith

pub decode-encode : (c : Cell) → decode c.implemented (encode c) ≡ c
unfolding decode get
decode-encode c =
    λ i.
    record {
      implemented = c.implemented;
      enabled = has_back Enabled c i;
      latch = has_back Latch c i;
      wire = has_back Wire c i;
      message = has_back MessageLevel c i;
      active = has_back Active c i;
      edge = has_back Edge c i;
      group = has_back Group c i;
      modifier = has_back Modifier c i;
      rest = rest_back c i;
    }
