-- What a range is known by: the bank keeps its INTIDs one after another, and those beside m that are not in it are out of range.
--   limits    the numbers of a shape that fits
--   ranged    what is known of the range of m
use mathlib.Core.Path.{◌≡◌, refl, ap, ap₂}
use mathlib.Core.Bool.{Bool, true, false, cond, ◌&&◌, ◌||◌, or-true}
use Prim.Native.Nat.{ℕ, ◌+◌, ◌*◌, ◌-◌, ◌/◌, ◌%◌, ◌≤◌, ◌<◌, min}
use native.Mathlib.Omega.{arith}
use lib.Dec.{ltb, leb}
use borrow.Author.Tests.{leb-true, ltb-true, ltb-false, lt-ltb, le-ltb}
use Rattle.lists.proofs.Bools.{and_left, and_right}
use Rattle.types.specs.declared.Frame.{Frame}
use Rattle.types.specs.declared.Frame.TheVariants.{Dist, Redist}
use Rattle.types.specs.declared.Shape.{Shape}
use Rattle.meaning.specs.Interrupt.{shared, own, interrupt, between}
use Rattle.meaning.specs.Layout.{slot, home_of, in_range, shape_fits, slots, presence_words}
use Rattle.meaning.proofs.Homes.{between_in, between_above, between_low, between_high}
use Rattle.table_spans.specs.declared.Range.{Range}
use Rattle.table_spans.specs.Span.{range_of}

pub record Limits (s : Shape) : Type 0 where
  pub lines_at_most : s.lines ≤ 31
  pub espi_at_most : s.espi ≤ 32
  pub eppi_at_most : s.eppi ≤ 2

pub limits : (s : Shape) → shape_fits s ≡ true → Limits s
unfolding shape_fits
limits s h =
    let r = and_right (leb s.lines 31) (leb s.espi 32 && leb s.eppi 2) h in
    record {
      lines_at_most = leb-true s.lines 31 (and_left (leb s.lines 31) _ h);
      espi_at_most = leb-true s.espi 32 (and_left (leb s.espi 32) (leb s.eppi 2) r);
      eppi_at_most = leb-true s.eppi 2 (and_right (leb s.espi 32) (leb s.eppi 2) r);
    }

-- an interrupt that the shape has, at a slot
pub record Kept (s : Shape) (f : Frame) (j k w : ℕ) : Type 0 where
  pub has : in_range s (interrupt f j) ≡ true
  pub home : home_of (interrupt f j) ≡ slot f k w

pub record Ranged (s : Shape) (f : Frame) (m : ℕ) (r : Range) : Type 0 where
  -- it begins with a presence word, and its slots and presence words are the bank's
  pub aligned : r.low % 32 ≡ 0
  pub room : r.slot + (r.high - r.low) ≤ slots f
  pub words : r.low < r.high → r.word + (r.high - r.low - 1) / 32 < presence_words f
  pub word_low : r.word ≤ 31
  pub bound : r.high ≤ 5120
  pub held : (j : ℕ) → r.low ≤ j → j < r.high → Kept s f j (r.slot + (j - r.low)) (r.word + (j - r.low) / 32)
  pub gone : (x : ℕ) → m % 32 + x < 32 → (r.low ≤ m + x → m + x < r.high → ⊥) → in_range s (interrupt f (m + x)) ≡ false

-- THE FOUR RANGES
out : (lo hi m : ℕ) → (lo ≤ m → m < hi → ⊥) → between lo hi m ≡ false
out lo hi m h = by (between lo hi m) refl
  where
    by : (b : Bool) → between lo hi m ≡ b → b ≡ false
    by true e = absurd (h (between_low lo hi m e) (between_high lo hi m e))
    by false e = refl

module _ (s : Shape) (m : ℕ) where
  no_shared : (32 ≤ m → m < min 1020 (32 * s.lines + 32) → ⊥) → (4096 ≤ m → m < 4096 + 32 * s.espi → ⊥) → in_range s (shared m) ≡ false
  unfolding in_range
  no_shared h k = ap₂ (λ (a b : Bool). a || b) (out 32 (min 1020 (32 * s.lines + 32)) m h) (out 4096 (4096 + 32 * s.espi) m k)

  no_own : 32 ≤ m → (1056 ≤ m → m < 1056 + 32 * s.eppi → ⊥) → in_range s (own m) ≡ false
  unfolding in_range
  no_own h k = ap₂ (λ (a b : Bool). a || b) (le-ltb m 32 h) (out 1056 (1056 + 32 * s.eppi) m k)

  spi : 32 ≤ m → m < min 1020 (32 * s.lines + 32) → Kept s Dist m (0 + (m - 32)) (0 + (m - 32) / 32)
  unfolding in_range home_of
  spi a b =
      let y : m - 32 ≡ 0 + (m - 32) = omega arith in
      let z : m / 32 - 1 ≡ 0 + (m - 32) / 32 = omega arith in
      record {
        has = ap (λ (x : Bool). x || between 4096 (4096 + 32 * s.espi) m) (between_in 32 (min 1020 (32 * s.lines + 32)) m a b);
        home = rw (between_in 32 1020 m a (omega arith)) (ap₂ (slot Dist) y z);
      }

  espi : 4096 ≤ m → m < 4096 + 32 * s.espi → s.espi ≤ 32 → Kept s Dist m (988 + (m - 4096)) (31 + (m - 4096) / 32)
  unfolding in_range home_of
  espi a b l =
      record {
        has = rw (between_in 4096 (4096 + 32 * s.espi) m a b) (or-true (between 32 (min 1020 (32 * s.lines + 32)) m));
        home = rw (between_above 32 1020 m (omega arith) (omega arith), between_in 4096 5120 m a (omega arith)) refl;
      }

  low : m < 32 → Kept s Redist m (0 + (m - 0)) (0 + (m - 0) / 32)
  unfolding in_range home_of
  low a =
      let y : m ≡ 0 + (m - 0) = omega arith in
      let z : 0 ≡ 0 + (m - 0) / 32 = omega arith in
      record {
        has = ap (λ (x : Bool). x || between 1056 (1056 + 32 * s.eppi) m) (lt-ltb m 32 a);
        home = rw (lt-ltb m 32 a) (ap₂ (slot Redist) y z);
      }

  eppi : 1056 ≤ m → m < 1056 + 32 * s.eppi → s.eppi ≤ 2 → Kept s Redist m (32 + (m - 1056)) (1 + (m - 1056) / 32)
  unfolding in_range home_of
  eppi a b l =
      let z : (m - 1024) / 32 ≡ 1 + (m - 1056) / 32 = omega arith in
      record {
        has = rw (between_in 1056 (1056 + 32 * s.eppi) m a b) (or-true (ltb m 32));
        home = rw (le-ltb m 32 (omega arith), between_in 1056 1120 m a (omega arith)) (ap (slot Redist (32 + (m - 1056))) z);
      }

split : (P : Range → Type 0) (m k : ℕ) (x y : Range) → (m < k → P x) → (k ≤ m → P y) → P (cond (ltb m k) x y)
split P m k x y h g = by (ltb m k) refl
  where
    by : (b : Bool) → ltb m k ≡ b → P (cond b x y)
    by true e = h (ltb-true m k e)
    by false e = g (ltb-false m k e)

pub ranged : (s : Shape) → shape_fits s ≡ true → (f : Frame) (m : ℕ) → Ranged s f m (range_of s f m)
unfolding range_of
ranged s fit Dist m =
    let lines = (limits s fit).lines_at_most in
    let espis = (limits s fit).espi_at_most in
    split (Ranged s Dist m) m 1020 _ _
    (λ a.
    record {
      aligned = refl;
      room = omega arith;
      words = λ h. omega arith;
      word_low = omega arith;
      bound = omega arith;
      held = λ j b c. spi s j b c;
      gone = λ x l h. no_shared s (m + x) h (λ b c. omega arith);
    })
    (λ a.
    record {
      aligned = refl;
      room = omega arith;
      words = λ h. omega arith;
      word_low = omega arith;
      bound = omega arith;
      held = λ j b c. espi s j b c espis;
      gone = λ x l h. no_shared s (m + x) (λ b c. omega arith) h;
    })
ranged s fit Redist m =
    let eppis = (limits s fit).eppi_at_most in
    split (Ranged s Redist m) m 32 _ _
    (λ a.
    record {
      aligned = refl;
      room = omega arith;
      words = λ h. omega arith;
      word_low = omega arith;
      bound = omega arith;
      held = λ j b c. low s j c;
      gone = λ x l h. absurd (h (omega arith) (omega arith));
    })
    (λ a.
    record {
      aligned = refl;
      room = omega arith;
      words = λ h. omega arith;
      word_low = omega arith;
      bound = omega arith;
      held = λ j b c. eppi s j b c eppis;
      gone = λ x l h. no_own s (m + x) (omega arith) h;
    })
