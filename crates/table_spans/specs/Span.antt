-- Where a bank keeps the n INTIDs from m on, which lie in one presence word: those of them that the shape has.
use Rattle.std.specs.Prelude.{cond, List, Option, Some, None, ℕ, ◌+◌, ◌*◌, ◌-◌, ◌/◌, ◌%◌, ◌^◌, ◌≤◌, ◌<◌, min, eqb, ltb, length, get_or}
use Rattle.types.specs.declared.Frame.{Frame}
use Rattle.types.specs.declared.Frame.TheVariants.{Dist, Redist}
use Rattle.types.specs.declared.Shape.{Shape}
use Rattle.meaning.specs.Interrupt.{between}
use Rattle.meaning.specs.Layout.{slots}
use Rattle.table_spans.specs.declared.Range.{Range}
use Rattle.table_spans.specs.declared.Span.{Span}
use Rattle.table_spans.specs.declared.Slot.{Slot}

abbrev range : ℕ → ℕ → ℕ → ℕ → Range
range lo hi k w = record { low = lo; high = hi; slot = k; word = w }

-- the only range of the bank that can hold m
unfoldable pub range_of : Shape → Frame → ℕ → Range
range_of s Dist m = cond (ltb m 1020) (range 32 (min 1020 (32 * s.lines + 32)) 0 0) (range 4096 (4096 + 32 * s.espi) 988 31)
range_of s Redist m = cond (ltb m 32) (range 0 32 0 0) (range 1056 (1056 + 32 * s.eppi) 32 1)

unfoldable pub nothing : Span
nothing = record { start = 0; end = 0; implemented = 0 }

-- n INTIDs from the x-th of a range on: no more than the range has (28 of Distributor word 31, 12 of ICFGR word 63)
unfoldable pub span_at : List ℕ → Range → ℕ → ℕ → Span
span_at ps r x n =
    record {
      start = r.slot + x;
      end = r.slot + min (x + n) (r.high - r.low);
      implemented = get_or ps (r.word + x / 32) 0 / 2 ^ (x % 32);
    }

-- numbers that the machine has room for
pub record Inside (ps : List ℕ) (r : Range) (x n : ℕ) : Type 0 where
  pub ordered : r.low ≤ r.high
  pub slot_small : r.slot ≤ 2012
  pub word_small : r.word ≤ 63
  pub range_small : r.high ≤ 5120
  pub first_small : x ≤ 5120
  pub count_small : n ≤ 32
  pub word_lent : r.word + x / 32 < length ps

unfoldable pub span_in : List ℕ → Range → ℕ → ℕ → Span
span_in ps r m n = cond (between r.low r.high m) (span_at ps r (m - r.low) n) nothing

-- THE SPAN
unfoldable pub span_of : Shape → List ℕ → Frame → ℕ → ℕ → Span
span_of s ps f m n = span_in ps (range_of s f m) m n

-- it lies in the bank's slots, and has no more than n
pub record Bounded (f : Frame) (n : ℕ) (p : Span) : Type 0 where
  pub ordered : p.start ≤ p.end
  pub inside : p.end ≤ slots f
  pub short : p.end - p.start ≤ n

-- its first slot, if it has one
unfoldable pub first_of : Span → Option Slot
first_of p = cond (ltb p.start p.end) (Some (record { at = p.start; implemented = eqb (p.implemented % 2) 1 })) None
