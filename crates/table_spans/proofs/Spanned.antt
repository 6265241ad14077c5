-- What a span is known by: its slots are the INTIDs from m on, its mask says which are implemented, and the INTIDs that it leaves out are
-- missing. This is all that the engine's laws ask of a bank.
--   spanned    of every span that is asked for
--   bounded    its bounds, whatever the tables
--   bounded_at    the same at a range
--   first_inside    its first slot is the bank's
--   inside     the numbers at a range are small enough
use mathlib.Core.Path.{◌≡◌, refl, sym, ap, ap₂, subst, ◌∙◌}
use mathlib.Core.Bool.{Bool, true, false, cond, ◌&&◌}
use mathlib.Core.List.{List, []}
use Prim.Native.Nat.{ℕ, ◌+◌, ◌-◌, ◌/◌, ◌%◌, ◌^◌, ◌≤◌, ◌<◌, min}
use native.Mathlib.Omega.{arith}
use native.Mathlib.Decide.{dec_lt}
use lib.Dec.{eqb, ltb}
use lib.ListN.{get_or}
use lib.Pow.{shr-shr}
use borrow.Author.Tests.{le-leb, lt-ltb, ltb-true}
use Rattle.lists.specs.Word.{bit_at}
use Rattle.lists.proofs.Bools.{both, clash}
use Rattle.types.specs.declared.Frame.{Frame}
use Rattle.types.specs.declared.Frame.TheVariants.{Dist, Redist}
use Rattle.types.specs.declared.Shape.{Shape}
use Rattle.meaning.specs.Interrupt.{Interrupt, intid, interrupt, between}
use Rattle.meaning.specs.Layout.{Tables, presence_of, slots, shape_fits, in_range}
use Rattle.meaning.specs.Layout.{Home, home_of, interrupt_at, present_at, implemented}
use Rattle.meaning.proofs.Homes.{between_low, between_high, home_back}
use Rattle.table_spans.specs.declared.Bank.{Bank}
use Rattle.table_spans.specs.declared.Range.{Range}
use Rattle.table_spans.specs.declared.Span.{Span}
use Rattle.table_spans.specs.declared.Slot.{Slot}
use Rattle.std.specs.Prelude.{Some, None, IfSome}
use Rattle.table_spans.specs.Span.{Inside, range_of, nothing, span_at, span_in, span_of, Bounded, first_of}
use Rattle.table_spans.proofs.Ranges.{Kept, Ranged, ranged}

pub record Spanned (s : Shape) (t : Tables) (f : Frame) (m n : ℕ) (p : Span) : Type 0 where
  pub ordered : p.start ≤ p.end
  pub inside : p.end ≤ slots f
  pub short : p.end - p.start ≤ n
  pub here : (x : ℕ) → x < p.end - p.start → interrupt_at f (p.start + x) ≡ interrupt f (m + x)
  pub present : (x : ℕ) → x < p.end - p.start → implemented s t (interrupt f (m + x)) ≡ bit_at p.implemented x
  pub missing : (x : ℕ) → p.end - p.start ≤ x → x < n → implemented s t (interrupt f (m + x)) ≡ false

intid_of : (f : Frame) (m : ℕ) → intid (interrupt f m) ≡ m
intid_of Dist m = refl
intid_of Redist m = refl

shifted : (v h x : ℕ) → bit_at (v / 2 ^ h) x ≡ bit_at v (h + x)
unfolding bit_at
shifted v h x = ap (λ (n : ℕ). eqb (n % 2) 1) (shr-shr v h x)

module _ (s : Shape) (t : Tables) where
  out_missing : (i : Interrupt) → in_range s i ≡ false → implemented s t i ≡ false
  unfolding implemented
  out_missing i h = ap (λ (b : Bool). b && present_at t (intid i % 32) (home_of i)) h

  kept_present : (f : Frame) (j k w : ℕ) → Kept s f j k w → implemented s t (interrupt f j) ≡ bit_at (get_or (presence_of f t) w 0) (j % 32)
  unfolding implemented
  kept_present f j k w h =
      ap₂ (λ (b : Bool) (z : Home). b && present_at t (intid (interrupt f j) % 32) z) h.has h.home
      ∙ ap (λ (y : ℕ). bit_at (get_or (presence_of f t) w 0) (y % 32)) (intid_of f j)

-- IN THE RANGE of m
module _ (s : Shape) (t : Tables) (f : Frame) (m n : ℕ) (r : Range) (known : Ranged s f m r) (block : m % 32 + n ≤ 32) where
  module _ (lo : r.low ≤ m) (hi : m < r.high) where
    abbrev X : ℕ
    X = m - r.low

    abbrev P : Span
    P = span_at (presence_of f t) r X n

    -- INTID m + x of the span, at its slot and in m's presence word
    at : (x : ℕ) → x < (r.slot + min (X + n) (r.high - r.low)) - (r.slot + X) → Kept s f (m + x) ((r.slot + X) + x) (r.word + X / 32)
    at x l =
        let z : r.slot + ((m + x) - r.low) ≡ (r.slot + X) + x = omega arith in
        let a = known.aligned in
        let y : r.word + ((m + x) - r.low) / 32 ≡ r.word + X / 32 = omega arith in
        rw (← z, ← y) (known.held (m + x) (omega arith) (omega arith))

    in_range_lem : Spanned s t f m n P
    unfolding span_at
    in_range_lem =
        let room = known.room in
        let a = known.aligned in
        record {
          ordered = omega arith;
          inside = omega arith;
          short = omega arith;
          here = λ x l. home_back (interrupt f (m + x)) f ((r.slot + X) + x) (r.word + X / 32) (at x l).home;
          present = λ x l.
              kept_present s t f (m + x) ((r.slot + X) + x) (r.word + X / 32) (at x l)
              ∙ (ap (bit_at (get_or (presence_of f t) (r.word + X / 32) 0)) (let z : (m + x) % 32 ≡ X % 32 + x = omega arith in z)
              ∙ sym (shifted (get_or (presence_of f t) (r.word + X / 32) 0) (X % 32) x));
          missing = λ x l u. out_missing s t (interrupt f (m + x)) (known.gone x (omega arith) (λ b c. omega arith));
        }

  -- the INTIDs beside m, where m is not in the range
  beside : (r.low ≤ m → m < r.high → ⊥) → (x : ℕ) → x < n → in_range s (interrupt f (m + x)) ≡ false
  beside out x u = known.gone x (omega arith) (λ b c. by b c (dec_lt m r.low) (dec_lt m r.high))
    where
      by : r.low ≤ m + x → m + x < r.high → Dec (m < r.low) → Dec (m < r.high) → ⊥
      by b c (yes l) h = let a = known.aligned in omega arith
      by b c (no l) (yes h) = out (omega arith) h
      by b c (no l) (no h) = omega arith

  out_of_range : (r.low ≤ m → m < r.high → ⊥) → Spanned s t f m n nothing
  unfolding nothing
  out_of_range out =
      record {
        ordered = omega arith;
        inside = omega arith;
        short = omega arith;
        here = λ x l. absurd (let u : x < 0 - 0 = l in omega arith);
        present = λ x l. absurd (let u : x < 0 - 0 = l in omega arith);
        missing = λ x l u. out_missing s t (interrupt f (m + x)) (beside out x u);
      }

  in_or_out : Spanned s t f m n (span_in (presence_of f t) r m n)
  unfolding span_in
  in_or_out = by (between r.low r.high m) refl
    where
      by : (b : Bool) → between r.low r.high m ≡ b → Spanned s t f m n (cond b (span_at (presence_of f t) r (m - r.low) n) nothing)
      by true e = in_range_lem (between_low r.low r.high m e) (between_high r.low r.high m e)
      by false e = out_of_range (λ b c. clash (both _ _ (le-leb r.low m b) (lt-ltb m r.high c)) e)

-- THE LAW
pub spanned : (s : Shape) (t : Tables) → shape_fits s ≡ true → (f : Frame) (m n : ℕ) → m % 32 + n ≤ 32
    → Spanned s t f m n (span_of s (presence_of f t) f m n)
unfolding span_of
spanned s t fit f m n block = in_or_out s t f m n (range_of s f m) (ranged s fit f m) block

-- whatever the presence words
pub bounded : (s : Shape) (ps : List ℕ) → shape_fits s ≡ true → (f : Frame) (m n : ℕ) → m % 32 + n ≤ 32 → Bounded f n (span_of s ps f m n)
bounded s ps fit f m n block = by f
  where
    with_words : Tables
    with_words = record { dist = []; redist = []; dist_presence = ps; redist_presence = ps }

    by : (f : Frame) → Bounded f n (span_of s ps f m n)
    by Dist = let h = spanned s with_words fit Dist m n block in record { ordered = h.ordered; inside = h.inside; short = h.short }
    by Redist = let h = spanned s with_words fit Redist m n block in record { ordered = h.ordered; inside = h.inside; short = h.short }

-- at the range of m
pub bounded_at : (b : Bank) (m n : ℕ) → m % 32 + n ≤ 32 → (r : Range) → r ≡ range_of b.shape b.frame m → between r.low r.high m ≡ true
    → Bounded b.frame n (span_at b.presence.now r (m - r.low) n)
unfolding span_of span_in
bounded_at b m n block r e t =
    let ps = b.presence.now in
    subst (λ (z : Bool). Bounded b.frame n (cond z (span_at ps r (m - r.low) n) nothing)) t
    (subst (λ (z : Range). Bounded b.frame n (span_in ps z m n)) (sym e) (bounded b.shape ps b.fits b.frame m n block))

-- its first slot
pub first_inside : (f : Frame) (n : ℕ) (p : Span) → Bounded f n p → IfSome (first_of p) (λ k. k.at < slots f)
unfolding first_of
first_inside f n p h = by (ltb p.start p.end) refl
  where
    by : (b : Bool) → ltb p.start p.end ≡ b
        → IfSome {T = Slot} (cond b (Some (record { at = p.start; implemented = eqb (p.implemented % 2) 1 })) None) (λ k. k.at < slots f)
    by true e = let l = ltb-true p.start p.end e in let i = h.inside in omega arith
    by false e = tt

-- what `span_at` asks
pub inside : (b : Bank) (m n : ℕ) → n ≤ 32 → (r : Range) → r ≡ range_of b.shape b.frame m → between r.low r.high m ≡ true
    → Inside b.presence.now r (m - r.low) n
inside b m n few r e t = all (subst (Ranged b.shape b.frame m) (sym e) (ranged b.shape b.fits b.frame m)) (slots_few b.frame)
  where
    slots_few : (f : Frame) → slots f ≤ 2012
    slots_few Dist = omega arith
    slots_few Redist = omega arith

    all : Ranged b.shape b.frame m r → slots b.frame ≤ 2012 → Inside b.presence.now r (m - r.low) n
    all known most =
        let long = b.words_lent in
        let lo = between_low r.low r.high m t in
        let hi = between_high r.low r.high m t in
        let room = known.room in
        let words = known.words (omega arith) in
        let low = known.word_low in
        let bound = known.bound in
        record {
          ordered = omega arith;
          slot_small = omega arith;
          word_small = omega arith;
          range_small = bound;
          first_small = omega arith;
          count_small = few;
          word_lent = omega arith;
        }
