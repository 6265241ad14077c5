-- Interrupts and slots undo each other.
--   between_in, -above, -low, -high   what `between` says
--   home_back    the slot of an interrupt keeps that interrupt
--   slot_home    the interrupt of a slot has its home there
--   home_past    an interrupt whose slot is past its table is out of range
use mathlib.Core.Path.{◌≡◌, refl, ap, ap₂}
use mathlib.Core.Bool.{Bool, true, false, cond, ◌&&◌}
use Prim.Native.Nat.{ℕ, ◌+◌, ◌-◌, ◌/◌, ◌≤◌, ◌<◌}
use native.Mathlib.Omega.{arith}
use lib.Dec.{ltb, leb}
use borrow.Author.Tests.{ltb-true, ltb-false, leb-true, lt-ltb, le-ltb, le-leb}
use Rattle.lists.proofs.Bools.{and_left, and_right, both}
use Rattle.types.specs.declared.Frame.{Frame}
use Rattle.types.specs.declared.Frame.TheVariants.{Dist, Redist}
use Rattle.types.specs.declared.Shape.{Shape}
use Rattle.meaning.specs.Interrupt.{Interrupt, shared, own, between}
use Rattle.meaning.specs.Layout.{Home, slot, nowhere, home_of, intid_at, interrupt_at, in_range, slots}
use Rattle.meaning.proofs.Choices.{chosen}

pub between_in : (lo hi m : ℕ) → lo ≤ m → m < hi → between lo hi m ≡ true
between_in lo hi m h k = both (leb lo m) (ltb m hi) (le-leb lo m h) (lt-ltb m hi k)

pub between_above : (lo hi m : ℕ) → lo ≤ m → hi ≤ m → between lo hi m ≡ false
between_above lo hi m h k = ap₂ (λ (a b : Bool). a && b) (le-leb lo m h) (le-ltb m hi k)

pub between_low : (lo hi m : ℕ) → between lo hi m ≡ true → lo ≤ m
between_low lo hi m h = leb-true lo m (and_left (leb lo m) (ltb m hi) h)

pub between_high : (lo hi m : ℕ) → between lo hi m ≡ true → m < hi
between_high lo hi m h = ltb-true m hi (and_right (leb lo m) (ltb m hi) h)

module _ (P : Home → Type 0) (m : ℕ) where
  pub shared_home : (32 ≤ m → m < 1020 → P (slot Dist (m - 32) (m / 32 - 1)))
      → (4096 ≤ m → m < 5120 → P (slot Dist (988 + (m - 4096)) (31 + (m - 4096) / 32)))
      → (between 32 1020 m ≡ false → between 4096 5120 m ≡ false → P nowhere) → P (home_of (shared m))
  unfolding home_of
  shared_home spi espi none =
      chosen P (between 32 1020 m) _ _ (λ t. spi (between_low 32 1020 m t) (between_high 32 1020 m t))
      (λ f. chosen P (between 4096 5120 m) _ _ (λ t. espi (between_low 4096 5120 m t) (between_high 4096 5120 m t)) (none f))

  pub own_home : (m < 32 → P (slot Redist m 0))
      → (1056 ≤ m → m < 1120 → P (slot Redist (32 + (m - 1056)) ((m - 1024) / 32)))
      → (ltb m 32 ≡ false → between 1056 1120 m ≡ false → P nowhere) → P (home_of (own m))
  unfolding home_of
  own_home low eppi none =
      chosen P (ltb m 32) _ _ (λ t. low (ltb-true m 32 t))
      (λ f. chosen P (between 1056 1120 m) _ _ (λ t. eppi (between_low 1056 1120 m t) (between_high 1056 1120 m t)) (none f))

-- THE SLOT OF AN INTERRUPT
abbrev Back : Interrupt → Home → Type 0
Back i (slot r k w) = interrupt_at r k ≡ i
Back i nowhere = Unit

back : (i : Interrupt) → Back i (home_of i)
unfolding intid_at
back (shared m) =
    shared_home (Back (shared m)) m
    (λ h k. let l : m - 32 < 988 = omega arith in let z : 32 + (m - 32) ≡ m = omega arith in rw (lt-ltb (m - 32) 988 l) (ap shared z))
    (λ h k.
    let l : 988 ≤ 988 + (m - 4096) = omega arith in
    let z : 4096 + ((988 + (m - 4096)) - 988) ≡ m = omega arith in rw (le-ltb (988 + (m - 4096)) 988 l) (ap shared z))
    (λ h k. tt)
back (own m) =
    own_home (Back (own m)) m (λ h. rw (lt-ltb m 32 h) refl)
    (λ h k.
    let l : 32 ≤ 32 + (m - 1056) = omega arith in
    let z : 1056 + ((32 + (m - 1056)) - 32) ≡ m = omega arith in rw (le-ltb (32 + (m - 1056)) 32 l) (ap own z))
    (λ h k. tt)

pub home_back : (i : Interrupt) (r : Frame) (k w : ℕ) → home_of i ≡ slot r k w → interrupt_at r k ≡ i
home_back i r k w h = rw h at (back i)

-- THE INTERRUPT OF A SLOT
pub slot_home : (r : Frame) (k : ℕ) → k < slots r → (w : ℕ) × (home_of (interrupt_at r k) ≡ slot r k w)
unfolding intid_at home_of
slot_home Dist k h = by (ltb k 988) refl
  where
    by : (b : Bool) → ltb k 988 ≡ b → (w : ℕ) × (home_of (shared (cond b (32 + k) (4096 + (k - 988)))) ≡ slot Dist k w)
    by true e =
        let l = ltb-true k 988 e in
        let z : (32 + k) - 32 ≡ k = omega arith in (
          (32 + k) / 32 - 1,
          rw (between_in 32 1020 (32 + k) (omega arith) (omega arith)) (ap (λ (n : ℕ). slot Dist n ((32 + k) / 32 - 1)) z),
        )
    by false e =
        let l = ltb-false k 988 e in
        let u : k < 2012 = h in
        let m = 4096 + (k - 988) in
        let z : 988 + (m - 4096) ≡ k = omega arith in (
          31 + (m - 4096) / 32,
          rw (between_above 32 1020 m (omega arith) (omega arith), between_in 4096 5120 m (omega arith) (omega arith))
              (ap (λ (n : ℕ). slot Dist n (31 + (m - 4096) / 32)) z),
        )
slot_home Redist k h = by (ltb k 32) refl
  where
    by : (b : Bool) → ltb k 32 ≡ b → (w : ℕ) × (home_of (own (cond b k (1056 + (k - 32)))) ≡ slot Redist k w)
    by true e = (0, rw e refl)
    by false e =
        let l = ltb-false k 32 e in
        let u : k < 96 = h in
        let m = 1056 + (k - 32) in
        let z : 32 + (m - 1056) ≡ k = omega arith in
        let y : 32 ≤ m = omega arith in (
          (m - 1024) / 32,
          rw (le-ltb m 32 y, between_in 1056 1120 m (omega arith) (omega arith)) (ap (λ (n : ℕ). slot Redist n ((m - 1024) / 32)) z),
        )

-- PAST THE TABLE
abbrev Past : Shape → Interrupt → Home → Type 0
Past s i (slot r k w) = slots r ≤ k → in_range s i ≡ false
Past s i nowhere = Unit

past : (s : Shape) (i : Interrupt) → Past s i (home_of i)
past s (shared m) =
    shared_home (Past s (shared m)) m (λ h k z. absurd (let l : 2012 ≤ m - 32 = z in omega arith))
    (λ h k z. absurd (let l : 2012 ≤ 988 + (m - 4096) = z in omega arith)) (λ h k. tt)
past s (own m) =
    own_home (Past s (own m)) m (λ h z. absurd (let l : 96 ≤ m = z in omega arith))
    (λ h k z. absurd (let l : 96 ≤ 32 + (m - 1056) = z in omega arith)) (λ h k. tt)

pub home_past : (s : Shape) (i : Interrupt) (r : Frame) (k w : ℕ) → home_of i ≡ slot r k w → slots r ≤ k → in_range s i ≡ false
home_past s i r k w e = rw e at (past s i)
