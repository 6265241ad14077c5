-- Which interrupt. SPIs and extended SPIs are shared by all processors; SGIs, PPIs and extended PPIs are the processor's own.
use Rattle.std.specs.Prelude.{Bool, true, false, cond, ◌&&◌, ◌||◌, ℕ, eqb, ltb, leb}
use Rattle.types.specs.declared.Frame.{Frame}
use Rattle.types.specs.declared.Frame.TheVariants.{Dist, Redist}

pub data Interrupt : Type 0 where
  shared : ℕ → Interrupt
  own : ℕ → Interrupt

abbrev pub intid : Interrupt → ℕ
intid (shared m) = m
intid (own m) = m

unfoldable pub same : Interrupt → Interrupt → Bool
same (shared m) (shared n) = eqb m n
same (shared m) (own n) = false
same (own m) (shared n) = false
same (own m) (own n) = eqb m n

-- The Distributor's interrupts are shared, the Redistributor's are its processor's own.
abbrev pub interrupt : Frame → ℕ → Interrupt
interrupt Dist m = shared m
interrupt Redist m = own m

abbrev pub in_frame : Frame → Interrupt → Bool
in_frame Dist (shared m) = true
in_frame Dist (own m) = false
in_frame Redist (shared m) = false
in_frame Redist (own m) = true

-- m is one of lo, lo + 1, .., hi - 1
abbrev pub between : ℕ → ℕ → ℕ → Bool
between lo hi m = leb lo m && ltb m hi

-- the interrupt that an event names: SGIs, PPIs and extended PPIs are the processor's
unfoldable pub frame_of : ℕ → Frame
frame_of m = cond (ltb m 32 || between 1056 1120 m) Redist Dist

unfoldable pub named : ℕ → Interrupt
named m = interrupt (frame_of m) m

-- INTIDs 0 to 15 are SGIs
unfoldable pub sgi : Interrupt → Bool
sgi (shared m) = false
sgi (own m) = ltb m 16
