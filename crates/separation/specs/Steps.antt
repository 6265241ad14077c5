-- Whose a step is, at the interrupts as they are where it is taken.
use Rattle.std.specs.Prelude.{◌≡◌, Bool, true, cond, ℕ}
use Rattle.types.specs.declared.Shape.{Shape}
use Rattle.types.specs.declared.Side.{Side}
use Rattle.types.specs.declared.Side.TheVariants.{Secure, NonSecure}
use Rattle.types.specs.declared.Access.{Access}
use Rattle.types.specs.declared.Family.TheVariants.{Igroupr}
use Rattle.types.specs.declared.Event.TheVariants.{Wire, Activate, Deactivate}
use Rattle.types.specs.declared.Window.{Window}
use Rattle.meaning.specs.Interrupt.{Interrupt, named}
use Rattle.meaning.specs.Cell.{Cell, owned}
use Rattle.meaning.specs.Rule.{Step, access, happens, reset, write, deed_of, act}
use Rattle.meaning.specs.Step.{Cells}

-- Non-secure steps: its accesses, activations and deactivations, and wire events of Non-secure interrupts. Nothing else is asked.
pub data NonSecureStep (cells : Cells) : Step → Type 0 where
  its_access : (a : Access) → a.side ≡ NonSecure → NonSecureStep cells (access a)
  its_activation : (m : ℕ) → NonSecureStep cells (happens (Activate NonSecure) m)
  its_deactivation : (m : ℕ) → NonSecureStep cells (happens (Deactivate NonSecure) m)
  its_wire : (m : ℕ) (level : Bool) → owned (cells (named m)) ≡ true → NonSecureStep cells (happens (Wire level) m)

-- Whose a step is by the request alone: a wire event and a reset are no side's.
pub data Whose : Type 0 where
  of : Side → Whose
  nobody : Whose

abbrev pub whose : Step → Whose
whose (access a) = of a.side
whose (happens (Wire level) m) = nobody
whose (happens (Activate side) m) = of side
whose (happens (Deactivate side) m) = of side
whose reset = nobody

-- What the Non-secure side has of an interrupt: all of it, where it owns it; of every other, Secure or missing, nothing.
pub data Glimpse : Type 0 where
  mine : Cell → Glimpse
  hidden : Glimpse

unfoldable pub glimpse : Cell → Glimpse
glimpse c = cond (owned c) (mine c) hidden

-- PRIVATE: whatever leaves what the Non-secure side has, of every interrupt. Document 01's list is a part of it (Private.antt).
abbrev pub PrivateStep : Shape → Cells → Step → Type 0
PrivateStep s cells q = (i : Interrupt) → glimpse (act s q i (cells i)) ≡ glimpse (cells i)

-- COMMON: a step of either side that is no Secure write to IGROUPR and no reset, whatever it touches. Two runs that both take it stay
-- alike, though its answer may differ. This is more than demand 3 asks, and holds while there are no grants.
pub record CommonStep (q : Step) : Type 0 where
  pub no_regrouping : (w : Window) (v : ℕ) → deed_of q ≡ write Secure w v → w.family ≡ Igroupr → ⊥
  pub no_reset : q ≡ reset → ⊥
