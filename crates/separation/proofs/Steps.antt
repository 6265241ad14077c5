-- WHAT THE STEPS OF A RUN LEAVE, and whose they are.
--   covered, whose_each     every step of the Non-secure side is a Non-secure step, by its side alone: accesses, activations, deactivations
--   wire_covered            so is a Non-secure wire event
--   unowned_left            a Non-secure step leaves what the Non-secure side does not own
--   common_kept             a common step leaves what is owned to be owned, and what is not to be not
--   quietly                 a deed that leaves the sides, and what is owned, leaves what the Non-secure side has
--   event_private           an event of an interrupt that is not owned is private
use mathlib.Core.Path.{◌≡◌, refl, sym, ap, ◌∙◌}
use mathlib.Core.Bool.{Bool, true, false}
use Prim.Native.Nat.{ℕ}
use native.Mathlib.Omega.{arith}
use Rattle.lists.proofs.Bools.{clash}
use Rattle.types.specs.declared.Shape.{Shape}
use Rattle.types.specs.declared.Side.{Side}
use Rattle.types.specs.declared.Side.TheVariants.{Secure, NonSecure}
use Rattle.types.specs.declared.Access.{Access}
use Rattle.types.specs.declared.Family.{Family}
use Rattle.types.specs.declared.Family.TheVariants as family
use Rattle.types.specs.declared.Event.{Event}
use Rattle.types.specs.declared.Event.TheVariants.{Wire, Activate, Deactivate}
use Rattle.types.specs.declared.Target.{Target}
use Rattle.types.specs.declared.Target.TheVariants as target
use Rattle.meaning.specs.Interrupt.{Interrupt, same, named}
use Rattle.meaning.specs.Cell.{Cell, owned}
use Rattle.meaning.specs.Registers.{row_of, kind_of, written_value, target_of}
use Rattle.meaning.specs.Rule.{Step, access, happens, reset, Deed, idle, write, send, happen, clear, write_to, deed_of, aims, performed}
use Rattle.meaning.specs.Rule.{act}
use Rattle.meaning.specs.Step.{Cells}
use Rattle.meaning.proofs.Choices.{no_true}
use Rattle.meaning.proofs.Sides.{side_of, is_clear, on_guard, tells_side, rewrites, regroups}
use Rattle.meaning.proofs.Gates.{secure_left}
use Rattle.meaning.proofs.Kept.{owned_kept}
use Rattle.meaning.proofs.Aims.{same_true, unaimed_left}
use Rattle.promises.proofs.Deeds.{by_access}
use Rattle.promises.proofs.Records.{clears_none}
use Rattle.separation.specs.Steps.{NonSecureStep, its_access, its_activation, its_deactivation, its_wire, of, whose}
use Rattle.separation.specs.Steps.{glimpse, PrivateStep, CommonStep}
use Rattle.separation.proofs.Views.{both_hidden}

-- an interrupt that is owned, and one that is not, are two
apart : (cells : Cells) (i j : Interrupt) → (owned (cells i) ≡ owned (cells j) → ⊥) → same i j ≡ false
apart cells i j h = no_true (same i j) (λ t. h (ap (λ (k : Interrupt). owned (cells k)) (same_true i j t)))

-- WHOSE A STEP IS
pub covered : (cells : Cells) (q : Step) → whose q ≡ of NonSecure → NonSecureStep cells q
covered cells (access a) h = its_access a (cc)
covered cells (happens (Wire level) m) h = absurd (let z : ◌≡◌ {A = ℕ} 0 1 = cc in omega arith)
covered cells (happens (Activate NonSecure) m) h = its_activation m
covered cells (happens (Activate Secure) m) h = absurd (let z : ◌≡◌ {A = ℕ} 0 1 = cc in omega arith)
covered cells (happens (Deactivate NonSecure) m) h = its_deactivation m
covered cells (happens (Deactivate Secure) m) h = absurd (let z : ◌≡◌ {A = ℕ} 0 1 = cc in omega arith)
covered cells reset h = absurd (let z : ◌≡◌ {A = ℕ} 0 1 = cc in omega arith)

-- whose a step is: an access its side's, an event the side's that activates or deactivates
pub whose_each : (a : Access) (side : Side) (m : ℕ)
    → (whose (access a) ≡ of a.side) × (whose (happens (Activate side) m) ≡ of side) × (whose (happens (Deactivate side) m) ≡ of side)
whose_each a side m = (refl, refl, refl)

pub wire_covered : (cells : Cells) (m : ℕ) (level : Bool) → owned (cells (named m)) ≡ true → NonSecureStep cells (happens (Wire level) m)
wire_covered cells m level h = its_wire m level h

-- A NON-SECURE STEP. Its deed is the Non-secure side's
access_side : (a : Access) → a.side ≡ NonSecure → side_of (deed_of (access a)) ≡ NonSecure
access_side a n = by_access (λ (d : Deed). side_of d ≡ NonSecure) a refl (λ p e w. by (target_of p))
  where
    by : (g : Target) → side_of (write_to a.side (written_value a) g) ≡ NonSecure
    by (target.Digits w) = n
    by target.Typer = refl
    by (target.Message g) = n

pub unowned_left : (s : Shape) (cells : Cells) (q : Step) → NonSecureStep cells q → (i : Interrupt) → owned (cells i) ≡ false
    → (c : Cell) → owned c ≡ false → act s q i c ≡ c
unfolding act deed_of aims
unowned_left s cells q (its_access a n) i h c k = secure_left s i c (deed_of (access a)) (access_side a n) k
unowned_left s cells q (its_activation m) i h c k = secure_left s i c (happen (Activate NonSecure) m) refl k
unowned_left s cells q (its_deactivation m) i h c k = secure_left s i c (happen (Deactivate NonSecure) m) refl k
unowned_left s cells q (its_wire m level o) i h c k =
    unaimed_left s (happen (Wire level) m) i c (apart cells (named m) i (λ e. clash (sym e ∙ o) h))

-- A COMMON STEP regroups nothing
guards_side : (f : Family) → (f ≡ family.Igroupr → ⊥) → on_guard tells_side (kind_of f) ≡ false
unfolding row_of
guards_side family.Igroupr h = absurd (h refl)
guards_side family.Isenabler h = refl
guards_side family.Icenabler h = refl
guards_side family.Ispendr h = refl
guards_side family.Icpendr h = refl
guards_side family.Isactiver h = refl
guards_side family.Icactiver h = refl
guards_side family.Igrpmodr h = refl
guards_side family.Icfgr h = refl

common_deed : (q : Step) → CommonStep q → regroups (deed_of q) ≡ false
unfolding rewrites
common_deed q h = by (deed_of q) refl
  where
    by : (d : Deed) → deed_of q ≡ d → regroups d ≡ false
    by idle e = refl
    by (write NonSecure w v) e = refl
    by (write Secure w v) e = guards_side w.family (h.no_regrouping w v e)
    by (send side g v) e = refl
    by (happen x m) e = refl
    by clear e = absurd (clash (ap is_clear e) (clears_none q h.no_reset))

pub common_kept : (s : Shape) (q : Step) → CommonStep q → (i : Interrupt) (c : Cell) → owned (act s q i c) ≡ owned c
unfolding act
common_kept s q h i c = owned_kept s i c (deed_of q) (common_deed q h)

-- A PRIVATE STEP
module _ (s : Shape) (cells : Cells) where
  pub quietly : (d : Deed) (i : Interrupt) → regroups d ≡ false → (owned (cells i) ≡ true → performed s d i (cells i) ≡ cells i)
      → glimpse (performed s d i (cells i)) ≡ glimpse (cells i)
  quietly d i r left = by (owned (cells i)) refl
    where
      by : (o : Bool) → owned (cells i) ≡ o → glimpse (performed s d i (cells i)) ≡ glimpse (cells i)
      by true e = ap glimpse (left e)
      by false e = both_hidden (performed s d i (cells i)) (cells i) (owned_kept s i (cells i) d r ∙ e) e

  pub event_private : (e : Event) (m : ℕ) → owned (cells (named m)) ≡ false → PrivateStep s cells (happens e m)
  unfolding act deed_of rewrites aims
  event_private e m h i =
      quietly (happen e m) i refl (λ o. unaimed_left s (happen e m) i (cells i) (apart cells (named m) i (λ x. clash (x ∙ o) h)))
