-- THE GATES: a deed that a cell admits comes from a side that may come to the interrupt. What follows:
--   performed_left   a deed of a side that may not come to an interrupt leaves it
--   missing_left     so a missing interrupt is unchanged by every deed but reset,
--   missing_unseen   and reads 0
--   secure_left      and a Non-secure deed leaves what the Non-secure side does not own,
--   secure_unseen    sees 0 of it
--   secure_refused   and is refused 7 by it
use Rattle.std.specs.Prelude.{Err}
use mathlib.Core.Path.{◌≡◌, refl, ◌∙◌, ap}
use mathlib.Core.Bool.{Bool, true, false, cond, not, ◌&&◌}
use Rattle.lists.proofs.Bools.{and_left, and_right, both, clash}
use Rattle.types.specs.declared.Side.{Side}
use Rattle.types.specs.declared.Side.TheVariants.{Secure, NonSecure}
use Rattle.types.specs.declared.Shape.{Shape}
use Rattle.types.specs.declared.Way.{Way}
use Rattle.types.specs.declared.Way.TheVariants.{Read, Write}
use Rattle.types.specs.declared.Kind.{Kind}
use Rattle.types.specs.declared.Message.{Message}
use Rattle.types.specs.declared.Event.{Event}
use Rattle.types.specs.declared.Event.TheVariants as event
use Rattle.types.specs.declared.Refusal.TheVariants as refusal
use Rattle.meaning.specs.Interrupt.{Interrupt}
use Rattle.meaning.specs.Cell.{Cell, non_secure, owned}
use Rattle.meaning.specs.Registers.{kind_of}
use Rattle.meaning.specs.Rule.{Deed, idle, write, send, happen, clear, sees, secure_kind, may_touch, reaches, visible, shows}
use Rattle.meaning.specs.Rule.{secure_only, may_send, sees_by, ready, event_answer, is_done, aims, admits, effect, performed}
use Rattle.meaning.proofs.Choices.{cond_shut, cond_false}
use Rattle.meaning.proofs.Sides.{side_by, side_of, is_clear, comes_to}

module _ (s : Shape) (i : Interrupt) (c : Cell) where
  -- a side that sees an implemented interrupt may come to it
  sees_comes : (side : Side) → c.implemented ≡ true → sees side c ≡ true → comes_to side i c ≡ true
  unfolding sees comes_to owned
  sees_comes Secure h t = h
  sees_comes NonSecure h t = both c.implemented (non_secure c) h t

  touch_comes : (side : Side) (w : Way) (k : Kind) → c.implemented ≡ true → may_touch side w k i c ≡ true → comes_to side i c ≡ true
  unfolding may_touch comes_to
  touch_comes Secure w k h t = h
  touch_comes NonSecure w k h t = sees_comes NonSecure h (and_right (not (secure_kind k)) (sees NonSecure c) t)

  reach_comes : (side : Side) (w : Way) (k : Kind) → reaches s side w k i c ≡ true → comes_to side i c ≡ true
  unfolding reaches
  reach_comes side w k t =
      touch_comes side w k (and_left c.implemented (may_touch side w k i c) t) (and_right c.implemented (may_touch side w k i c) t)

  send_comes : (side : Side) (g : Message) → c.implemented ≡ true → may_send side g i c ≡ true → comes_to side i c ≡ true
  unfolding may_send comes_to
  send_comes Secure g h t = h
  send_comes NonSecure g h t = sees_comes NonSecure h (and_right (not (secure_only g)) (sees NonSecure c) t)

  -- an event that is done names an interrupt that is implemented, and that its side sees
  event_open : (e : Event) → is_done (event_answer s e i c) ≡ true → (c.implemented && sees_by e c) ≡ true
  unfolding event_answer
  event_open e h = by (c.implemented && sees_by e c) h
    where
      by : (y : Bool) → is_done (cond y (ready s e i c) (Err refusal.Intid)) ≡ true → y ≡ true
      by true h = refl
      by false h = absurd (clash h refl)

  event_comes : (e : Event) → c.implemented ≡ true → sees_by e c ≡ true → comes_to (side_by e) i c ≡ true
  unfolding comes_to
  event_comes (event.Wire level) h k = h
  event_comes (event.Activate side) h k = sees_comes side h k
  event_comes (event.Deactivate side) h k = sees_comes side h k

  -- THE GATE
  pub admit_comes : (d : Deed) → is_clear d ≡ false → admits s d i c ≡ true → comes_to (side_of d) i c ≡ true
  unfolding admits
  admit_comes idle r t = absurd (clash t refl)
  admit_comes (write side w v) r t = reach_comes side Write (kind_of w.family) t
  admit_comes (send side g v) r t =
      send_comes side g (and_left c.implemented (may_send side g i c) t) (and_right c.implemented (may_send side g i c) t)
  admit_comes (happen e m) r t =
      let seen = event_open e t in
      event_comes e (and_left c.implemented (sees_by e c) seen) (and_right c.implemented (sees_by e c) seen)
  admit_comes clear r t = absurd (clash refl r)

  -- THE LAWS OF ONE INTERRUPT
  performed_left : (d : Deed) → is_clear d ≡ false → comes_to (side_of d) i c ≡ false → performed s d i c ≡ c
  unfolding performed
  performed_left d r h =
      cond_shut (aims s d i && admits s d i c) (effect s d i c) c
      (λ t. clash (admit_comes d r (and_right (aims s d i) (admits s d i c) t)) h)

  unseen : (side : Side) (k : Kind) → comes_to side i c ≡ false → visible s side k i c ≡ 0
  unfolding visible
  unseen side k h = cond_shut (reaches s side Read k i c) (shows s side k i c) 0 (λ t. clash (reach_comes side Read k t) h)

  -- a missing interrupt: no side may come to it
  none_comes : (side : Side) → c.implemented ≡ false → comes_to side i c ≡ false
  unfolding comes_to owned
  none_comes Secure h = h
  none_comes NonSecure h = ap (λ (b : Bool). b && non_secure c) h

  pub missing_left : (d : Deed) → is_clear d ≡ false → c.implemented ≡ false → performed s d i c ≡ c
  missing_left d r h = performed_left d r (none_comes (side_of d) h)

  pub missing_unseen : (side : Side) (k : Kind) → c.implemented ≡ false → visible s side k i c ≡ 0
  missing_unseen side k h = unseen side k (none_comes side h)

  -- one that the Non-secure side does not own
  closed : owned c ≡ false → comes_to NonSecure i c ≡ false
  unfolding comes_to
  closed h = h

  pub secure_left : (d : Deed) → side_of d ≡ NonSecure → owned c ≡ false → performed s d i c ≡ c
  secure_left d n h = performed_left d (no_clear d n) (ap (λ (side : Side). comes_to side i c) n ∙ closed h)
    where
      no_clear : (d : Deed) → side_of d ≡ NonSecure → is_clear d ≡ false
      no_clear idle h = refl
      no_clear (write side w v) h = refl
      no_clear (send side g v) h = refl
      no_clear (happen e m) h = refl
      no_clear clear h = let z : ◌≡◌ {A = Bool} true false = cc in z

  pub secure_unseen : (k : Kind) → owned c ≡ false → visible s NonSecure k i c ≡ 0
  secure_unseen k h = unseen NonSecure k (closed h)

  pub secure_refused : (e : Event) → side_by e ≡ NonSecure → owned c ≡ false → event_answer s e i c ≡ Err refusal.Intid
  unfolding event_answer owned sees
  secure_refused e n h = cond_false (c.implemented && sees_by e c) (ready s e i c) (Err refusal.Intid) (by e n)
    where
      by : (e : Event) → side_by e ≡ NonSecure → (c.implemented && sees_by e c) ≡ false
      by (event.Wire level) n = let z : ◌≡◌ {A = Bool} true false = cc in absurd (clash refl z)
      by (event.Activate side) n = ap (λ (x : Side). c.implemented && sees x c) n ∙ h
      by (event.Deactivate side) n = ap (λ (x : Side). c.implemented && sees x c) n ∙ h
