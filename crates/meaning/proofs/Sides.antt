-- Whose a deed is, to which interrupts a side may come at all, and what a deed may rewrite: terms of the laws, of no promise.
use mathlib.Core.Bool.{Bool, true, false}
use Rattle.types.specs.declared.Side.{Side}
use Rattle.types.specs.declared.Side.TheVariants.{Secure, NonSecure}
use Rattle.types.specs.declared.Guard.{Guard}
use Rattle.types.specs.declared.Guard.TheVariants as guard
use Rattle.types.specs.declared.Kind.{Kind}
use Rattle.types.specs.declared.Kind.TheVariants.{Switched, Guarded, Trigger}
use Rattle.types.specs.declared.Event.{Event}
use Rattle.types.specs.declared.Event.TheVariants as event
use Rattle.meaning.specs.Interrupt.{Interrupt}
use Rattle.meaning.specs.Cell.{Cell, owned}
use Rattle.meaning.specs.Registers.{kind_of}
use Rattle.meaning.specs.Rule.{Deed, idle, write, send, happen, clear}

-- An event without a side, and a reset, may reach every interrupt. An idle deed reaches none, whoever's it is.
abbrev pub side_by : Event → Side
side_by (event.Wire level) = Secure
side_by (event.Activate side) = side
side_by (event.Deactivate side) = side

abbrev pub side_of : Deed → Side
side_of idle = NonSecure
side_of (write side w v) = side
side_of (send side g v) = side
side_of (happen e m) = side_by e
side_of clear = Secure

abbrev pub is_clear : Deed → Bool
is_clear idle = false
is_clear (write side w v) = false
is_clear (send side g v) = false
is_clear (happen e m) = false
is_clear clear = true

-- the side may come to the interrupt at all
unfoldable pub comes_to : Side → Interrupt → Cell → Bool
comes_to Secure i c = c.implemented
comes_to NonSecure i c = owned c

-- what a deed may rewrite: a Secure write rewrites its guard; reset, all
abbrev pub by_secure : Side → Bool → Bool
by_secure Secure b = b
by_secure NonSecure b = false

abbrev pub on_guard : (Guard → Bool) → Kind → Bool
on_guard p (Switched on b) = false
on_guard p (Guarded g) = p g
on_guard p Trigger = false

unfoldable pub rewrites : (Guard → Bool) → Deed → Bool
rewrites p idle = false
rewrites p (write side w v) = by_secure side (on_guard p (kind_of w.family))
rewrites p (send side g v) = false
rewrites p (happen e m) = false
rewrites p clear = true

-- what tells the side: the group alone
abbrev pub tells_side : Guard → Bool
tells_side guard.Group = true
tells_side guard.Modifier = false

-- IGROUPR writes by the Secure side, and reset
abbrev pub regroups : Deed → Bool
regroups d = rewrites tells_side d
