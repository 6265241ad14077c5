-- What a step does to one interrupt, and what a read shows of it: document 01's "Effects".
-- i is the interrupt, c its cell. Nothing here depends on any other interrupt.
-- A step is a deed, and a deed is three things: at whom it aims (by the request alone), whether the interrupt's cell admits it
-- (the gate), and its effect there.
-- Some functions take a shape, a side, a way or an interrupt that they do not look at: document 02's requests will.
use Rattle.std.specs.Prelude.{Bool, true, false, cond, not, ◌&&◌, ◌||◌, ℕ, ◌*◌, ◌-◌, ◌%◌, eqb, leb, Ok, Err}
use Rattle.std.specs.Bool.{beq}
use Rattle.lists.specs.Word.{digit, digit_at}
use Rattle.types.specs.declared.Bit.{Bit}
use Rattle.types.specs.declared.Bit.TheVariants.{Enabled, Latch, Wire, MessageLevel, Active, Edge, Group, Modifier}
use Rattle.types.specs.declared.Side.{Side}
use Rattle.types.specs.declared.Side.TheVariants.{Secure, NonSecure}
use Rattle.types.specs.declared.Shape.{Shape}
use Rattle.types.specs.declared.Way.{Way}
use Rattle.types.specs.declared.Way.TheVariants.{Read, Write}
use Rattle.types.specs.declared.Access.{Access}
use Rattle.types.specs.declared.Switch.{Switch}
use Rattle.types.specs.declared.Switch.TheVariants as switch
use Rattle.types.specs.declared.Guard.{Guard}
use Rattle.types.specs.declared.Guard.TheVariants as guard
use Rattle.types.specs.declared.Kind.{Kind}
use Rattle.types.specs.declared.Kind.TheVariants.{Switched, Guarded, Trigger}
use Rattle.types.specs.declared.Message.{Message}
use Rattle.types.specs.declared.Message.TheVariants.{SetspiNsr, ClrspiNsr, SetspiSr, ClrspiSr}
use Rattle.types.specs.declared.Event.{Event}
use Rattle.types.specs.declared.Event.TheVariants as event
use Rattle.types.specs.declared.Window.{Window}
use Rattle.types.specs.declared.Target.{Target}
use Rattle.types.specs.declared.Target.TheVariants as target
use Rattle.types.specs.declared.Refusal.TheVariants as refusal
use Rattle.meaning.specs.Answers.{Answer, Decoded}
use Rattle.meaning.specs.Interrupt.{Interrupt, shared, own, intid, same, named, sgi}
use Rattle.meaning.specs.Cell.{Cell, get, put, decode, non_secure, edge_of, pending}
use Rattle.meaning.specs.Registers.{kind_of, bits_of, place_of, written_value, target_of, names}

-- The steps of a monitor: accesses, events on an INTID, reset.
pub data Step : Type 0 where
  access : Access → Step
  happens : Event → ℕ → Step
  reset : Step

-- What a step comes to, once it is decoded. Reads, refused accesses and TYPER writes are idle.
pub data Deed : Type 0 where
  idle : Deed
  write : Side → Window → ℕ → Deed
  send : Side → Message → ℕ → Deed
  happen : Event → ℕ → Deed
  clear : Deed

abbrev pub write_to : Side → ℕ → Target → Deed
write_to side v (target.Digits w) = write side w v
write_to side v target.Typer = idle
write_to side v (target.Message g) = send side g v

abbrev pub accessed : Access → Decoded → Deed
accessed a (Err r) = idle
accessed a (Ok p) = elim a.way [ Read ↦ idle | Write ↦ write_to a.side (written_value a) (target_of p) ]

unfoldable pub deed_of : Step → Deed
deed_of (access a) = accessed a (place_of a)
deed_of (happens e m) = happen e m
deed_of reset = clear

-- Bits of Secure interrupts read 0 and ignore writes for the Non-secure side, in every family.
unfoldable pub sees : Side → Cell → Bool
sees Secure c = true
sees NonSecure c = non_secure c

-- IGROUPR and IGRPMODR: the Non-secure side reads 0 and its writes do nothing.
abbrev pub secure_kind : Kind → Bool
secure_kind (Switched on b) = false
secure_kind (Guarded g) = true
secure_kind Trigger = false

unfoldable pub may_touch : Side → Way → Kind → Interrupt → Cell → Bool
may_touch Secure w k i c = true
may_touch NonSecure w k i c = not (secure_kind k) && sees NonSecure c

-- THE GATE of a digit: the interrupt is implemented, and the side may touch it.
unfoldable pub reaches : Shape → Side → Way → Kind → Interrupt → Cell → Bool
reaches s side w k i c = c.implemented && may_touch side w k i c

-- the record bit that is switched: ISPENDR sets the latch, ICPENDR clears the latch only
abbrev pub bit_of : Switch → Bit
bit_of switch.Enable = Enabled
bit_of switch.Pending = Latch
bit_of switch.Active = Active

-- A written 1 sets, or clears; a 0 does nothing.
unfoldable pub switched : Bool → Bit → ℕ → Cell → Cell
switched on b d c = put b (cond (eqb d 1) on (get b c)) c

abbrev pub guarded : Guard → Bit
guarded guard.Group = Group
guarded guard.Modifier = Modifier

-- ICFGR: SGI fields ignore writes, and so (HOUSE) do those of enabled interrupts. The digit's upper bit is edge.
unfoldable pub fixed_field : Interrupt → Cell → Bool
fixed_field i c = sgi i || c.enabled

-- HOUSE: a write that changes the trigger clears latch and message level
unfoldable pub configured : ℕ → Interrupt → Cell → Cell
configured d i c =
    cond (fixed_field i c || beq (leb 2 d) c.edge) c (put Edge (leb 2 d) (put Latch false (put MessageLevel false c)))

-- what writing the digit d does
unfoldable pub update : Shape → Side → Kind → ℕ → Interrupt → Cell → Cell
update s side (Switched on b) d i c = switched on (bit_of b) d c
update s side (Guarded g) d i c = put (guarded g) (eqb d 1) c
update s side Trigger d i c = configured d i c

-- whether a state is on. Both of a set and clear pair read the same word.
abbrev pub state_of : Shape → Switch → Interrupt → Cell → Bool
state_of s switch.Enable i c = c.enabled
state_of s switch.Pending i c = pending s i c
state_of s switch.Active i c = c.active

-- the digit that is shown
unfoldable pub shows : Shape → Side → Kind → Interrupt → Cell → ℕ
shows s side (Switched on b) i c = digit (state_of s b i c)
shows s side (Guarded g) i c = digit (get (guarded g) c)
shows s side Trigger i c = 2 * digit (edge_of i c)

unfoldable pub visible : Shape → Side → Kind → Interrupt → Cell → ℕ
visible s side k i c = cond (reaches s side Read k i c) (shows s side k i c) 0

abbrev pub secure_only : Message → Bool
secure_only SetspiNsr = false
secure_only ClrspiNsr = false
secure_only SetspiSr = true
secure_only ClrspiSr = true

abbrev pub sets : Message → Bool
sets SetspiNsr = true
sets ClrspiNsr = false
sets SetspiSr = true
sets ClrspiSr = false

-- a message of value v names i: INTID is value bits 12:0, and no other than an SPI or extended SPI
unfoldable pub addresses : Shape → ℕ → Interrupt → Bool
addresses s v (shared m) = s.mbis && eqb m (v % 8192)
addresses s v (own m) = false

-- The Non-secure side writes no SR register, and names no Secure SPI in an NSR register.
unfoldable pub may_send : Side → Message → Interrupt → Cell → Bool
may_send Secure g i c = true
may_send NonSecure g i c = not (secure_only g) && sees NonSecure c

-- SETSPI does nothing if already pending; else edge sets the latch, level sets message level.
-- CLRSPI clears the latch for edge, message level for level (HOUSE: not the latch there).
unfoldable pub sent : Shape → Message → Interrupt → Cell → Cell
sent s g i c =
    cond (sets g && pending s i c) c (cond (edge_of i c) (put Latch (sets g) c) (put MessageLevel (sets g) c))

-- Secure may name any implemented interrupt; a wire event has no side.
abbrev pub sees_by : Event → Cell → Bool
sees_by (event.Wire level) c = true
sees_by (event.Activate side) c = sees side c
sees_by (event.Deactivate side) c = sees side c

abbrev pub ready : Shape → Event → Interrupt → Cell → Answer
ready s (event.Wire level) i c = cond (sgi i) (Err refusal.SgiWire) (Ok 0)
ready s (event.Activate side) i c = cond (c.enabled && (pending s i c && not c.active)) (Ok 0) (Err refusal.State)
ready s (event.Deactivate side) i c = cond c.active (Ok 0) (Err refusal.State)

-- Events answer 7, 8 or 9, the first that applies; otherwise done.
unfoldable pub event_answer : Shape → Event → Interrupt → Cell → Answer
event_answer s e i c = cond (c.implemented && sees_by e c) (ready s e i c) (Err refusal.Intid)

abbrev pub is_done : Answer → Bool
is_done (Ok v) = true
is_done (Err r) = false

-- The wire's level is stored; a rise on an edge interrupt sets the latch. Activation sets active and clears the latch; wire and
-- message level stay. Deactivation clears active.
unfoldable pub happened : Shape → Event → Interrupt → Cell → Cell
happened s (event.Wire level) i c = put Latch ((edge_of i c && (level && not c.wire)) || c.latch) (put Wire level c)
happened s (event.Activate side) i c = put Active true (put Latch false c)
happened s (event.Deactivate side) i c = put Active false c

-- AT WHOM a deed aims
unfoldable pub aims : Shape → Deed → Interrupt → Bool
aims s idle i = false
aims s (write side w v) i = names w i
aims s (send side g v) i = addresses s v i
aims s (happen e m) i = same (named m) i
aims s clear i = true

-- THE GATE: whether the interrupt's cell admits it. A refused event changes nothing.
unfoldable pub admits : Shape → Deed → Interrupt → Cell → Bool
admits s idle i c = false
admits s (write side w v) i c = reaches s side Write (kind_of w.family) i c
admits s (send side g v) i c = c.implemented && may_send side g i c
admits s (happen e m) i c = is_done (event_answer s e i c)
admits s clear i c = true

-- ITS EFFECT there. Reset clears every record.
unfoldable pub effect : Shape → Deed → Interrupt → Cell → Cell
effect s idle i c = c
effect s (write side w v) i c = update s side (kind_of w.family) (digit_at (bits_of w.family) (intid i - w.first) v) i c
effect s (send side g v) i c = sent s g i c
effect s (happen e m) i c = happened s e i c
effect s clear i c = decode c.implemented 0

unfoldable pub performed : Shape → Deed → Interrupt → Cell → Cell
performed s d i c = cond (aims s d i && admits s d i c) (effect s d i c) c

-- THE RULE: what a step does to the interrupt i.
unfoldable pub act : Shape → Step → Interrupt → Cell → Cell
act s q i c = performed s (deed_of q) i c
