-- Document 01's "Effects", sentence by sentence, as laws of the rule, and what document 02's CR 2 says of the two grouping bits. Where
-- Rule.antt were wrong, or `non_secure` of Cell.antt, one of these would fail.
use Rattle.std.specs.Prelude.{Ok, Err}
use mathlib.Core.Path.{◌≡◌, refl, ap, ap₂, subst⁻¹, ◌∙◌}
use mathlib.Core.Bool.{Bool, true, false, cond, not, ◌&&◌, ◌||◌, beq}
use Prim.Native.Nat.{ℕ, ◌*◌, ◌-◌, ◌/◌, ◌%◌, ◌^◌, ◌≤◌}
use native.Mathlib.Omega.{arith}
use lib.Dec.{eqb, ltb, leb}
use Rattle.lists.specs.Word.{digit}
use Rattle.lists.proofs.Bools.{and_left, and_right, clash}
use Rattle.types.specs.declared.Side.{Side}
use Rattle.types.specs.declared.Side.TheVariants.{Secure, NonSecure}
use Rattle.types.specs.declared.Shape.{Shape}
use Rattle.types.specs.declared.Way.{Way}
use Rattle.types.specs.declared.Way.TheVariants.{Read, Write}
use Rattle.types.specs.declared.Bit.TheVariants.{Latch, MessageLevel, Active}
use Rattle.types.specs.declared.Switch.{Switch}
use Rattle.types.specs.declared.Switch.TheVariants as switch
use Rattle.types.specs.declared.Guard.{Guard}
use Rattle.types.specs.declared.Guard.TheVariants as guard
use Rattle.types.specs.declared.Kind.{Kind}
use Rattle.types.specs.declared.Kind.TheVariants.{Switched, Guarded, Trigger}
use Rattle.types.specs.declared.Message.{Message}
use Rattle.types.specs.declared.Message.TheVariants.{SetspiSr, ClrspiSr}
use Rattle.types.specs.declared.Event.{Event}
use Rattle.types.specs.declared.Event.TheVariants as event
use Rattle.types.specs.declared.Window.{Window}
use Rattle.types.specs.declared.Refusal.TheVariants as refusal
use Rattle.meaning.specs.Interrupt.{Interrupt, sgi}
use Rattle.meaning.specs.Cell.{Cell, get, put, encode, non_secure, edge_of, pending}
use Rattle.meaning.specs.Answers.{status_of}
use Rattle.meaning.specs.Registers.{kind_of}
use Rattle.meaning.specs.Rule.{write, send, reset, deed_of, sees, may_touch, reaches, bit_of, switched, fixed_field}
use Rattle.meaning.specs.Rule.{configured, update, state_of, shows, visible, secure_only, sets, addresses, may_send, sent}
use Rattle.meaning.specs.Rule.{sees_by, ready, event_answer, happened, aims, admits, effect, performed, act}
use Rattle.meaning.specs.Step.{typer}
use Rattle.meaning.proofs.Choices.{cond_true, cond_false, cond_shut}
use Rattle.meaning.proofs.Bytes.{digit_small, encode-decode}

module _ (s : Shape) (side : Side) (i : Interrupt) (c : Cell) where
  -- Both of a pair read the same word.
  pub pair_same : (b : Switch) → shows s side (Switched true b) i c ≡ shows s side (Switched false b) i c
  unfolding shows
  pair_same b = refl

  -- A written 1 acts, a 0 does nothing: what a set family shows after a write is the old digit or the written one.
  pub set_shown : (b : Switch) (d : ℕ) → state_of s b i (update s side (Switched true b) d i c) ≡ (eqb d 1 || state_of s b i c)
  unfolding update switched get put pending edge_of
  set_shown switch.Enable d = by (eqb d 1)
    where
      by : (x : Bool) → cond x true c.enabled ≡ (x || c.enabled)
      by true = refl
      by false = refl
  set_shown switch.Pending d = by (sgi i || c.edge) (eqb d 1)
    where
      by : (e x : Bool)
          → cond e (cond x true c.latch) (cond x true c.latch || (c.wire || c.message))
          ≡ (x || cond e c.latch (c.latch || (c.wire || c.message)))
      by true true = refl
      by true false = refl
      by false true = refl
      by false false = refl
  set_shown switch.Active d = by (eqb d 1)
    where
      by : (x : Bool) → cond x true c.active ≡ (x || c.active)
      by true = refl
      by false = refl

  -- Enable and active: a written 1 clears the bit.
  pub bit_cleared : (b : Switch) (d : ℕ) → get (bit_of b) (update s side (Switched false b) d i c) ≡ (not (eqb d 1) && get (bit_of b) c)
  unfolding update switched get put
  bit_cleared b d = by b (eqb d 1)
    where
      by : (b : Switch) (x : Bool) → get (bit_of b) (put (bit_of b) (cond x false (get (bit_of b) c)) c) ≡ (not x && get (bit_of b) c)
      by switch.Enable true = refl
      by switch.Enable false = refl
      by switch.Pending true = refl
      by switch.Pending false = refl
      by switch.Active true = refl
      by switch.Active false = refl

  -- ICPENDR clears the latch only; a wire or message level keeps a level interrupt pending.
  pub pending_cleared : pending s i (update s side (Switched false switch.Pending) 1 i c) ≡ (not (edge_of i c) && (c.wire || c.message))
  unfolding pending edge_of update switched get put
  pending_cleared = by (sgi i || c.edge)
    where
      by : (e : Bool) → cond e false (false || (c.wire || c.message)) ≡ (not e && (c.wire || c.message))
      by true = refl
      by false = refl

  -- ISPENDR sets the latch, also while the wire is high; pending then outlives the wire.
  pub pending_outlives : pending s i (happened s (event.Wire false) i (update s side (Switched true switch.Pending) 1 i c)) ≡ true
  unfolding pending edge_of happened update switched get put
  pending_outlives = by (sgi i || c.edge)
    where
      by : (e : Bool) → cond e ((e && false) || true) (((e && false) || true) || (false || c.message)) ≡ true
      by true = refl
      by false = refl

  -- IGROUPR and IGRPMODR: the stored bits are what was written ..
  pub guard_stored : (g : Guard) (d : ℕ) → shows s side (Guarded g) i (update s side (Guarded g) d i c) ≡ digit (eqb d 1)
  unfolding shows update get put
  guard_stored guard.Group d = refl
  guard_stored guard.Modifier d = refl

  -- .. each beside the other, so that both can be 1 and read back ..
  pub group_apart : (d : ℕ) → shows s side (Guarded guard.Modifier) i (update s side (Guarded guard.Group) d i c) ≡ digit c.modifier
  unfolding shows update get put
  group_apart d = refl

  pub modifier_apart : (d : ℕ) → shows s side (Guarded guard.Group) i (update s side (Guarded guard.Modifier) d i c) ≡ digit c.group
  unfolding shows update get put
  modifier_apart d = refl

  -- .. the group alone tells the side (document 02, CR 2): an IGROUPR write gives the interrupt to the side that the written bit names ..
  pub group_decides : (d : ℕ) → non_secure (update s side (Guarded guard.Group) d i c) ≡ eqb d 1
  unfolding non_secure update put
  group_decides d = refl

  -- .. and an IGRPMODR write leaves it on its side ..
  pub modifier_decides_nothing : (d : ℕ) → non_secure (update s side (Guarded guard.Modifier) d i c) ≡ non_secure c
  unfolding non_secure update put
  modifier_decides_nothing d = refl

  -- ICFGR: SGI fields read edge; they and those of enabled interrupts ignore writes ..
  pub sgi_field : sgi i ≡ true → shows s side Trigger i c ≡ 2
  unfolding shows edge_of
  sgi_field h = ap (λ (b : Bool). 2 * digit (b || c.edge)) h

  pub field_ignored : (d : ℕ) → (sgi i || c.enabled) ≡ true → update s side Trigger d i c ≡ c
  unfolding update configured fixed_field
  field_ignored d h =
      cond_true ((sgi i || c.enabled) || beq (leb 2 d) c.edge) c _ (ap (λ (b : Bool). b || beq (leb 2 d) c.edge) h)

  -- .. and no other does. The upper bit is the trigger: a write that does not change it changes nothing ..
  pub field_same : (d : ℕ) → beq (leb 2 d) c.edge ≡ true → update s side Trigger d i c ≡ c
  unfolding update configured
  field_same d h =
      cond_true (fixed_field i c || beq (leb 2 d) c.edge) c _ (ap (λ (b : Bool). fixed_field i c || b) h ∙ or_true (fixed_field i c))
    where
      or_true : (b : Bool) → (b || true) ≡ true
      or_true true = refl
      or_true false = refl

-- .. and one that does clears latch and message level
pub record Retriggered (e : Bool) (c n : Cell) : Type 0 where
  pub edge_new : n.edge ≡ e
  pub latch_gone : n.latch ≡ false
  pub message_gone : n.message ≡ false
  pub wire_stays : n.wire ≡ c.wire
  pub active_stays : n.active ≡ c.active

module _ (s : Shape) (side : Side) (i : Interrupt) (c : Cell) where
  pub field_changed : (d : ℕ) → (sgi i || c.enabled) ≡ false → beq (leb 2 d) c.edge ≡ false
      → Retriggered (leb 2 d) c (update s side Trigger d i c)
  unfolding update configured fixed_field put
  field_changed d h k =
      subst⁻¹ (Retriggered (leb 2 d) c)
      (cond_false ((sgi i || c.enabled) || beq (leb 2 d) c.edge) c _ (rw (h, k) refl))
      (record { edge_new = refl; latch_gone = refl; message_gone = refl; wire_stays = refl; active_stays = refl })

  -- The Secure side reads and writes every implemented interrupt.
  pub secure_reaches : (w : Way) (k : Kind) → c.implemented ≡ true → reaches s Secure w k i c ≡ true
  unfolding reaches may_touch
  secure_reaches w k h = ap (λ (b : Bool). b && true) h

  -- The Non-secure side reads 0 of the grouping registers, and its writes to them do nothing.
  guard_shut : (w : Way) (g : Guard) → reaches s NonSecure w (Guarded g) i c ≡ false
  unfolding reaches may_touch
  guard_shut w g = by c.implemented
    where
      by : (b : Bool) → (b && false) ≡ false
      by true = refl
      by false = refl

  pub guard_unseen : (g : Guard) → visible s NonSecure (Guarded g) i c ≡ 0
  unfolding visible
  guard_unseen g = cond_false (reaches s NonSecure Read (Guarded g) i c) _ 0 (guard_shut Read g)

  pub guard_left : (w : Window) (v : ℕ) (g : Guard) → kind_of w.family ≡ Guarded g → performed s (write NonSecure w v) i c ≡ c
  unfolding performed admits
  guard_left w v g k =
      cond_shut (aims s (write NonSecure w v) i && reaches s NonSecure Write (kind_of w.family) i c) _ c
      (λ t.
      clash (and_right (aims s (write NonSecure w v) i) _ t)
      (ap (λ (x : Kind). reaches s NonSecure Write x i c) k ∙ guard_shut Write g))

  -- SETSPI makes an interrupt pending, by the latch if it is edge and by message level if not, and does nothing if it is pending.
  pub message_idle : (g : Message) → sets g ≡ true → pending s i c ≡ true → sent s g i c ≡ c
  unfolding sent
  message_idle g h k = cond_true (sets g && pending s i c) c _ (ap₂ (λ (a b : Bool). a && b) h k)

  pub message_set : (g : Message) → sets g ≡ true → pending s i c ≡ false
      → sent s g i c ≡ cond (edge_of i c) (put Latch true c) (put MessageLevel true c)
  unfolding sent
  message_set g h k =
      cond_false (sets g && pending s i c) c _ (ap₂ (λ (a b : Bool). a && b) h k)
      ∙ ap (λ (b : Bool). cond (edge_of i c) (put Latch b c) (put MessageLevel b c)) h

  pub set_pending : cond (edge_of i c) (pending s i (put Latch true c)) (pending s i (put MessageLevel true c)) ≡ true
  unfolding pending edge_of put
  set_pending = by (sgi i || c.edge) c.latch c.wire
    where
      by : (e l w : Bool)
          → cond e (cond e true (true || (w || c.message))) (cond e l (l || (w || true))) ≡ true
      by true l w = refl
      by false true w = refl
      by false false true = refl
      by false false false = refl

  -- CLRSPI clears the latch for edge, message level for level, and not the other one.
  pub message_cleared : (g : Message) → sets g ≡ false → sent s g i c ≡ cond (edge_of i c) (put Latch false c) (put MessageLevel false c)
  unfolding sent
  message_cleared g h = ap (λ (b : Bool). cond (b && pending s i c) c (cond (edge_of i c) (put Latch b c) (put MessageLevel b c))) h

  -- The Non-secure side writes no SR register ..
  sr_shut : (g : Message) (v : ℕ) → secure_only g ≡ true → performed s (send NonSecure g v) i c ≡ c
  unfolding performed admits may_send
  sr_shut g v h =
      cond_shut (aims s (send NonSecure g v) i && (c.implemented && (not (secure_only g) && sees NonSecure c))) _ c
      (λ t.
      clash (and_left (not (secure_only g)) _ (and_right c.implemented _ (and_right (aims s (send NonSecure g v) i) _ t)))
      (ap not h))

  pub setspi_sr_shut : (v : ℕ) → performed s (send NonSecure SetspiSr v) i c ≡ c
  setspi_sr_shut v = sr_shut SetspiSr v refl

  pub clrspi_sr_shut : (v : ℕ) → performed s (send NonSecure ClrspiSr v) i c ≡ c
  clrspi_sr_shut v = sr_shut ClrspiSr v refl

  -- .. and an NSR register for what it owns: a message is then what it is from the Secure side.
  pub nsr_open : (g : Message) (v : ℕ) → secure_only g ≡ false → non_secure c ≡ true
      → performed s (send NonSecure g v) i c ≡ performed s (send Secure g v) i c
  unfolding performed aims admits effect may_send sees
  nsr_open g v h k = ap₂ (λ (a b : Bool). cond (addresses s v i && (c.implemented && (not a && b))) (sent s g i c) c) h k

  -- Wire event: stores the level; a rise on an edge interrupt sets the latch, and nothing else does.
  pub wire_stored : (level : Bool) → (happened s (event.Wire level) i c).wire ≡ level
  unfolding happened put
  wire_stored level = refl

  pub wire_latch : (level : Bool)
      → (happened s (event.Wire level) i c).latch ≡ ((edge_of i c && (level && not c.wire)) || c.latch)
  unfolding happened put
  wire_latch level = refl

-- Activate sets active and clears the latch; wire and message level stay. Deactivate clears active.
pub record Activated (c n : Cell) : Type 0 where
  pub now_active : n.active ≡ true
  pub no_latch : n.latch ≡ false
  pub same_wire : n.wire ≡ c.wire
  pub same_message : n.message ≡ c.message

module _ (s : Shape) (i : Interrupt) (c : Cell) where
  pub activate_effect : (side : Side) → Activated c (happened s (event.Activate side) i c)
  unfolding happened put
  activate_effect side = record { now_active = refl; no_latch = refl; same_wire = refl; same_message = refl }

  pub deactivate_effect : (side : Side) → happened s (event.Deactivate side) i c ≡ put Active false c
  unfolding happened
  deactivate_effect side = refl

  -- An event is refused 7 by a missing interrupt, 8 if it is a wire's on an SGI, 9 if the state does not allow it.
  pub missing_7 : (e : Event) → c.implemented ≡ false → status_of (event_answer s e i c) ≡ 7
  unfolding event_answer
  missing_7 e h = ap (λ (b : Bool). status_of (cond (b && sees_by e c) (ready s e i c) (Err refusal.Intid))) h

  pub sgi_8 : (level : Bool) → c.implemented ≡ true → sgi i ≡ true → status_of (event_answer s (event.Wire level) i c) ≡ 8
  unfolding event_answer
  sgi_8 level h k =
      ap₂ (λ (a b : Bool). status_of (cond (a && true) (cond b (Err refusal.SgiWire) (Ok 0)) (Err refusal.Intid))) h k

  pub inactive_9 : c.implemented ≡ true → c.active ≡ false → status_of (event_answer s (event.Deactivate Secure) i c) ≡ 9
  unfolding event_answer sees
  inactive_9 h k =
      ap₂ (λ (a b : Bool). status_of (cond (a && true) (cond b (Ok 0) (Err refusal.State)) (Err refusal.Intid))) h k

  -- Reset: every record becomes 0.
  pub reset_zero : encode (act s reset i c) ≡ 0
  unfolding act deed_of performed aims admits effect
  reset_zero = encode-decode c.implemented 0

-- TYPER tells the shape: each field, read off the word.
pub record Typed (s : Shape) (v : ℕ) : Type 0 where
  pub lines_field : v % 32 ≡ s.lines
  pub espi_field : v / 2 ^ 8 % 2 ≡ digit (ltb 0 s.espi)
  pub two_states : v / 2 ^ 10 % 2 ≡ 1
  pub mbis_field : v / 2 ^ 16 % 2 ≡ digit s.mbis
  pub id_bits : v / 2 ^ 19 % 32 ≡ 12
  pub no_1n : v / 2 ^ 25 % 2 ≡ 1
  pub espi_range : v / 2 ^ 27 ≡ s.espi - 1

pub typer_fields : (s : Shape) → s.lines ≤ 31 → Typed s (typer s)
unfolding typer
typer_fields s h =
    let e = digit_small (ltb 0 s.espi) in
    let m = digit_small s.mbis in
    record {
      lines_field = omega arith;
      espi_field = omega arith;
      two_states = omega arith;
      mbis_field = omega arith;
      id_bits = omega arith;
      no_1n = omega arith;
      espi_range = omega arith;
    }
