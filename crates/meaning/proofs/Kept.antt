-- WHAT A DEED KEEPS of an interrupt: presence always; its side unless the deed regroups; what is above the record's bits unless it is
-- a reset. One law, over any view of the cell that does not look at the state bits.
--   performed_kept   a deed that rewrites none of the guards that the view looks at keeps the view
--   presence_kept, rest_kept, side_kept, owned_kept   the views
use mathlib.Core.Path.{◌≡◌, refl, ◌∙◌, ap₂}
use mathlib.Core.Bool.{Bool, true, false, not, ◌&&◌, ◌||◌, beq}
use Prim.Native.Nat.{ℕ}
use lib.Dec.{leb}
use Rattle.lists.proofs.Bools.{and_left, and_right, clash}
use Rattle.types.specs.declared.Side.{Side}
use Rattle.types.specs.declared.Side.TheVariants.{Secure, NonSecure}
use Rattle.types.specs.declared.Shape.{Shape}
use Rattle.types.specs.declared.Way.TheVariants.{Write}
use Rattle.types.specs.declared.Bit.{Bit}
use Rattle.types.specs.declared.Bit.TheVariants.{Enabled, Latch, Wire, MessageLevel, Active, Edge, Group, Modifier}
use Rattle.types.specs.declared.Switch.{Switch}
use Rattle.types.specs.declared.Switch.TheVariants as switch
use Rattle.types.specs.declared.Guard.{Guard}
use Rattle.types.specs.declared.Guard.TheVariants as guard
use Rattle.types.specs.declared.Kind.{Kind}
use Rattle.types.specs.declared.Kind.TheVariants.{Switched, Guarded, Trigger}
use Rattle.types.specs.declared.Message.{Message}
use Rattle.types.specs.declared.Event.{Event}
use Rattle.types.specs.declared.Event.TheVariants as event
use Rattle.meaning.specs.Interrupt.{Interrupt}
use Rattle.meaning.specs.Cell.{Cell, put, decode, non_secure, owned, edge_of, pending}
use Rattle.meaning.specs.Registers.{kind_of}
use Rattle.meaning.specs.Rule.{Deed, idle, write, send, happen, clear, secure_kind, may_touch, reaches, bit_of, switched, guarded}
use Rattle.meaning.specs.Rule.{fixed_field, configured, update, sets, sent, happened, aims, admits, effect, performed}
use Rattle.meaning.proofs.Choices.{cond_keeps, cond_both, not_false}
use Rattle.meaning.proofs.Sides.{is_clear, by_secure, on_guard, rewrites, tells_side, regroups}

-- the bit is a guard, or one of those that deeds of every day write
abbrev guarding : (Guard → Bool) → Bit → Bool
guarding p Group = p guard.Group
guarding p Modifier = p guard.Modifier
guarding p Enabled = false
guarding p Latch = false
guarding p Wire = false
guarding p MessageLevel = false
guarding p Active = false
guarding p Edge = false

-- the view looks at no bit outside the guards p
abbrev Blind : {A : Type 0} → (Cell → A) → (Guard → Bool) → Type 0
Blind g p = (b : Bit) → guarding p b ≡ false → (v : Bool) (c : Cell) → g (put b v c) ≡ g c

module _ {A : Type 0} (g : Cell → A) (p : Guard → Bool) (blind : Blind g p) (s : Shape) (i : Interrupt) (c : Cell) where
  switch_kept : (b : Switch) (v : Bool) → g (put (bit_of b) v c) ≡ g c
  switch_kept switch.Enable v = blind Enabled refl v c
  switch_kept switch.Pending v = blind Latch refl v c
  switch_kept switch.Active v = blind Active refl v c

  guard_kept : (x : Guard) (v : Bool) → p x ≡ false → g (put (guarded x) v c) ≡ g c
  guard_kept guard.Group v h = blind Group h v c
  guard_kept guard.Modifier v h = blind Modifier h v c

  update_kept : (side : Side) (k : Kind) (d : ℕ) → on_guard p k ≡ false → g (update s side k d i c) ≡ g c
  unfolding update switched configured
  update_kept side (Switched on b) d h = switch_kept b _
  update_kept side (Guarded x) d h = guard_kept x _ h
  update_kept side Trigger d h =
      cond_both g (fixed_field i c || beq (leb 2 d) c.edge) c _ refl
      (blind Edge refl _ _ ∙ (blind Latch refl _ _ ∙ blind MessageLevel refl _ c))

  -- a guard that only the Secure side may write
  write_kept : (side : Side) (k : Kind) (d : ℕ) → by_secure side (on_guard p k) ≡ false → reaches s side Write k i c ≡ true
      → g (update s side k d i c) ≡ g c
  unfolding reaches may_touch
  write_kept Secure k d h t = update_kept Secure k d h
  write_kept NonSecure k d h t =
      update_kept NonSecure k d (no_guard k (not_false (secure_kind k) (and_left (not (secure_kind k)) _ (and_right c.implemented _ t))))
    where
      no_guard : (k : Kind) → secure_kind k ≡ false → on_guard p k ≡ false
      no_guard (Switched on b) h = refl
      no_guard (Guarded x) h = absurd (clash refl h)
      no_guard Trigger h = refl

  sent_kept : (k : Message) → g (sent s k i c) ≡ g c
  unfolding sent
  sent_kept k =
      cond_both g (sets k && pending s i c) c _ refl
      (cond_both g (edge_of i c) _ _ (blind Latch refl _ c) (blind MessageLevel refl _ c))

  happened_kept : (e : Event) → g (happened s e i c) ≡ g c
  unfolding happened
  happened_kept (event.Wire level) = blind Latch refl _ _ ∙ blind Wire refl _ c
  happened_kept (event.Activate side) = blind Active refl _ _ ∙ blind Latch refl _ c
  happened_kept (event.Deactivate side) = blind Active refl _ c

  -- THE LAW
  performed_kept : (d : Deed) → rewrites p d ≡ false → g (performed s d i c) ≡ g c
  unfolding performed effect admits rewrites
  performed_kept d h =
      cond_keeps g (aims s d i && admits s d i c) (effect s d i c) c (λ t. by d h (and_right (aims s d i) (admits s d i c) t))
    where
      by : (d : Deed) → rewrites p d ≡ false → admits s d i c ≡ true → g (effect s d i c) ≡ g c
      by idle h t = refl
      by (write side w v) h t = write_kept side (kind_of w.family) _ h t
      by (send side k v) h t = sent_kept k
      by (happen e m) h t = happened_kept e
      by clear h t = absurd (clash refl h)

-- THE VIEWS
blind_presence : Blind (λ (c : Cell). c.implemented) (λ x. false)
unfolding put
blind_presence b h v c = refl

blind_rest : Blind (λ (c : Cell). c.rest) (λ x. false)
unfolding put
blind_rest b h v c = refl

blind_side : Blind non_secure tells_side
unfolding put non_secure
blind_side Group h v c = absurd (clash refl h)
blind_side Modifier h v c = refl
blind_side Enabled h v c = refl
blind_side Latch h v c = refl
blind_side Wire h v c = refl
blind_side MessageLevel h v c = refl
blind_side Active h v c = refl
blind_side Edge h v c = refl

-- a view that looks at no guard is rewritten by a reset alone
no_guards : (d : Deed) → is_clear d ≡ false → rewrites (λ x. false) d ≡ false
unfolding rewrites
no_guards idle r = refl
no_guards (write side w v) r = by side (kind_of w.family)
  where
    by : (side : Side) (k : Kind) → by_secure side (on_guard (λ x. false) k) ≡ false
    by Secure (Switched on b) = refl
    by Secure (Guarded x) = refl
    by Secure Trigger = refl
    by NonSecure k = refl
no_guards (send side g v) r = refl
no_guards (happen e m) r = refl
no_guards clear r = r

module _ (s : Shape) (i : Interrupt) (c : Cell) where
  pub presence_kept : (d : Deed) → (performed s d i c).implemented ≡ c.implemented
  unfolding performed aims admits effect decode
  presence_kept d = by d
    where
      kept : (d : Deed) → is_clear d ≡ false → (performed s d i c).implemented ≡ c.implemented
      kept d h = performed_kept (λ c. c.implemented) (λ x. false) blind_presence s i c d (no_guards d h)

      by : (d : Deed) → (performed s d i c).implemented ≡ c.implemented
      by idle = refl
      by (write side w v) = kept (write side w v) refl
      by (send side g v) = kept (send side g v) refl
      by (happen e m) = kept (happen e m) refl
      by clear = refl

  pub rest_kept : (d : Deed) → is_clear d ≡ false → (performed s d i c).rest ≡ c.rest
  rest_kept d r = performed_kept (λ c. c.rest) (λ x. false) blind_rest s i c d (no_guards d r)

  pub side_kept : (d : Deed) → regroups d ≡ false → non_secure (performed s d i c) ≡ non_secure c
  side_kept d r = performed_kept non_secure tells_side blind_side s i c d r

  pub owned_kept : (d : Deed) → regroups d ≡ false → owned (performed s d i c) ≡ owned c
  unfolding owned
  owned_kept d r = ap₂ (λ (a b : Bool). a && b) (presence_kept d) (side_kept d r)
