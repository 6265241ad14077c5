-- DEMAND 2, on every record: nothing but a reset touches a missing interrupt's record; and a step leaves every record that it does not
-- name. On any tables, whatever numbers stand in them.
--   slot_kept      an interrupt that the rule leaves keeps its number
--   unaimed_kept   a step leaves every record at which it does not aim: of an event, all but its interrupt's
--   others_kept    so an access leaves every record that its window, or its message, does not name
--   missing_kept   and every step but a reset leaves those of missing interrupts
use Rattle.std.specs.Prelude.{Ok}
use mathlib.Core.Path.{◌≡◌, refl, ◌∙◌}
use mathlib.Core.Bool.{false}
use Prim.Native.Nat.{ℕ, ◌<◌}
use lib.ListN.{get_or}
use Rattle.types.specs.declared.Frame.{Frame}
use Rattle.types.specs.declared.Shape.{Shape}
use Rattle.types.specs.declared.Access.{Access}
use Rattle.types.specs.declared.Place.{Place}
use Rattle.types.specs.declared.Target.{Target}
use Rattle.types.specs.declared.Target.TheVariants as target
use Rattle.meaning.specs.Interrupt.{Interrupt}
use Rattle.meaning.specs.Layout.{Tables, records_of, slots, interrupt_at, implemented, cell_of}
use Rattle.meaning.specs.Registers.{place_of, written_value, target_of}
use Rattle.meaning.specs.Rule.{Step, access, happens, reset, Deed, write_to, deed_of, aims, act}
use Rattle.meaning.proofs.Sides.{is_clear}
use Rattle.meaning.proofs.Gates.{missing_left}
use Rattle.meaning.proofs.Aims.{unaimed_left}
use Rattle.meaning.proofs.After.{cell_present, record_stays, well_lengths}
use Rattle.promises.specs.Records.{Kept, reached_by}
use Rattle.promises.proofs.Deeds.{by_place, by_access}
use Rattle.promises.proofs.Refused.{by_shape}

-- an access does not aim at what its place does not name
unreached : (s : Shape) (a : Access) (p : Place) (i : Interrupt) → place_of a ≡ Ok p → reached_by s a (target_of p) i ≡ false
    → aims s (deed_of (access a)) i ≡ false
unfolding aims reached_by
unreached s a p i e h = by_place (λ (d : Deed). aims s d i ≡ false) a refl p e (λ w. by (target_of p) h)
  where
    by : (g : Target) → reached_by s a g i ≡ false → aims s (write_to a.side (written_value a) g) i ≡ false
    by (target.Digits w) h = h
    by target.Typer h = h
    by (target.Message g) h = h

-- only a reset clears
pub clears_none : (q : Step) → (q ≡ reset → ⊥) → is_clear (deed_of q) ≡ false
unfolding deed_of
clears_none (access a) n = by_access (λ (d : Deed). is_clear d ≡ false) a refl (λ p e w. by (target_of p))
  where
    by : (g : Target) → is_clear (write_to a.side (written_value a) g) ≡ false
    by (target.Digits w) = refl
    by target.Typer = refl
    by (target.Message g) = refl
clears_none (happens e m) n = refl
clears_none reset n = absurd (n refl)

module _ (s : Shape) (q : Step) (t : Tables) (r : Frame) (k : ℕ) (inside : k < slots r) where
  abbrev here : Interrupt
  here = interrupt_at r k

  pub slot_kept : act s q (interrupt_at r k) (cell_of s t (interrupt_at r k)) ≡ cell_of s t (interrupt_at r k) → Kept s q t r k
  slot_kept h =
      by_shape s q t (λ (u : Tables). get_or (records_of r u) k 0 ≡ get_or (records_of r t) k 0) refl
      (λ e. record_stays s q t (well_lengths s t e) r k inside h)

  pub unaimed_kept : aims s (deed_of q) (interrupt_at r k) ≡ false → Kept s q t r k
  unfolding act
  unaimed_kept h = slot_kept (unaimed_left s (deed_of q) here (cell_of s t here) h)

  pub missing_kept : (q ≡ reset → ⊥) → implemented s t (interrupt_at r k) ≡ false → Kept s q t r k
  unfolding act
  missing_kept n h = slot_kept (missing_left s here (cell_of s t here) (deed_of q) (clears_none q n) (cell_present s t here ∙ h))

pub others_kept : (s : Shape) (a : Access) (t : Tables) (p : Place) → place_of a ≡ Ok p → (r : Frame) (k : ℕ) → k < slots r
    → reached_by s a (target_of p) (interrupt_at r k) ≡ false → Kept s (access a) t r k
others_kept s a t p e r k l h = unaimed_kept s (access a) t r k l (unreached s a p (interrupt_at r k) e h)
