-- THE DEED OF AN ACCESS: idle, or a write to what its place stands for. Every law of accesses goes by these two cases, once.
--   by_access   what holds of an idle deed, and of the write wherever it goes, holds of the access's deed
--   by_place    the same, where the place is known
--   idle_left   an idle deed leaves every interrupt
use Rattle.std.specs.Prelude.{Ok, Err}
use mathlib.Core.Path.{◌≡◌, refl, sym, subst}
use Rattle.types.specs.declared.Shape.{Shape}
use Rattle.types.specs.declared.Way.{Way}
use Rattle.types.specs.declared.Way.TheVariants.{Read, Write}
use Rattle.types.specs.declared.Access.{Access}
use Rattle.types.specs.declared.Place.{Place}
use Rattle.meaning.specs.Answers.{Decoded}
use Rattle.meaning.specs.Interrupt.{Interrupt}
use Rattle.meaning.specs.Cell.{Cell}
use Rattle.meaning.specs.Registers.{place_of, written_value, target_of}
use Rattle.meaning.specs.Rule.{access, Deed, idle, write_to, accessed, deed_of, aims, performed}
use Rattle.meaning.proofs.Aims.{unaimed_left}

pub idle_left : (s : Shape) (i : Interrupt) (c : Cell) → performed s idle i c ≡ c
unfolding aims
idle_left s i c = unaimed_left s idle i c refl

module _ (P : Deed → Type 0) (a : Access) (nothing : P idle) where
  abbrev There : Place → Type 0
  There p = P (write_to a.side (written_value a) (target_of p))

  placed : (p : Place) → (a.way ≡ Write → There p) → P (accessed a (Ok p))
  placed p there = by a.way refl
    where
      by : (w : Way) → a.way ≡ w → P (elim w [ Read ↦ idle | Write ↦ write_to a.side (written_value a) (target_of p) ])
      by Read e = nothing
      by Write e = there e

  pub by_place : (p : Place) → place_of a ≡ Ok p → (a.way ≡ Write → There p) → P (deed_of (access a))
  unfolding deed_of
  by_place p e there = subst (λ (d : Decoded). P (accessed a d)) (sym e) (placed p there)

  pub by_access : ((p : Place) → place_of a ≡ Ok p → a.way ≡ Write → There p) → P (deed_of (access a))
  unfolding deed_of
  by_access there = by (place_of a) refl
    where
      by : (d : Decoded) → place_of a ≡ d → P (accessed a d)
      by (Err r) e = nothing
      by (Ok p) e = placed p (there p e)
