-- A digit fits the bits that its kind has.
--   room            how many bits a digit of a kind has
--   by_room         what holds of one bit and of two holds of every kind's
--   visible_room    what is visible of an interrupt fits them
use mathlib.Core.Bool.{Bool, true, false, cond}
use Prim.Native.Nat.{ℕ, ◌^◌, ◌<◌}
use native.Mathlib.Omega.{arith}
use Rattle.types.specs.declared.Side.{Side}
use Rattle.types.specs.declared.Shape.{Shape}
use Rattle.types.specs.declared.Way.TheVariants.{Read}
use Rattle.types.specs.declared.Kind.{Kind}
use Rattle.types.specs.declared.Kind.TheVariants.{Switched, Guarded, Trigger}
use Rattle.meaning.specs.Interrupt.{Interrupt}
use Rattle.meaning.specs.Cell.{Cell, get, edge_of}
use Rattle.meaning.specs.Rule.{reaches, guarded, state_of, shows, visible}
use Rattle.meaning.proofs.Bytes.{digit_small}

abbrev pub room : Kind → ℕ
room (Switched on b) = 1
room (Guarded g) = 1
room Trigger = 2

pub by_room : (P : ℕ → Type 0) → P 1 → P 2 → (k : Kind) → P (room k)
by_room P one two (Switched on b) = one
by_room P one two (Guarded g) = one
by_room P one two Trigger = two

module _ (s : Shape) (side : Side) (i : Interrupt) (c : Cell) where
  shows_room : (k : Kind) → shows s side k i c < 2 ^ room k
  unfolding shows
  shows_room (Switched on b) = let h = digit_small (state_of s b i c) in omega arith
  shows_room (Guarded g) = let h = digit_small (get (guarded g) c) in omega arith
  shows_room Trigger = let h = digit_small (edge_of i c) in omega arith

  pub visible_room : (k : Kind) → visible s side k i c < 2 ^ room k
  unfolding visible
  visible_room k = by (reaches s side Read k i c)
    where
      by : (b : Bool) → cond b (shows s side k i c) 0 < 2 ^ room k
      by true = shows_room k
      by false = by_room (λ n. 0 < 2 ^ n) (omega arith) (omega arith) k
