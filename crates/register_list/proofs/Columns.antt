-- Laws of a column of the listed words.
--   column        what holds of each of its words, and of what is looked up next where it has none, holds of what is found
--   column_past   a column that ends before an offset has nothing there
use Rattle.std.specs.Prelude.{Ok}
use mathlib.Core.Path.{◌≡◌, refl}
use mathlib.Core.List.{List, [], ◌∷◌}
use Prim.Native.Nat.{ℕ, ◌+◌, ◌*◌, ◌-◌, ◌/◌, ◌≤◌, ◌<◌}
use native.Mathlib.Omega.{arith}
use Rattle.lists.proofs.Bools.{clash}
use Rattle.types.specs.declared.Family.{Family}
use Rattle.types.specs.declared.Place.{Place}
use Rattle.meaning.specs.Answers.{Decoded}
use Rattle.meaning.specs.Interrupt.{between}
use Rattle.meaning.specs.Registers.{in_column}
use Rattle.meaning.proofs.Choices.{chosen}
use Rattle.meaning.proofs.Homes.{between_in, between_low, between_high}
use Rattle.register_families.proofs.Rows.{All}

-- the word at o is none of the family's
abbrev pub NotIn : (Family → ℕ) → (Family → ℕ) → ℕ → Family → Type 0
NotIn from many o f = from f ≤ o → o < from f + 4 * many f → ⊥

module _ (from many : Family → ℕ) (at : Family → ℕ → Place) (o : ℕ) (other : Decoded) where
  pub column : (P : Decoded → Type 0) → ((f : Family) → from f ≤ o → o < from f + 4 * many f → P (Ok (at f ((o - from f) / 4))))
      → (fs : List Family) → (All (NotIn from many o) fs → P other) → P (in_column from many at o fs other)
  unfolding in_column
  column P h [] k = k tt
  column P h (f ∷ fs) k =
      let end = from f + 4 * many f in
      chosen P (between (from f) end o) _ _ (λ t. h f (between_low (from f) end o t) (between_high (from f) end o t))
      (λ t. column P h fs (λ n. k ((λ l u. clash (between_in (from f) end o l u) t), n)))

  pub column_past : ((f : Family) → from f + 4 * many f ≤ o) → (fs : List Family) → in_column from many at o fs other ≡ other
  column_past past fs = column (λ d. d ≡ other) (λ f l u. absurd (let p = past f in omega arith)) fs (λ n. refl)
