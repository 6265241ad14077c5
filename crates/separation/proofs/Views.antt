-- GLIMPSES: what the Non-secure side has of an interrupt.
--   by_glimpse    what holds of a cell and itself, and of two that are not owned, holds of two of which it has the same
--   same_owned, same_cell   so the same is owned, and what is owned is the same
--   both_hidden, alike_glimpse   it has the same of two that are not owned; of two that are owned alike and then the same
use mathlib.Core.Path.{◌≡◌, refl, sym, ap, ◌∙◌, subst}
use mathlib.Core.Bool.{Bool, true, false}
use Prim.Native.Nat.{ℕ}
use native.Mathlib.Omega.{arith}
use Rattle.lists.proofs.Bools.{clash}
use Rattle.meaning.specs.Cell.{Cell, owned}
use Rattle.meaning.proofs.Choices.{cond_true, cond_false}
use Rattle.separation.specs.Steps.{mine, hidden, glimpse}

mine_glimpse : (c : Cell) → owned c ≡ true → glimpse c ≡ mine c
unfolding glimpse
mine_glimpse c o = cond_true (owned c) _ _ o

hidden_glimpse : (c : Cell) → owned c ≡ false → glimpse c ≡ hidden
unfolding glimpse
hidden_glimpse c o = cond_false (owned c) _ _ o

module _ (c d : Cell) where
  pub both_hidden : owned c ≡ false → owned d ≡ false → glimpse c ≡ glimpse d
  both_hidden h k = hidden_glimpse c h ∙ sym (hidden_glimpse d k)

  pub by_glimpse : (P : Cell → Cell → Type 0) → glimpse c ≡ glimpse d → P c c → (owned c ≡ false → owned d ≡ false → P c d) → P c d
  by_glimpse P h same none = by (owned c) (owned d) refl refl
    where
      by : (x y : Bool) → owned c ≡ x → owned d ≡ y → P c d
      by true true e f = subst (P c) (cc (h, mine_glimpse c e, mine_glimpse d f)) same
      by true false e f = absurd (let z : ◌≡◌ {A = ℕ} 0 1 = cc (h, mine_glimpse c e, hidden_glimpse d f) in omega arith)
      by false true e f = absurd (let z : ◌≡◌ {A = ℕ} 0 1 = cc (h, hidden_glimpse c e, mine_glimpse d f) in omega arith)
      by false false e f = none e f

  pub same_owned : glimpse c ≡ glimpse d → owned c ≡ owned d
  same_owned h = by_glimpse (λ x y. owned x ≡ owned y) h refl (λ e f. e ∙ sym f)

  pub same_cell : glimpse c ≡ glimpse d → owned c ≡ true → c ≡ d
  same_cell h = by_glimpse (λ x y. owned x ≡ true → x ≡ y) h (λ o. refl) (λ e f o. absurd (clash o e))

  pub alike_glimpse : owned c ≡ owned d → (owned c ≡ true → c ≡ d) → glimpse c ≡ glimpse d
  alike_glimpse o e = by (owned c) refl
    where
      by : (x : Bool) → owned c ≡ x → glimpse c ≡ glimpse d
      by true h = ap glimpse (e h)
      by false h = both_hidden h (sym o ∙ h)
