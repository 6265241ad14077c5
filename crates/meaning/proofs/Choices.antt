-- Laws of a choice between two things.
--   chosen    what holds of both, each where it is chosen, holds of the choice
--   cond_keeps, cond_both, cond_alike, cond_shut, cond_true, cond_false    the same, of what is known of the things or of the test
use mathlib.Core.Path.{◌≡◌, refl, sym, ap}
use mathlib.Core.Bool.{Bool, true, false, cond, not}

module _ {A B : Type 0} where
  -- what the first keeps, where it is chosen, is kept
  pub cond_keeps : (g : A → B) (b : Bool) (new old : A) → (b ≡ true → g new ≡ g old) → g (cond b new old) ≡ g old
  cond_keeps g true new old h = h refl
  cond_keeps g false new old h = refl

  -- what both have, the chosen has
  pub cond_both : (g : A → B) (b : Bool) (x y : A) {k : B} → g x ≡ k → g y ≡ k → g (cond b x y) ≡ k
  cond_both g true x y h k = h
  cond_both g false x y h k = k

  -- the same choice on both sides
  pub cond_alike : (g h : A → B) (b : Bool) (x y z w : A) → (b ≡ true → g x ≡ h z) → (b ≡ false → g y ≡ h w)
      → g (cond b x y) ≡ h (cond b z w)
  cond_alike g h true x y z w k l = k refl
  cond_alike g h false x y z w k l = l refl

module _ {A : Type 0} where
  pub chosen : (P : A → Type 0) (b : Bool) (x y : A) → (b ≡ true → P x) → (b ≡ false → P y) → P (cond b x y)
  chosen P true x y h k = h refl
  chosen P false x y h k = k refl

  pub cond_shut : (b : Bool) (new old : A) → (b ≡ true → ⊥) → cond b new old ≡ old
  cond_shut true new old h = absurd (h refl)
  cond_shut false new old h = refl

  pub cond_true : (b : Bool) (x y : A) → b ≡ true → cond b x y ≡ x
  cond_true b x y h = ap (λ (t : Bool). cond t x y) h

  pub cond_false : (b : Bool) (x y : A) → b ≡ false → cond b x y ≡ y
  cond_false b x y h = ap (λ (t : Bool). cond t x y) h

pub not_false : (b : Bool) → not b ≡ true → b ≡ false
not_false true h = sym h
not_false false h = refl

pub no_true : (b : Bool) → (b ≡ true → ⊥) → b ≡ false
no_true true h = absurd (h refl)
no_true false h = refl
