-- Laws of `begins_with` and `same_text`: what the comparisons of std say of them.
use mathlib.Core.Path.{◌≡◌, refl}
use mathlib.Core.Bool.{false}
use mathlib.Core.List.{List, [], ◌∷◌}
use Prim.Native.Nat.{ℕ}
use native.Mathlib.Omega.{arith}
use lib.Dec.{eqb}
use lib.ListN.{length, take}
use borrow.Author.Tests.{ne_eqb}
use Rattle.std.proofs.lemmas.Bool.Decides.{nat_tests}
use Rattle.std.specs.Cmp.Lexicographic.{pointwise}
use Rattle.text.specs.Text.{begins_with, same_text}

-- `strip_prefix`: whether the text's first bytes are the key's
pub begins_stripped : (k t : List ℕ) → begins_with k t ≡ pointwise eqb (take (length k) t) k
unfolding begins_with
begins_stripped [] t = refl
begins_stripped (x ∷ k) [] = refl
begins_stripped (x ∷ k) (y ∷ t) = let h = begins_stripped k t in grind (arith, nat_tests)

-- `==`
pub same_compared : (a b : List ℕ) → same_text a b ≡ pointwise eqb b a
unfolding same_text begins_with
same_compared [] [] = refl
same_compared [] (y ∷ b) = grind (arith, nat_tests)
same_compared (x ∷ a) [] = grind (arith, nat_tests)
same_compared (x ∷ a) (y ∷ b) = let h = same_compared a b in grind (arith, nat_tests)

-- texts of different lengths are different
pub different : (a b : List ℕ) → (length a ≡ length b → ⊥) → same_text a b ≡ false
unfolding same_text
different a b h = rw (ne_eqb (length a) (length b) h)
