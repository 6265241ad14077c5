-- Text as bytes: quoted text, what a text begins with, and when two texts are the same.
use Rattle.std.specs.Prelude.{Bool, true, false, ◌&&◌, List, [], ◌∷◌, ℕ, eqb, length}
use Prim.Native.Char.{code}
use Prim.Native.String.{String, [] as empty, ◌∷◌ as ◌then◌}

-- the bytes of a quoted text, one for each of its letters
abbrev pub bytes : String → List ℕ
bytes empty = []
bytes (c then s) = code c ∷ bytes s

unfoldable pub begins_with : List ℕ → List ℕ → Bool
begins_with [] t = true
begins_with (k ∷ ks) [] = false
begins_with (k ∷ ks) (b ∷ bs) = eqb k b && begins_with ks bs

unfoldable pub same_text : List ℕ → List ℕ → Bool
same_text a b = eqb (length a) (length b) && begins_with a b
