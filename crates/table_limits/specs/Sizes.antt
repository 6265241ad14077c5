-- What holds of the tables and the shape where refusal 1 does not apply.
use Rattle.std.specs.Prelude.{◌≡◌, true, length}
use Rattle.types.specs.declared.Frame.TheVariants.{Dist, Redist}
use Rattle.types.specs.declared.Shape.{Shape}
use Rattle.meaning.specs.Layout.{Tables, slots, presence_words, shape_fits}

pub record Sizes (s : Shape) (t : Tables) : Type 0 where
  pub shape : shape_fits s ≡ true
  pub dist : length t.dist ≡ slots Dist
  pub redist : length t.redist ≡ slots Redist
  pub dist_presence : length t.dist_presence ≡ presence_words Dist
  pub redist_presence : length t.redist_presence ≡ presence_words Redist
