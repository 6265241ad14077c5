-- Laws of one cell: a bit that is put and got.
--   get-put    what was put is what is got
--   put-get    putting what is there changes nothing
use mathlib.Core.Path.{◌≡◌, refl}
use mathlib.Core.Bool.{Bool}
use Rattle.types.specs.declared.Bit.{Bit}
use Rattle.types.specs.declared.Bit.TheVariants.{Enabled, Latch, Wire, MessageLevel, Active, Edge, Group, Modifier}
use Rattle.meaning.specs.Cell.{Cell, get, put}

pub get-put : (b : Bit) (v : Bool) (c : Cell) → get b (put b v c) ≡ v
unfolding get put
get-put Enabled v c = refl
get-put Latch v c = refl
get-put Wire v c = refl
get-put MessageLevel v c = refl
get-put Active v c = refl
get-put Edge v c = refl
get-put Group v c = refl
get-put Modifier v c = refl

pub put-get : (b : Bit) (c : Cell) → put b (get b c) c ≡ c
unfolding get put
put-get Enabled c = refl
put-get Latch c = refl
put-get Wire c = refl
put-get MessageLevel c = refl
put-get Active c = refl
put-get Edge c = refl
put-get Group c = refl
put-get Modifier c = refl
