-- What the numbers of a request stand for. A frame, a side and a way are 1 or 2, so that a number that was forgotten (0) names
-- nothing; above all it is never the Secure side. mbis and a wire's level are 0 or 1.
use Rattle.std.specs.Prelude.{Bool, cond, ◌||◌, ℕ, eqb}
use Rattle.types.specs.declared.Frame.{Frame}
use Rattle.types.specs.declared.Frame.TheVariants.{Dist, Redist}
use Rattle.types.specs.declared.Side.{Side}
use Rattle.types.specs.declared.Side.TheVariants.{Secure, NonSecure}
use Rattle.types.specs.declared.Way.{Way}
use Rattle.types.specs.declared.Way.TheVariants.{Read, Write}
use Rattle.types.specs.declared.Shape.{Shape}
use Rattle.types.specs.declared.Access.{Access}

abbrev pub one_or_two : ℕ → Bool
one_or_two n = eqb n 1 || eqb n 2

abbrev pub zero_or_one : ℕ → Bool
zero_or_one n = eqb n 0 || eqb n 1

-- 1 is the Distributor, 2 the Redistributor
unfoldable pub frame_of : ℕ → Frame
frame_of n = cond (eqb n 1) Dist Redist

-- 1 is the Non-secure side, 2 the Secure side
unfoldable pub side_of : ℕ → Side
side_of n = cond (eqb n 2) Secure NonSecure

-- 1 is a read, 2 a write
unfoldable pub way_of : ℕ → Way
way_of n = cond (eqb n 2) Write Read

unfoldable pub shape_of : ℕ → ℕ → ℕ → ℕ → Shape
shape_of lines espi eppi mbis = record { lines = lines; espi = espi; eppi = eppi; mbis = eqb mbis 1 }

unfoldable pub request_of : ℕ → ℕ → ℕ → ℕ → ℕ → ℕ → Access
request_of frame side way width offset value =
    record { frame = frame_of frame; side = side_of side; way = way_of way; width = width; offset = offset; value = value }
