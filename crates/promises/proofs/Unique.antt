-- DEMANDS 1 AND 2: the promise of a public function leaves no choice. Two results that both meet it are equal.
--   unique          the functions of the controller: the answer and the four tables after it
--   number_unique, status_unique, value_unique              the numbers of an answer
--   shape_unique, access_unique, read_unique, write_unique  the constructors of a shape and of an access
use mathlib.Core.Path.{◌≡◌, sym, ◌∙◌}
use mathlib.Core.Bool.{Bool}
use Prim.Native.Nat.{ℕ}
use Rattle.types.specs.declared.Shape.{Shape}
use Rattle.types.specs.declared.Frame.{Frame}
use Rattle.types.specs.declared.Side.{Side}
use Rattle.types.specs.declared.Way.{Way}
use Rattle.types.specs.declared.Way.TheVariants.{Read, Write}
use Rattle.types.specs.declared.Access.{Access}
use Rattle.types.specs.declared.Refusal.{Refusal}
use Rattle.meaning.specs.Layout.{Tables}
use Rattle.meaning.specs.Answers.{Answer, number, status_of, value_of}
use Rattle.meaning.specs.Rule.{Step}
use Rattle.meaning.specs.Step.{Outcome, stepped}

pub unique : (s : Shape) (q : Step) (t : Tables) (a b : Outcome) → a ≡ stepped s q t → b ≡ stepped s q t → a ≡ b
unique s q t a b h k = h ∙ sym k

pub number_unique : (r : Refusal) (m n : ℕ) → m ≡ number r → n ≡ number r → m ≡ n
number_unique r m n h k = h ∙ sym k

pub status_unique : (a : Answer) (m n : ℕ) → m ≡ status_of a → n ≡ status_of a → m ≡ n
status_unique a m n h k = h ∙ sym k

pub value_unique : (a : Answer) (m n : ℕ) → m ≡ value_of a → n ≡ value_of a → m ≡ n
value_unique a m n h k = h ∙ sym k

abbrev shape : ℕ → ℕ → ℕ → Bool → Shape
shape lines espi eppi mbis = record { lines = lines; espi = espi; eppi = eppi; mbis = mbis }

pub shape_unique : (lines espi eppi : ℕ) (mbis : Bool) (a b : Shape) → a ≡ shape lines espi eppi mbis
    → b ≡ shape lines espi eppi mbis → a ≡ b
shape_unique lines espi eppi mbis a b h k = h ∙ sym k

abbrev request : Frame → Side → Way → ℕ → ℕ → ℕ → Access
request r side w width o v = record { frame = r; side = side; way = w; width = width; offset = o; value = v }

pub access_unique : (r : Frame) (side : Side) (w : Way) (width o v : ℕ) (a b : Access) → a ≡ request r side w width o v
    → b ≡ request r side w width o v → a ≡ b
access_unique r side w width o v a b h k = h ∙ sym k

pub read_unique : (r : Frame) (side : Side) (width o : ℕ) (a b : Access) → a ≡ request r side Read width o 0
    → b ≡ request r side Read width o 0 → a ≡ b
read_unique r side width o a b h k = h ∙ sym k

pub write_unique : (r : Frame) (side : Side) (width o v : ℕ) (a b : Access) → a ≡ request r side Write width o v
    → b ≡ request r side Write width o v → a ≡ b
write_unique r side width o v a b h k = h ∙ sym k
