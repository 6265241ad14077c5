-- The shape's limits, which interrupts are in range, and where the four lent tables keep one: document 01's "Shape and tables".
use Rattle.std.specs.Prelude.{Bool, false, cond, ◌&&◌, ◌||◌, List, ℕ, ◌+◌, ◌*◌, ◌-◌, ◌/◌, ◌%◌, min, eqb, ltb, leb, length, get_or}
use Rattle.lists.specs.Word.{bit_at}
use Rattle.types.specs.declared.Frame.{Frame}
use Rattle.types.specs.declared.Frame.TheVariants.{Dist, Redist}
use Rattle.types.specs.declared.Shape.{Shape}
use Rattle.meaning.specs.Interrupt.{Interrupt, shared, own, intid, interrupt, between}
use Rattle.meaning.specs.Cell.{Cell, decode}

-- The four lent tables: records, and presence words of 32 bits.
pub record Tables : Type 0 where
  pub dist : List ℕ
  pub redist : List ℕ
  pub dist_presence : List ℕ
  pub redist_presence : List ℕ

abbrev pub lent : List ℕ → List ℕ → List ℕ → List ℕ → Tables
lent dist redist dist_presence redist_presence =
    record { dist = dist; redist = redist; dist_presence = dist_presence; redist_presence = redist_presence }

abbrev pub records_of : Frame → Tables → List ℕ
records_of Dist t = t.dist
records_of Redist t = t.redist

abbrev pub presence_of : Frame → Tables → List ℕ
presence_of Dist t = t.dist_presence
presence_of Redist t = t.redist_presence

-- how many records and presence words each has
abbrev pub slots : Frame → ℕ
slots Dist = 2012
slots Redist = 96

abbrev pub presence_words : Frame → ℕ
presence_words Dist = 63
presence_words Redist = 3

unfoldable pub shape_fits : Shape → Bool
shape_fits s = leb s.lines 31 && (leb s.espi 32 && leb s.eppi 2)

unfoldable pub lengths_fit : Tables → Bool
lengths_fit t =
    eqb (length t.dist) (slots Dist)
    && (eqb (length t.redist) (slots Redist)
    && (eqb (length t.dist_presence) (presence_words Dist) && eqb (length t.redist_presence) (presence_words Redist)))

-- refusal 1 does not apply
unfoldable pub well_formed : Shape → Tables → Bool
well_formed s t = shape_fits s && lengths_fit t

-- SPIs 32 to the smaller of 1019 and 32·lines + 31; extended SPIs; SGIs and PPIs; extended PPIs
unfoldable pub in_range : Shape → Interrupt → Bool
in_range s (shared m) = between 32 (min 1020 (32 * s.lines + 32)) m || between 4096 (4096 + 32 * s.espi) m
in_range s (own m) = ltb m 32 || between 1056 (1056 + 32 * s.eppi) m

-- Where an interrupt is kept: its table, its slot there, and its presence word; or nowhere.
pub data Home : Type 0 where
  slot : Frame → ℕ → ℕ → Home
  nowhere : Home

unfoldable pub home_of : Interrupt → Home
home_of (shared m) =
    cond (between 32 1020 m) (slot Dist (m - 32) (m / 32 - 1))
    (cond (between 4096 5120 m) (slot Dist (988 + (m - 4096)) (31 + (m - 4096) / 32)) nowhere)
home_of (own m) =
    cond (ltb m 32) (slot Redist m 0)
    (cond (between 1056 1120 m) (slot Redist (32 + (m - 1056)) ((m - 1024) / 32)) nowhere)

-- the way back: the interrupt that a slot of a table keeps
unfoldable pub intid_at : Frame → ℕ → ℕ
intid_at Dist k = cond (ltb k 988) (32 + k) (4096 + (k - 988))
intid_at Redist k = cond (ltb k 32) k (1056 + (k - 32))

abbrev pub interrupt_at : Frame → ℕ → Interrupt
interrupt_at r k = interrupt r (intid_at r k)

abbrev pub present_at : Tables → ℕ → Home → Bool
present_at t x (slot r k w) = bit_at (get_or (presence_of r t) w 0) x
present_at t x nowhere = false

abbrev pub record_at : Tables → Home → ℕ
record_at t (slot r k w) = get_or (records_of r t) k 0
record_at t nowhere = 0

-- An interrupt is implemented when it is in range and its presence bit is 1.
unfoldable pub implemented : Shape → Tables → Interrupt → Bool
implemented s t i = in_range s i && present_at t (intid i % 32) (home_of i)

-- the interrupt i, as the lent tables have it
unfoldable pub cell_of : Shape → Tables → Interrupt → Cell
cell_of s t i = decode (implemented s t i) (record_at t (home_of i))
