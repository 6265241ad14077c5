-- K1 to K12, document 01's "Cases", as one table: the start, each step with its answer, and the records after it.
-- A record that a step's row does not name is as it was before the step.
use Rattle.std.specs.Prelude.{◌≡◌, true, false, cond, List, [], ◌∷◌, ℕ}
use Rattle.types.specs.declared.Frame.{Frame}
use Rattle.types.specs.declared.Frame.TheVariants.{Dist, Redist}
use Rattle.types.specs.declared.Side.{Side}
use Rattle.types.specs.declared.Side.TheVariants.{Secure, NonSecure}
use Rattle.types.specs.declared.Way.TheVariants.{Read, Write}
use Rattle.types.specs.declared.Shape.{Shape}
use Rattle.types.specs.declared.Event.TheVariants.{Wire, Activate}
use Rattle.meaning.specs.Interrupt.{Interrupt, same, named}
use Rattle.meaning.specs.Cell.{decode}
use Rattle.meaning.specs.Layout.{in_range}
use Rattle.meaning.specs.Answers.{Answer, status_of, value_of}
use Rattle.meaning.specs.Rule.{Step, access, happens, act}
use Rattle.meaning.specs.Step.{Cells, answer}

-- Bench shape, all interrupts present.
abbrev pub bench : Shape
bench = record { lines = 9; espi = 4; eppi = 1; mbis = true }

-- the records, by interrupt
abbrev pub Records : Type 0
Records = Interrupt → ℕ

unfoldable pub present : Records → Cells
present r i = decode (in_range bench i) (r i)

pub record Named : Type 0 where
  pub intid : ℕ
  pub byte : ℕ

infix 80 ◌is◌
abbrev pub ◌is◌ : ℕ → ℕ → Named
◌is◌ m b = record { intid = m; byte = b }

-- r, with the named records put
unfoldable pub naming : List Named → Records → Records
naming [] r i = r i
naming (n ∷ ns) r i = cond (same (named n.intid) i) n.byte (naming ns r i)

-- records not named start at 0
abbrev pub from : List Named → Records
from ns = naming ns (λ i. 0)

-- a step, document 01's number of its answer (0 for done) and the value, and the records after it
pub record Row : Type 0 where
  pub step : Step
  pub status : ℕ
  pub value : ℕ
  pub after : List Named

pub record Case : Type 0 where
  pub start : Records
  pub rows : List Row

-- accesses, 4 bytes wide
abbrev pub writes : Side → Frame → ℕ → ℕ → Step
writes side r o v = access (record { frame = r; side = side; way = Write; width = 4; offset = o; value = v })

abbrev pub reads : Side → Frame → ℕ → Step
reads side r o = access (record { frame = r; side = side; way = Read; width = 4; offset = o; value = 0 })

-- a step that is done with 0, and leaves these records
abbrev pub done : Step → List Named → Row
done q ns = record { step = q; status = 0; value = 0; after = ns }

-- a read that shows v, and leaves every record
abbrev pub showing : Step → ℕ → Row
showing q v = record { step = q; status = 0; value = v; after = [] }

-- a step that is refused with the number n
abbrev pub refused : Step → ℕ → Row
refused q n = record { step = q; status = n; value = 0; after = [] }

abbrev pub case : Records → List Row → Case
case r rows = record { start = r; rows = rows }

abbrev pub k1 : Case
k1 =
    case (from (300 is 0x60 ∷ []))
    (done (writes NonSecure Dist 0x224 0x1000) (300 is 0x62 ∷ [])
    ∷ showing (reads NonSecure Dist 0x224) 0x1000
    ∷ showing (reads Secure Dist 0x224) 0x1000
    ∷ showing (reads NonSecure Dist 0x2A4) 0x1000
    ∷ showing (reads Secure Dist 0x2A4) 0x1000
    ∷ [])

abbrev pub k2 : Case
k2 = case (from (300 is 0x62 ∷ 44 is 0x22 ∷ [])) (done (writes NonSecure Dist 0x48 300) (300 is 0x60 ∷ 44 is 0x22 ∷ []) ∷ [])

-- still pending
abbrev pub k3 : Case
k3 =
    case (from (300 is 0x44 ∷ []))
    (done (writes NonSecure Dist 0x2A4 0x1000) (300 is 0x44 ∷ []) ∷ showing (reads NonSecure Dist 0x224) 0x1000 ∷ [])

abbrev pub k4 : Case
k4 =
    case (from (300 is 0x44 ∷ []))
    (done (writes NonSecure Dist 0x224 0x1000) (300 is 0x46 ∷ []) ∷ done (happens (Wire false) 300) (300 is 0x42 ∷ []) ∷ [])

abbrev pub k5 : Case
k5 =
    case (from (300 is 0x40 ∷ []))
    (done (writes NonSecure Dist 0x40 300) (300 is 0x48 ∷ [])
    ∷ done (writes NonSecure Dist 0x2A4 0x1000) (300 is 0x48 ∷ [])
    ∷ done (writes NonSecure Dist 0x48 300) (300 is 0x40 ∷ [])
    ∷ [])

abbrev pub k6 : Case
k6 = case (from (4131 is 0x62 ∷ [])) (done (writes NonSecure Dist 0x1804 8) (4131 is 0x60 ∷ []) ∷ [])

abbrev pub k7 : Case
k7 = case (from (4131 is 0x70 ∷ [])) (done (writes NonSecure Dist 0x1C04 8) (4131 is 0x60 ∷ []) ∷ [])

abbrev pub k8 : Case
k8 = case (from (1056 is 0x60 ∷ [])) (done (writes NonSecure Redist 0x204 1) (1056 is 0x62 ∷ []) ∷ [])

abbrev pub k9 : Case
k9 = case (from (300 is 0x22 ∷ [])) (showing (reads Secure Dist 0x224) 0x1000 ∷ showing (reads NonSecure Dist 0x224) 0 ∷ [])

-- K10 and K11 hold for every start; K10 for every value, and both for both sides
abbrev pub k10 : Records → ℕ → Side → Case
k10 r v side = case r (done (writes side Redist 0x208 v) [] ∷ showing (reads side Redist 0x208) 0 ∷ [])

abbrev pub k11 : Records → Side → Case
k11 r side = case r (showing (reads side Dist 0x004) 0x1A610509 ∷ [])

abbrev pub k12 : Case
k12 =
    case (from (300 is 0x63 ∷ []))
    (done (happens (Activate NonSecure) 300) (300 is 0x71 ∷ []) ∷ refused (happens (Activate NonSecure) 300) 9 ∷ [])

abbrev pub cases : Records → ℕ → Side → List Case
cases r v side = k1 ∷ k2 ∷ k3 ∷ k4 ∷ k5 ∷ k6 ∷ k7 ∷ k8 ∷ k9 ∷ k10 r v side ∷ k11 r side ∷ k12 ∷ []

-- an answer by document 01's number and value
abbrev pub Says : Answer → ℕ → ℕ → Type 0
Says a n v = (status_of a ≡ n) × (value_of a ≡ v)

-- each row's answer, and every record after it, on the records that the row before left
abbrev pub RowsHold : Records → List Row → Type 0
RowsHold r [] = Unit
RowsHold r (w ∷ ws) =
    Says (answer bench w.step (present r)) w.status w.value
    × ((i : Interrupt) → act bench w.step i (present r i) ≡ present (naming w.after r) i)
    × RowsHold (naming w.after r) ws

abbrev pub Hold : List Case → Type 0
Hold [] = Unit
Hold (k ∷ ks) = RowsHold k.start k.rows × Hold ks
