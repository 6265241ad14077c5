-- K1 to K12 on the lent tables: when tables hold the records of a case, and what holds of them row by row.
use Rattle.std.specs.Prelude.{◌≡◌, true, List, [], ◌∷◌, ℕ, ◌<◌, get_or}
use Rattle.lists.specs.Word.{bit_at}
use Rattle.types.specs.declared.Frame.{Frame}
use Rattle.meaning.specs.Interrupt.{Interrupt}
use Rattle.meaning.specs.Layout.{Tables, presence_of, presence_words, well_formed, home_of, record_at}
use Rattle.meaning.specs.Step.{stepped}
use Rattle.meaning.specs.Cases.{bench, Records, naming, Row, Case, Says}

-- the tables are well-formed, all their presence bits are 1, and they hold the records r
pub record Holding (r : Records) (t : Tables) : Type 0 where
  pub well : well_formed bench t ≡ true
  pub present_all : (f : Frame) (w x : ℕ) → w < presence_words f → x < 32 → bit_at (get_or (presence_of f t) w 0) x ≡ true
  pub records : (i : Interrupt) → record_at t (home_of i) ≡ r i

-- each row's answer by document 01's number and value, and the records after it, on the tables that the row before left
abbrev pub OnTables : Records → List Row → Tables → Type 0
OnTables r [] t = Unit
OnTables r (w ∷ ws) t =
    Says (stepped bench w.step t).answered w.status w.value
    × Holding (naming w.after r) (stepped bench w.step t).tables
    × OnTables (naming w.after r) ws (stepped bench w.step t).tables

-- each case, on any tables that hold its start
abbrev pub AllOnTables : List Case → Type 0
AllOnTables [] = Unit
AllOnTables (k ∷ ks) = ((t : Tables) → Holding k.start t → OnTables k.start k.rows t) × AllOnTables ks
