-- The place of the word at an offset, in the way that the code goes. Proved to be `listed`, in both frames.
use Rattle.std.specs.Prelude.{cond, Option, Some, None, List, [], ◌∷◌, ℕ, ◌-◌, ◌/◌, ◌%◌, eqb, ltb}
use Rattle.types.specs.declared.Frame.{Frame}
use Rattle.types.specs.declared.Frame.TheVariants.{Dist, Redist}
use Rattle.types.specs.declared.Family.{Family}
use Rattle.types.specs.declared.Place.{Place}
use Rattle.types.specs.declared.Place.TheVariants as place
use Rattle.meaning.specs.Registers.{row_of, families, redist_place}
use Rattle.register_map.specs.declared.Entry.{Entry}
use Rattle.register_map.specs.declared.Entry.TheVariants as entry
use Rattle.register_map.specs.Map.{entry_at}

-- the family whose extended words begin at o
unfoldable pub extended_from : ℕ → List Family → Option Family
extended_from o [] = None
extended_from o (f ∷ fs) = cond (eqb o (row_of f).extended) (Some f) (extended_from o fs)

-- the number of the word at o, of words that begin at b
abbrev pub word_at : ℕ → ℕ → ℕ
word_at b o = (o - b) / 4

-- word n of a family, of those that the Distributor has extended and of those that the Redistributor has
abbrev pub extended_word : Family → ℕ → Option Place
extended_word f n = cond (ltb n (row_of f).extras) (Some (place.Extended Dist f n)) None

abbrev pub redist_word : Family → ℕ → Option Place
redist_word f n = cond (ltb n (row_of f).redist) (Some (redist_place f n)) None

-- an entry's place in a frame, at the offset o
unfoldable pub place_in : Frame → Option Entry → ℕ → Option Place
place_in Dist (Some (entry.Register f)) o = Some (place.Word Dist f (word_at (row_of f).base o))
place_in Dist (Some (entry.Message g)) o = Some (place.Message g)
place_in Dist (Some entry.Typer) o = Some place.Typer
place_in Dist None o = None
place_in Redist (Some (entry.Register f)) o = redist_word f (word_at (row_of f).base o)
place_in Redist (Some (entry.Message g)) o = None
place_in Redist (Some entry.Typer) o = None
place_in Redist None o = None

-- the place at the offset o of extended words that a family may have there
abbrev pub extended_in : Option Family → ℕ → Option Place
extended_in (Some f) o = extended_word f (word_at (row_of f).extended o)
extended_in None o = None

-- a place past the map, where a family's extended words begin at a multiple of 512 and end before the next
unfoldable pub place_beyond : Frame → ℕ → Option Place
place_beyond Dist o = extended_in (extended_from (o - o % 512) families) o
place_beyond Redist o = None

-- The map has the first 4 KiB of both frames.
unfoldable pub place_at : Frame → ℕ → Option Place
place_at r o = cond (ltb o 4096) (place_in r (entry_at (o / 4)) o) (place_beyond r o)
