-- The digits of a register word, in the way that the code goes; proved to be what the place stands for.
use Rattle.std.specs.Prelude.{cond, ℕ, ◌+◌, ◌*◌}
use Rattle.types.specs.declared.Frame.{Frame}
use Rattle.types.specs.declared.Frame.TheVariants.{Dist, Redist}
use Rattle.types.specs.declared.Family.{Family}
use Rattle.types.specs.declared.Place.{Place}
use Rattle.types.specs.declared.Place.TheVariants.{Word, Extended, Typer, Message}
use Rattle.types.specs.declared.Target.{Target}
use Rattle.meaning.specs.Registers.{per_word, low, window}

-- the number of the word in its family; 0 for TYPER and the message registers
abbrev pub number_of : Place → ℕ
number_of (Word r f n) = n
number_of (Extended r f n) = n
number_of Typer = 0
number_of (Message g) = 0

-- the INTID that a frame's extended words are counted from
abbrev pub origin : Frame → ℕ
origin Dist = 4096
origin Redist = 1024

-- how many digits a word has that begins with the INTID m: of `per`, all but in the Distributor's low words
abbrev pub count_of : Frame → ℕ → ℕ → ℕ
count_of Dist m per = cond (low m) 0 per
count_of Redist m per = per

-- word n of words that are counted from the INTID m
abbrev pub digits_from : Frame → Family → ℕ → ℕ → Target
digits_from r f m n = window r f (m + per_word f * n) (count_of r (m + per_word f * n) (per_word f))
