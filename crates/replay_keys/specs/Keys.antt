-- The lines of a bench replay: which key stands on which line, and what a line says. Document 01's "Bench replay".
use Rattle.std.specs.Prelude.{cond, List, ℕ, length, drop, Option, Some, None}
use Rattle.text.specs.Text.{bytes, begins_with, same_text}
use Rattle.text.specs.Number.{limited, number_in}
use Rattle.replay_keys.specs.declared.Key.{Key}
use Rattle.replay_keys.specs.declared.Key.TheVariants.{Lines, Espi, Eppi, Mbis, Op, Frame, Sec, Width, Offset, Value}

-- a key's place: four of the shape, six of each step
abbrev pub rank : Key → ℕ
rank Lines = 0
rank Espi = 1
rank Eppi = 2
rank Mbis = 3
rank Op = 4
rank Frame = 5
rank Sec = 6
rank Width = 7
rank Offset = 8
rank Value = 9

-- the key of the next line: after a step's last line, the next step's first
abbrev pub after : Key → Key
after Lines = Espi
after Espi = Eppi
after Eppi = Mbis
after Mbis = Op
after Op = Frame
after Frame = Sec
after Sec = Width
after Width = Offset
after Offset = Value
after Value = Op

abbrev pub at_most : ℕ → Option ℕ → Option ℕ
at_most most (Some n) = limited most n
at_most most None = None

-- a key and a number up to its limit
unfoldable pub number_at : ℕ → List ℕ → List ℕ → Option ℕ
number_at most key t = cond (begins_with key t) (at_most most (number_in (drop (length key) t))) None

-- one of two lines: 0 for the first, 1 for the second
unfoldable pub one_of : List ℕ → List ℕ → List ℕ → Option ℕ
one_of a b t = cond (same_text a t) (Some 0) (cond (same_text b t) (Some 1) None)

-- What a line, without its end, says for the key whose turn it is. A shape number off its limit is a bad line.
unfoldable pub field_of : Key → List ℕ → Option ℕ
field_of Lines t = number_at 31 (bytes "lines=") t
field_of Espi t = number_at 32 (bytes "espi=") t
field_of Eppi t = number_at 2 (bytes "eppi=") t
field_of Mbis t = number_at 1 (bytes "mbis=") t
field_of Op t = one_of (bytes "op=read") (bytes "op=write") t
field_of Frame t = one_of (bytes "frame=dist") (bytes "frame=redist") t
field_of Sec t = one_of (bytes "sec=s") (bytes "sec=ns") t
field_of Width t = number_at 4294967295 (bytes "width=") t
field_of Offset t = number_at 4294967295 (bytes "offset=") t
field_of Value t = number_at 4294967295 (bytes "value=") t
