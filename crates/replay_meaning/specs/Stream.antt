-- The same replay as its input comes, byte by byte, in pieces of any size.
use Rattle.std.specs.Prelude.{Bool, cond, List, [], ◌∷◌, ◌++◌, ℕ, ◌+◌, eqb, ltb, leb, length}
use Rattle.replay_meaning.specs.Run.{Run, line_read}
use Rattle.replay_meaning.specs.Replay.{start, finished}

-- A replay in the middle of a line: what was done up to the last line end, and the bytes since then, of which `most` are kept.
pub record Live : Type 0 where
  pub run : Run
  pub line : List ℕ
  pub most : ℕ

-- A good line has 17 bytes at most, so that the first 18 of a line are enough to judge it.
unfoldable pub pushed : ℕ → List ℕ → ℕ → List ℕ
pushed most t b = cond (ltb (length t) most) (t ++ (b ∷ [])) t

unfoldable pub byte_read : Live → ℕ → Live
byte_read l b =
    cond (eqb b 10) (record { run = line_read l.run l.line; line = []; most = l.most })
    (record { run = l.run; line = pushed l.most l.line b; most = l.most })

unfoldable pub fed : Live → List ℕ → Live
fed l [] = l
fed l (b ∷ bs) = fed (byte_read l b) bs

unfoldable pub start_live : ℕ → Live
start_live most = record { run = start; line = []; most = most }

unfoldable pub closed : Live → List ℕ
closed l = finished l.run l.line

-- A piece taken while a buffer for the output has room: what is done, and what remains of the piece.
pub record Fed : Type 0 where
  pub live : Live
  pub left : List ℕ

-- a byte is taken while the output leaves 128 bytes of the buffer free
abbrev pub has_room : ℕ → Live → Bool
has_room size l = leb (length l.run.said + 128) size

unfoldable pub within : ℕ → Live → List ℕ → Fed
within size l [] = record { live = l; left = [] }
within size l (b ∷ bs) = cond (has_room size l) (within size (byte_read l b) bs) (record { live = l; left = b ∷ bs })

-- l once its output so far has been handed on: nothing is written that is still to be handed on, and all else is unchanged
unfoldable pub handed_on : Live → Live
handed_on l = record { run = record { at = l.run.at; tables = l.run.tables; said = [] }; line = l.line; most = l.most }

-- A replay whose input comes in pieces: what each piece adds to the output, and at the end what ends it.
unfoldable pub in_pieces : Live → List (List ℕ) → List ℕ
in_pieces l [] = closed l
in_pieces l (p ∷ ps) = (fed l p).run.said ++ in_pieces (handed_on (fed l p)) ps

-- the pieces put together
unfoldable pub joined : List (List ℕ) → List ℕ
joined [] = []
joined (p ∷ ps) = p ++ joined ps
