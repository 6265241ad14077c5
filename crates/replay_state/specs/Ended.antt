-- How a replay ends: its last text, written into a lent buffer.
use Rattle.std.specs.Prelude.{◌≡◌, cond, List, [], ◌++◌, ℕ, leb, length, drop, Option, Some, None}

-- a buffer whose first bytes are a text, the others being as they were
abbrev pub over : List ℕ → List ℕ → List ℕ
over t buffer = t ++ drop (length t) buffer

-- the last text wants 32 bytes of a buffer, or nothing is written
unfoldable pub ended_of : ℕ → List ℕ → Option ℕ
ended_of size t = cond (leb 32 size) (Some (length t)) None

unfoldable pub ended_text : ℕ → List ℕ → List ℕ
ended_text size t = cond (leb 32 size) t []

-- The last text t was asked for: the answer, and the whole buffer after it.
pub record EndWritten (t buffer : List ℕ) (r : Option ℕ) (buffer' : List ℕ) : Type 0 where
  pub answer : r ≡ ended_of (length buffer) t
  pub output : buffer' ≡ over (ended_text (length buffer) t) buffer
