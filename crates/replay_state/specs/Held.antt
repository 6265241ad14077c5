-- What is kept from byte to byte.
use Rattle.std.specs.Prelude.{cond, List, [], ◌∷◌, ℕ, ◌+◌, eqb, leb, length, set}
use Rattle.replay_meaning.specs.Replay.{start_progress}
use Rattle.replay_state.specs.declared.State.{State}

-- before the first byte
unfoldable pub start_state : State
start_state = record { at = start_progress; len = 0; end = 0 }

-- The line that is not whole yet: the first `len` bytes of the buffer lent for it.
pub record Held : Type 0 where
  pub line : List ℕ
  pub len : ℕ

abbrev pub held_in : List ℕ → ℕ → Held
held_in line len = record { line = line; len = len }

-- one byte more, where the buffer has room for it
unfoldable pub stored : Held → ℕ → Held
stored h b = cond (leb (length h.line) h.len) h (held_in (set h.line h.len b) (h.len + 1))

-- after a line's end the next line is written over the old one
unfoldable pub byte_held : Held → ℕ → Held
byte_held h b = cond (eqb b 10) (held_in h.line 0) (stored h b)

unfoldable pub bytes_held : Held → List ℕ → Held
bytes_held h [] = h
bytes_held h (b ∷ bs) = bytes_held (byte_held h b) bs
