-- Writing into a lent buffer whose first bytes, up to an end, are written already.
use Rattle.std.specs.Prelude.{◌≡◌, List, ◌++◌, ℕ, ◌+◌, ◌≤◌, length, take, drop}
use Rattle.text.specs.declared.write.Sheet.{Sheet}

-- n bytes more have room on a sheet
abbrev pub HasRoom : Sheet → ℕ → Type 0
HasRoom s n = s.end + n ≤ length s.bytes.now

-- text was put at the end e of a buffer: what stands after it is as it was
pub record Put (buffer : List ℕ) (e : ℕ) (text : List ℕ) (buffer' : List ℕ) (e' : ℕ) : Type 0 where
  pub is : take e' buffer' ≡ take e buffer ++ text
  pub kept : drop e' buffer' ≡ drop e' buffer
  pub end : e' ≡ e + length text

-- text was put on a sheet: it has the same buffer, as long as it was
pub record Writes (s : Sheet) (text : List ℕ) (s' : Sheet) : Type 0 where
  pub put : Put s.bytes.now s.end text s'.bytes.now s'.end
  pub same : s'.bytes.ghost_name ≡ s.bytes.ghost_name
  pub long : length s'.bytes.now ≡ length s.bytes.now
