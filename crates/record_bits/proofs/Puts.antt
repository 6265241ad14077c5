-- Bits put one after another.
--   decode-put   a bit put through the byte is put in the cell
use mathlib.Core.Path.{◌≡◌}
use mathlib.Core.Bool.{Bool}
use Prim.Native.Nat.{ℕ}
use Rattle.types.specs.declared.Bit.{Bit}
use Rattle.meaning.specs.Cell.{put, decode, encode}
use Rattle.meaning.proofs.Bytes.{decode-encode}

pub decode-put : (i : Bool) (b : Bit) (v : Bool) (n : ℕ) → decode i (encode (put b v (decode i n))) ≡ put b v (decode i n)
unfolding put decode
decode-put i b v n = decode-encode (put b v (decode i n))
