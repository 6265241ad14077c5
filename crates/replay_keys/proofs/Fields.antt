-- Laws of the keys: their places are ten, and no good line has more than 17 bytes before its end.
use mathlib.Core.Path.{◌≡◌, refl}
use mathlib.Core.List.{List}
use Prim.Native.Nat.{ℕ, ◌+◌, ◌<◌, ◌≤◌}
use native.Mathlib.Omega.{arith}
use lib.ListN.{length, drop, length-drop}
use Rattle.std.specs.Prelude.{None}
use Rattle.text.specs.Text.{bytes, begins_with}
use Rattle.text.proofs.Texts.{different}
use Rattle.text.proofs.Numbers.{chosen, number_long}
use Rattle.replay_keys.specs.declared.Key.{Key}
use Rattle.replay_keys.specs.declared.Key.TheVariants.{Lines, Espi, Eppi, Mbis, Op, Frame, Sec, Width, Offset, Value}
use Rattle.replay_keys.specs.Keys.{rank, number_at, one_of, field_of}

pub rank_small : (k : Key) → rank k < 10
rank_small Lines = omega arith
rank_small Espi = omega arith
rank_small Eppi = omega arith
rank_small Mbis = omega arith
rank_small Op = omega arith
rank_small Frame = omega arith
rank_small Sec = omega arith
rank_small Width = omega arith
rank_small Offset = omega arith
rank_small Value = omega arith

long_number : (most : ℕ) (key t : List ℕ) → length key + 11 ≤ length t → number_at most key t ≡ None
unfolding number_at
long_number most key t h =
    rw (number_long (drop (length key) t) (simp length-drop (omega arith))) (chosen (begins_with key t) refl)

long_word : (a b t : List ℕ) → length a < length t → length b < length t → one_of a b t ≡ None
unfolding one_of
long_word a b t h k = rw (different a t (λ e. omega arith), different b t (λ e. omega arith))

-- the longest good line is offset=4294967295
pub long_field : (k : Key) (t : List ℕ) → 18 ≤ length t → field_of k t ≡ None
unfolding field_of
long_field Lines t h = long_number 31 (bytes "lines=") t (omega arith)
long_field Espi t h = long_number 32 (bytes "espi=") t (omega arith)
long_field Eppi t h = long_number 2 (bytes "eppi=") t (omega arith)
long_field Mbis t h = long_number 1 (bytes "mbis=") t (omega arith)
long_field Op t h = long_word (bytes "op=read") (bytes "op=write") t (omega arith) (omega arith)
long_field Frame t h = long_word (bytes "frame=dist") (bytes "frame=redist") t (omega arith) (omega arith)
long_field Sec t h = long_word (bytes "sec=s") (bytes "sec=ns") t (omega arith) (omega arith)
long_field Width t h = long_number 4294967295 (bytes "width=") t (omega arith)
long_field Offset t h = long_number 4294967295 (bytes "offset=") t (omega arith)
long_field Value t h = long_number 4294967295 (bytes "value=") t (omega arith)
