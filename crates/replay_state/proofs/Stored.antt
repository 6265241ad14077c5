-- What a buffer holds after a byte more, and after one piece's bytes.
use mathlib.Core.Path.{◌≡◌, refl, sym, ap, ◌∙◌}
use mathlib.Core.Bool.{Bool, true, false, cond}
use mathlib.Core.List.{List, [], ◌∷◌, ◌++◌}
use Prim.Native.Nat.{ℕ, ◌+◌, ◌<◌, ◌≤◌}
use native.Mathlib.Numerals.{add-one}
use native.Mathlib.Omega.{arith}
use lib.Dec.{leb}
use lib.ListN.{length, take, set, get_or, length-take}
use lib.Seq.{take-suc, take-suc-set}
use borrow.Author.Tests.{lt-ltb, le-ltb, ne_eqb, leb-true, leb-false}
use Rattle.meaning.proofs.Choices.{cond_false}
use Rattle.replay_meaning.specs.Stream.{pushed}
use Rattle.replay_state.specs.Held.{Held, held_in, stored, byte_held, bytes_held}

-- the line that it holds is the replay's unfinished line
pub line_held : (h : Held) (b : ℕ) → take (stored h b).len (stored h b).line ≡ pushed (length h.line) (take h.len h.line) b
unfolding stored pushed
line_held h b = by (leb (length h.line) h.len) refl
  where
    more : Held
    more = held_in (set h.line h.len b) (h.len + 1)

    by : (x : Bool) → leb (length h.line) h.len ≡ x
        → take (cond x h more).len (cond x h more).line ≡ pushed (length h.line) (take h.len h.line) b
    by true e =
        let full : length h.line ≤ h.len = leb-true _ _ e in
        rw (le-ltb (length (take h.len h.line)) (length h.line) (simp length-take (omega arith)))
    by false e =
        let room : h.len < length h.line = leb-false _ _ e in
        rw (lt-ltb (length (take h.len h.line)) (length h.line) (simp length-take (omega arith)), add-one)
        (take-suc-set h.line h.len b room)

-- a byte that ends a line, and any other
pub held_end : (h : Held) → held_in h.line 0 ≡ byte_held h 10
unfolding byte_held
held_end h = refl

pub held_byte : (h k : Held) (b : ℕ) → (b ≡ 10 → ⊥) → k ≡ stored h b → k ≡ byte_held h b
unfolding byte_held
held_byte h k b e s = s ∙ sym (cond_false _ _ _ (ne_eqb b 10 e))

one_more : (h : Held) (bs : List ℕ) (b : ℕ) → bytes_held h (bs ++ (b ∷ [])) ≡ byte_held (bytes_held h bs) b
unfolding bytes_held
one_more h [] b = refl
one_more h (c ∷ bs) b = one_more (byte_held h c) bs b

-- none of a piece's bytes yet, and its next byte
pub held_none : (h : Held) → h ≡ bytes_held h []
unfolding bytes_held
held_none h = refl

pub held_next : (h : Held) {k k' : Held} (piece : List ℕ) (used : ℕ) → k ≡ bytes_held h (take used piece)
    → k' ≡ byte_held k (get_or piece used 0) → used < length piece → k' ≡ bytes_held h (take (used + 1) piece)
held_next h piece used before byte l =
    byte
    ∙ (ap (λ (x : Held). byte_held x (get_or piece used 0)) before
    ∙ sym (ap (bytes_held h) (rw add-one (take-suc piece used 0 l)) ∙ one_more h (take used piece) (get_or piece used 0)))
