-- Reading in pieces of any size, and stopping wherever the output has no more room, gives the same output.
use mathlib.Core.Path.{◌≡◌, refl, sym, ap, ◌∙◌}
use mathlib.Core.List.{List, [], ◌∷◌, ◌++◌}
use Prim.Native.Nat.{ℕ, suc, ◌+◌, ◌<◌, ◌≤◌}
use native.Mathlib.Nat.{le_refl, not-suc-le-zero}
use native.Mathlib.Omega.{arith}
use lib.ListN.{length}
use borrow.Author.Tests.{le-leb}
use Rattle.meaning.proofs.Choices.{cond_both, chosen}
use Rattle.replay_meaning.specs.Stream.{Live, byte_read, fed, closed, handed_on, Fed, has_room, within, in_pieces, joined}
use Rattle.replay_meaning.proofs.Prefixes.{closed_handed_on}

-- two pieces read one after the other are the joined piece read
pub fed_append : (l : Live) (a b : List ℕ) → fed l (a ++ b) ≡ fed (fed l a) b
unfolding fed
fed_append l [] b = refl
fed_append l (x ∷ a) b = fed_append (byte_read l x) a b

-- pieces read one after the other, each one's output handed on before the next is read, give the output of the joined pieces
pub pieces : (l : Live) (ps : List (List ℕ)) → in_pieces l ps ≡ closed (fed l (joined ps))
unfolding in_pieces joined fed
pieces l [] = refl
pieces l (p ∷ ps) =
    ap (λ (t : List ℕ). (fed l p).run.said ++ t) (pieces (handed_on (fed l p)) ps)
    ∙ (sym (closed_handed_on (fed l p) (joined ps)) ∙ ap closed (sym (fed_append l p (joined ps))))

-- a piece taken as far as the output has room, and what remains of it taken later, is the piece taken at once
pub within_fed : (size : ℕ) (l : Live) (bs : List ℕ) → fed (within size l bs).live (within size l bs).left ≡ fed l bs
unfolding within fed
within_fed size l [] = refl
within_fed size l (b ∷ bs) =
    cond_both (λ (f : Fed). fed f.live f.left) (has_room size l) (within size (byte_read l b) bs)
    (record { live = l; left = b ∷ bs }) (within_fed size (byte_read l b) bs) refl

-- what remains is no longer than the piece
within_left : (size : ℕ) (l : Live) (bs : List ℕ) → length (within size l bs).left ≤ length bs
unfolding within
within_left size l [] = le_refl 0
within_left size l (b ∷ bs) =
    let h = within_left size (byte_read l b) bs in
    chosen (λ (f : Fed). length f.left ≤ suc (length bs)) (has_room size l) (within size (byte_read l b) bs)
    (record { live = l; left = b ∷ bs }) (λ e. omega arith) (λ e. omega arith)

-- where the output has room at the start, at least one byte of a piece that is not empty is taken
pub within_goes : (size : ℕ) (l : Live) (bs : List ℕ) → length l.run.said + 128 ≤ size → 0 < length bs
    → length (within size l bs).left < length bs
unfolding within
within_goes size l [] room some = absurd (not-suc-le-zero some)
within_goes size l (b ∷ bs) room some =
    let h = within_left size (byte_read l b) bs in
    rw (le-leb (length l.run.said + 128) size room) (omega arith)
