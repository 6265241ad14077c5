-- `jump` leaves `stored`: each turn visits the record of the lowest 1 that remains. One way out, where no 1 remains below the part's end:
-- because none remains at all, or because the next lies past the end.
use Rattle.std.proofs.Common.{◌≡◌, ℕ, ◌<◌, true, length, get_or, refl, ap, ◌∙◌, arith}
use lib.Count.{count_trailing_zeros}
use Rattle.lists.specs.Word.{bit_at}
use Rattle.lists.proofs.Ones.{below_count, at_count, without_less}
use Rattle.lists.proofs.Jumps.{jumped_none, jumped_more, jumped_all}
use Rattle.table_words.specs.Part.{stored_at, stored}
use Rattle.table_words.proofs.Digits.{part_small}
use Rattle.table_words.proofs.Ones.{quiet_at, one_at}
use Rattle.table_words.proofs.jump.Goals as goal

-- the lowest 1 of what remains, where it is inside the word
one : (rest x : ℕ) → x ≡ count_trailing_zeros 32 rest → x < 32 → bit_at rest x ≡ true
one rest x e h = ap (λ (k : ℕ). bit_at rest k) e ∙ at_count 32 rest (omega arith)

pub loop-x-init : goal.loop-x-init
loop-x-init c =
    let a = c.args in
    record {
      next = refl;
      jumped = λ s at n.
          jumped_none (stored_at s at a.word a.value) a.part.now a.value
          (λ k h z. quiet_at s at a.word a.on a.switch c.requires.family_value a.value k _ z);
    }

pub loop-x-smaller : goal.loop-x-smaller
loop-x-smaller c =
    let h = part_small c.args.word c.args.part.now c.requires.fits_word in
    let l = c.loop-x in
    without_less l.rest l.x (omega arith) (one l.rest l.x l.invariant.next (omega arith))

pub loop-x-preserved : goal.loop-x-preserved
loop-x-preserved c =
    let a = c.args in
    let l = c.loop-x in
    let h = part_small a.word a.part.now c.requires.fits_word in
    let below : l.x < length a.part.now = omega arith in
    let first : bit_at l.rest l.x ≡ true = one l.rest l.x l.invariant.next (omega arith) in
    record {
      next = refl;
      jumped = λ s at n.
          let j = l.invariant.jumped s at n in
          jumped_more _ _ _ _ _ _ _ j h (omega arith) first
          (one_at s at a.word a.on a.switch c.requires.family_value a.value l.x (get_or l.part l.x 0) c.written.result
          (j.ones l.x below first) (c.written.ensures s at (n l.x below)));
    }

pub returns : goal.returns
unfolding stored
returns c s at n =
    let l = c.loop-x in
    let h = part_small c.args.word c.args.part.now c.requires.fits_word in
    let next = l.invariant.next in
    jumped_all _ _ _ _ _ (l.invariant.jumped s at n) (λ k u. below_count 32 l.rest k (omega arith))
