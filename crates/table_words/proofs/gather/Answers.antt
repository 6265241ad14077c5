-- `gather` is `gathered`: one more digit is one more of the row.
use Rattle.std.proofs.Common.{◌≡◌, length, get_or, refl, arith}
use Rattle.lists.specs.Word.{row}
use Rattle.lists.proofs.Rows.{row_or}
use Rattle.meaning.specs.Registers.{bits_of}
use Rattle.table_words.specs.Part.{shown_at, gathered}
use Rattle.table_words.proofs.Digits.{inside, shown_small}
use Rattle.table_words.proofs.gather.Goals as goal

pub loop-x-init : goal.loop-x-init
unfolding row
loop-x-init c s at n = refl

pub loop-x-preserved : goal.loop-x-preserved
loop-x-preserved c s at n =
    let w = c.args.word in
    let x = c.loop-x.x in
    rw (c.loop-x.invariant s at n, c.shown-value.ensures s at (n x c.loop-x-test.true))
    (row_or (bits_of w.family) x (λ k. shown_at s at w k (get_or c.args.part.now k 0))
    (λ k u. shown_small s at w k (get_or c.args.part.now k 0)) (inside w c.args.part.now c.requires x c.loop-x-test.true).digit)

pub returns : goal.returns
unfolding gathered
returns c s at n = let e : c.loop-x.x ≡ length c.args.part.now = omega arith in rw e at (c.loop-x.invariant s at n)
