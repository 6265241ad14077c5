-- `read_word` gathers the part of its bank that the window's span has.
use mathlib.Core.Path.{refl, ◌∙◌}
use mathlib.Core.List.{List, []}
use Prim.Native.Nat.{ℕ}
use Rattle.meaning.specs.Layout.{lent, records_of}
use Rattle.engine.specs.Bank.{read_in}
use Rattle.engine.proofs.Uses.{fewer}
use Rattle.engine.proofs.word.read_word.Goals as goal

pub returns : goal.returns
unfolding read_in
returns c at n =
    let a = c.args in
    let b = c.span_of-span.ensures.bounds c.requires.fits.block in
    let xs : List ℕ = records_of a.bank.frame (lent a.dist.now a.redist.now [] []) in
    let gathered = rw (c.word_of.ensures, c.part.ensures) at (c.gather.ensures a.bank.shape at) in
    gathered (fewer a.window c.span_of-span.result xs at b.short n) ∙ rw c.span_of-span.ensures.span refl
