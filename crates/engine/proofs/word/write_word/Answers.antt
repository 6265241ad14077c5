-- `write_word` lends the part of its bank that the window's span has to the loop, and has the rest back as it was.
use mathlib.Core.Path.{refl}
use Rattle.engine.specs.Bank.{written_in}
use Rattle.engine.proofs.Uses.{fewer}
use Rattle.engine.proofs.word.write_word.Goals as goal

pub returns : goal.returns
unfolding written_in
returns c at n =
    let a = c.args in
    let b = c.span_of-span.ensures.bounds c.requires.fits.block in
    let stored = rw c.word_of.ensures at (c.store.ensures a.bank.shape at) in
    rw (stored (fewer a.window c.span_of-span.result a.records.now at b.short n), c.span_of-span.ensures.span) refl
