-- What the rules see of a record: its interrupt's cell, and all that they ask of the interrupt's name, whether it is an SGI.
--   OfEach    a fact of each interrupt that the record may be of, and of its cell
--   Becomes   the record after a change of its cell, which may ask for the interrupt
use Rattle.std.specs.Prelude.{◌≡◌, Bool}
use Rattle.meaning.specs.Interrupt.{Interrupt, sgi}
use Rattle.meaning.specs.Cell.{Cell}

pub record Known : Type 0 where
  pub cell : Cell
  pub soft : Bool

abbrev pub OfEach : Known → (Interrupt → Cell → Type 0) → Type 0
OfEach r P = (i : Interrupt) → sgi i ≡ r.soft → P i r.cell

abbrev pub Becomes : Known → Known → (Interrupt → Cell → Cell) → Type 0
Becomes old new f = OfEach old (λ i c. new ≡ record old { cell = f i c })
