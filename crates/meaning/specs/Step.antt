-- What a step is answered, and the lent tables after it: the whole machine, from the rule of one interrupt.
use Rattle.std.specs.Prelude.{cond, List, ℕ, ◌+◌, ◌*◌, ◌-◌, ◌^◌, ltb, Ok, Err}
use Rattle.lists.specs.Map.{map_from}
use Rattle.lists.specs.Word.{digit, row}
use Rattle.types.specs.declared.Frame.{Frame}
use Rattle.types.specs.declared.Frame.TheVariants.{Dist, Redist}
use Rattle.types.specs.declared.Side.{Side}
use Rattle.types.specs.declared.Shape.{Shape}
use Rattle.types.specs.declared.Way.TheVariants.{Read, Write}
use Rattle.types.specs.declared.Access.{Access}
use Rattle.types.specs.declared.Window.{Window}
use Rattle.types.specs.declared.Target.{Target}
use Rattle.types.specs.declared.Target.TheVariants as target
use Rattle.types.specs.declared.Refusal.TheVariants as refusal
use Rattle.meaning.specs.Answers.{Answer, Decoded}
use Rattle.meaning.specs.Interrupt.{Interrupt, interrupt, named}
use Rattle.meaning.specs.Cell.{Cell, encode}
use Rattle.meaning.specs.Layout.{Tables, interrupt_at, cell_of, well_formed}
use Rattle.meaning.specs.Registers.{kind_of, bits_of, place_of, target_of}
use Rattle.meaning.specs.Rule.{Step, access, happens, reset, act, visible, event_answer}

-- every interrupt
abbrev pub Cells : Type 0
Cells = Interrupt → Cell

-- TYPER: ITLinesNumber, ESPI, SecurityExtn, MBIS, IDbits 12, bit 25 (No1N), ESPI_range
unfoldable pub typer : Shape → ℕ
typer s =
    s.lines + 2 ^ 8 * digit (ltb 0 s.espi) + 2 ^ 10 + 2 ^ 16 * digit s.mbis + 12 * 2 ^ 19 + 2 ^ 25
    + 2 ^ 27 * (s.espi - 1)

-- the digits that a window shows of its interrupts
unfoldable pub word_read : Shape → Side → Window → Cells → ℕ
word_read s side w cells =
    row (bits_of w.family) w.count
    (λ x. visible s side (kind_of w.family) (interrupt w.frame (w.first + x)) (cells (interrupt w.frame (w.first + x))))

-- what a read shows; message registers give 0 (HOUSE)
unfoldable pub read : Shape → Side → Target → Cells → ℕ
read s side (target.Digits w) cells = word_read s side w cells
read s side target.Typer cells = typer s
read s side (target.Message g) cells = 0

abbrev pub access_answer : Shape → Access → Decoded → Cells → Answer
access_answer s a (Err r) cells = Err r
access_answer s a (Ok p) cells = elim a.way [ Read ↦ Ok (read s a.side (target_of p) cells) | Write ↦ Ok 0 ]

-- THE ANSWER, where refusal 1 does not apply
unfoldable pub answer : Shape → Step → Cells → Answer
answer s (access a) cells = access_answer s a (place_of a) cells
answer s (happens e m) cells = event_answer s e (named m) (cells (named m))
answer s reset cells = Ok 0

-- a table of numbers after a step: at each slot, the number `of` its interrupt as the step leaves it
unfoldable pub column : (Interrupt → Cell) → (Cell → ℕ) → Frame → List ℕ → List ℕ
column after of r xs = map_from 0 (λ k old. of (after (interrupt_at r k))) xs

-- The presence words are never written.
unfoldable pub tables_where : (Interrupt → Cell) → Tables → Tables
tables_where after t =
    record {
      dist = column after encode Dist t.dist;
      redist = column after encode Redist t.redist;
      dist_presence = t.dist_presence;
      redist_presence = t.redist_presence;
    }

abbrev pub tables_after : Shape → Step → Tables → Tables
tables_after s q t = tables_where (λ i. act s q i (cell_of s t i)) t

pub record Outcome : Type 0 where
  pub answered : Answer
  pub tables : Tables

-- THE MACHINE: one step on the lent tables. Refusal 1 comes first, and leaves every lent byte as it was.
unfoldable pub stepped : Shape → Step → Tables → Outcome
stepped s q t =
    cond (well_formed s t) (record { answered = answer s q (cell_of s t); tables = tables_after s q t })
    (record { answered = Err refusal.Shape; tables = t })
