-- Every value that the machine answers fits 32 bits, so that a number of 64 bits holds a status and a value.
--   value_fits    whatever the step and the tables
use Rattle.std.specs.Prelude.{Ok, Err}
use mathlib.Core.Path.{◌≡◌, refl, subst}
use mathlib.Core.Bool.{Bool, true, false, cond, not, ◌&&◌}
use Prim.Native.Nat.{ℕ, ◌+◌, ◌^◌, ◌≤◌, ◌<◌}
use native.Mathlib.Nat.{mul_comm}
use native.Mathlib.Omega.{arith}
use lib.Dec.{ltb}
use lib.Pow.{pow_mono}
use Rattle.lists.proofs.Rows.{row_lt}
use Rattle.types.specs.declared.Shape.{Shape}
use Rattle.types.specs.declared.Side.{Side}
use Rattle.types.specs.declared.Way.{Way}
use Rattle.types.specs.declared.Way.TheVariants.{Read, Write}
use Rattle.types.specs.declared.Access.{Access}
use Rattle.types.specs.declared.Event.{Event}
use Rattle.types.specs.declared.Event.TheVariants as event
use Rattle.types.specs.declared.Window.{Window}
use Rattle.types.specs.declared.Target.{Target}
use Rattle.types.specs.declared.Target.TheVariants as target
use Rattle.types.specs.declared.Refusal.TheVariants as refusal
use Rattle.meaning.specs.Interrupt.{Interrupt, interrupt, named, sgi}
use Rattle.meaning.specs.Cell.{Cell, pending}
use Rattle.meaning.specs.Answers.{Answer, Decoded, value_of}
use Rattle.meaning.specs.Layout.{Tables, well_formed, cell_of}
use Rattle.meaning.specs.Registers.{kind_of, bits_of, place_of, target_of}
use Rattle.meaning.specs.Rule.{Step, access, happens, reset, visible, sees_by, ready, event_answer}
use Rattle.meaning.specs.Step.{Cells, typer, word_read, read, access_answer, answer, tables_after, Outcome, stepped}
use Rattle.meaning.proofs.Bytes.{digit_small}
use Rattle.meaning.proofs.After.{well_shape}
use Rattle.meaning.proofs.Listed.{visible_small}
use Rattle.register_families.specs.Fits.{Fits}
use Rattle.table_spans.proofs.Ranges.{limits}
use Rattle.engine.specs.Target.{FitsAt}
use Rattle.controller.proofs.Places.{target_fits}

-- a word of a window that fits
word_lt : (s : Shape) (side : Side) (w : Window) (cells : Cells) → Fits w → word_read s side w cells < 2 ^ 32
unfolding word_read
word_lt s side w cells room =
    let m : ℕ → Interrupt = λ x. interrupt w.frame (w.first + x) in
    let low =
    row_lt (bits_of w.family) w.count (λ x. visible s side (kind_of w.family) (m x) (cells (m x)))
    (λ x l. visible_small s side w.family (m x) (cells (m x)))
    in
    let high = pow_mono (subst (λ (n : ℕ). n ≤ 32) (mul_comm w.count (bits_of w.family)) room.digits) in omega (arith, low, high)

module _ (s : Shape) (t : Tables) (well : well_formed s t ≡ true) where
  typer_lt : typer s < 2 ^ 32
  unfolding typer
  typer_lt =
      let l = limits s (well_shape s t well) in
      let lines = l.lines_at_most in
      let espi = l.espi_at_most in
      let e = digit_small (ltb 0 s.espi) in
      let m = digit_small s.mbis in omega arith

  read_lt : (side : Side) (x : Target) (cells : Cells) → FitsAt x → read s side x cells < 2 ^ 32
  unfolding read
  read_lt side (target.Digits w) cells room = word_lt s side w cells room
  read_lt side target.Typer cells room = typer_lt
  read_lt side (target.Message g) cells room = omega arith

  access_lt : (a : Access) (d : Decoded) → place_of a ≡ d → (cells : Cells) → value_of (access_answer s a d cells) < 2 ^ 32
  access_lt a (Err r) e cells = omega arith
  access_lt a (Ok p) e cells = by a.way
    where
      by : (w : Way) → value_of (elim w as (λ z. Answer) [ Read ↦ Ok (read s a.side (target_of p) cells) | Write ↦ Ok 0 ]) < 2 ^ 32
      by Read = read_lt a.side (target_of p) cells (target_fits s t well a p e)
      by Write = omega arith

  -- an event is done with 0 or refused
  choice_lt : (b : Bool) (x y : Answer) → value_of x < 2 ^ 32 → value_of y < 2 ^ 32 → value_of (cond b x y) < 2 ^ 32
  choice_lt true x y h k = h
  choice_lt false x y h k = k

  ready_lt : (e : Event) (i : Interrupt) (c : Cell) → value_of (ready s e i c) < 2 ^ 32
  ready_lt (event.Wire level) i c = choice_lt (sgi i) (Err refusal.SgiWire) (Ok 0) (omega arith) (omega arith)
  ready_lt (event.Activate side) i c =
      choice_lt (c.enabled && (pending s i c && not c.active)) (Ok 0) (Err refusal.State) (omega arith) (omega arith)
  ready_lt (event.Deactivate side) i c = choice_lt c.active (Ok 0) (Err refusal.State) (omega arith) (omega arith)

  answer_lt : (q : Step) (cells : Cells) → value_of (answer s q cells) < 2 ^ 32
  unfolding answer event_answer
  answer_lt (access a) cells = access_lt a (place_of a) refl cells
  answer_lt (happens e m) cells =
      choice_lt ((cells (named m)).implemented && sees_by e (cells (named m))) (ready s e (named m) (cells (named m)))
      (Err refusal.Intid) (ready_lt e (named m) (cells (named m))) (omega arith)
  answer_lt reset cells = omega arith

pub value_fits : (s : Shape) (q : Step) (t : Tables) → value_of (stepped s q t).answered < 2 ^ 32
unfolding stepped
value_fits s q t = by (well_formed s t) refl
  where
    by : (b : Bool) → well_formed s t ≡ b
        → value_of
        (cond {A = Outcome} b (record { answered = answer s q (cell_of s t); tables = tables_after s q t })
        (record { answered = Err refusal.Shape; tables = t })).answered
        < 2 ^ 32
    by true h = answer_lt s t h q (cell_of s t)
    by false h = omega arith
