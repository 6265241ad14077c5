-- DEMAND 2, of the answer to a read: each digit of the word is what the rule shows of its interrupt; and bits of missing interrupts read
-- zero, in every family and for either side.
--   digit_shown          digit x of a window's word is what is visible of its x-th interrupt
--   word_answered_by     a read at a register word that is done answers that word
--   digit_read           so digit x of its answer is what is visible of the x-th interrupt
--   missing_reads_zero   which is 0 where that is not implemented
use Rattle.std.specs.Prelude.{Ok}
use mathlib.Core.Path.{◌≡◌, refl, sym, ap, ◌∙◌}
use mathlib.Core.Bool.{Bool, true, false}
use Prim.Native.Nat.{ℕ, ◌+◌, ◌<◌}
use native.Mathlib.Omega.{arith}
use Rattle.lists.specs.Word.{digit_at}
use Rattle.lists.proofs.Rows.{row_digit}
use Rattle.types.specs.declared.Side.{Side}
use Rattle.types.specs.declared.Shape.{Shape}
use Rattle.types.specs.declared.Way.{Way}
use Rattle.types.specs.declared.Way.TheVariants.{Read, Write}
use Rattle.types.specs.declared.Access.{Access}
use Rattle.types.specs.declared.Place.{Place}
use Rattle.types.specs.declared.Window.{Window}
use Rattle.types.specs.declared.Target.{Target}
use Rattle.types.specs.declared.Target.TheVariants as target
use Rattle.meaning.specs.Answers.{Answer, Decoded}
use Rattle.meaning.specs.Interrupt.{Interrupt, interrupt}
use Rattle.meaning.specs.Layout.{Tables, well_formed, implemented, cell_of}
use Rattle.meaning.specs.Registers.{kind_of, bits_of, place_of, target_of}
use Rattle.meaning.specs.Rule.{access, visible}
use Rattle.meaning.specs.Step.{Cells, word_read, read, access_answer, answer, Outcome, stepped}
use Rattle.meaning.proofs.Choices.{cond_false}
use Rattle.meaning.proofs.Gates.{missing_unseen}
use Rattle.meaning.proofs.Listed.{visible_small}
use Rattle.meaning.proofs.After.{cell_present, answer_well}

pub digit_shown : (s : Shape) (side : Side) (w : Window) (x : ℕ) → x < w.count → (cells : Cells)
    → digit_at (bits_of w.family) x (word_read s side w cells)
    ≡ visible s side (kind_of w.family) (interrupt w.frame (w.first + x)) (cells (interrupt w.frame (w.first + x)))
unfolding word_read
digit_shown s side w x inside cells = row_digit (bits_of w.family) w.count _ (λ k l. visible_small s side w.family _ _) x inside

-- a read at the place of a register word, and its answer, on any tables
module _ (s : Shape) (a : Access) (p : Place) (w : Window) (reads : a.way ≡ Read) (at : place_of a ≡ Ok p)
    (is : target_of p ≡ target.Digits w) (t : Tables) (v : ℕ) (done : (stepped s (access a) t).answered ≡ Ok v) where
  by_place : answer s (access a) (cell_of s t) ≡ Ok (word_read s a.side w (cell_of s t))
  unfolding answer read
  by_place =
      ap (λ (d : Decoded). access_answer s a d (cell_of s t)) at
      ∙ (ap (λ (x : Way). elim x as (λ z. Answer) [ Read ↦ Ok (read s a.side (target_of p) (cell_of s t)) | Write ↦ Ok 0 ]) reads
      ∙ ap (λ (g : Target). Ok (read s a.side g (cell_of s t))) is)

  word_answered_by : v ≡ word_read s a.side w (cell_of s t)
  unfolding stepped
  word_answered_by = by (well_formed s t) refl
    where
      by : (b : Bool) → well_formed s t ≡ b → v ≡ word_read s a.side w (cell_of s t)
      by true e = let z = sym done ∙ (answer_well s (access a) t e ∙ by_place) in cc
      by false e =
          let ill = ap (λ (o : Outcome). o.answered) (cond_false (well_formed s t) _ _ e) in
          absurd (let z : ◌≡◌ {A = ℕ} 0 1 = cc (sym ill ∙ done) in omega arith)

  module _ (x : ℕ) (inside : x < w.count) where
    abbrev ith : Interrupt
    ith = interrupt w.frame (w.first + x)

    pub digit_read : digit_at (bits_of w.family) x v
        ≡ visible s a.side (kind_of w.family) (interrupt w.frame (w.first + x)) (cell_of s t (interrupt w.frame (w.first + x)))
    digit_read = ap (digit_at (bits_of w.family) x) word_answered_by ∙ digit_shown s a.side w x inside (cell_of s t)

    pub missing_reads_zero : implemented s t (interrupt w.frame (w.first + x)) ≡ false → digit_at (bits_of w.family) x v ≡ 0
    missing_reads_zero h =
        digit_read ∙ missing_unseen s ith (cell_of s t ith) a.side (kind_of w.family) (cell_present s t ith ∙ h)
