-- DEMAND 3 of the rule: what the Non-secure side has after its step, and what it is answered, depends on what it had.
--   confidential   the controller, interrupt by interrupt, obeys the laws of unwinding
use Rattle.std.specs.Prelude.{Ok, Err}
use mathlib.Core.Path.{◌≡◌, refl, sym, ap, ◌∙◌}
use Rattle.lists.proofs.Rows.{row_same}
use Rattle.types.specs.declared.Shape.{Shape}
use Rattle.types.specs.declared.Side.TheVariants.{NonSecure}
use Rattle.types.specs.declared.Way.{Way}
use Rattle.types.specs.declared.Way.TheVariants.{Read, Write}
use Rattle.types.specs.declared.Kind.{Kind}
use Rattle.types.specs.declared.Access.{Access}
use Rattle.types.specs.declared.Event.{Event}
use Rattle.types.specs.declared.Event.TheVariants.{Wire, Activate, Deactivate}
use Rattle.types.specs.declared.Target.{Target}
use Rattle.types.specs.declared.Target.TheVariants as target
use Rattle.meaning.specs.Answers.{Answer, Decoded}
use Rattle.meaning.specs.Interrupt.{Interrupt, interrupt, named}
use Rattle.meaning.specs.Cell.{Cell}
use Rattle.meaning.specs.Registers.{kind_of, bits_of, place_of, target_of}
use Rattle.meaning.specs.Rule.{Step, visible, event_answer, act}
use Rattle.meaning.specs.Step.{Cells, word_read, read, access_answer, answer}
use Rattle.meaning.proofs.Sides.{side_by}
use Rattle.meaning.proofs.Gates.{secure_unseen, secure_refused}
use Rattle.separation.specs.Steps.{NonSecureStep, its_access, its_activation, its_deactivation, its_wire}
use Rattle.separation.specs.Steps.{Glimpse, glimpse, PrivateStep, CommonStep}
use Rattle.separation.proofs.Unwinding.{Local, AlikeBy, LocalLaws}
use Rattle.separation.proofs.Views.{by_glimpse, both_hidden, same_owned, same_cell}
use Rattle.separation.proofs.Steps.{unowned_left, common_kept}

abbrev pub watched : Shape → Local Interrupt Cell Glimpse Step Answer
watched s = record { act = act s; see = answer s; view = λ i c. glimpse c }

-- WHAT IS DONE: alike interrupts stay alike
act_same : (s : Shape) (a : Cells) (q : Step) → NonSecureStep a q → (i : Interrupt) (c : Cell) → glimpse (a i) ≡ glimpse c
    → glimpse (act s q i (a i)) ≡ glimpse (act s q i c)
act_same s a q n i c h =
    by_glimpse (a i) c (λ x y. glimpse (act s q i x) ≡ glimpse (act s q i y)) h refl
    (λ e f. ap glimpse (unowned_left s a q n i e (a i) e) ∙ (h ∙ sym (ap glimpse (unowned_left s a q n i e c f))))

-- a common step: the same cell's, or hidden after it as before
common_same : (s : Shape) (q : Step) → CommonStep q → (i : Interrupt) (c d : Cell) → glimpse c ≡ glimpse d
    → glimpse (act s q i c) ≡ glimpse (act s q i d)
common_same s q n i c d h =
    by_glimpse c d (λ x y. glimpse (act s q i x) ≡ glimpse (act s q i y)) h refl
    (λ e f. both_hidden (act s q i c) (act s q i d) (common_kept s q n i c ∙ e) (common_kept s q n i d ∙ f))

-- WHAT IS ANSWERED
module _ (s : Shape) (a b : Cells) (alike : AlikeBy (watched s) a b) where
  -- a digit: the same cell's, or 0 in both
  visible_same : (k : Kind) (i : Interrupt) → visible s NonSecure k i (a i) ≡ visible s NonSecure k i (b i)
  visible_same k i =
      by_glimpse (a i) (b i) (λ x y. visible s NonSecure k i x ≡ visible s NonSecure k i y) (alike i) refl
      (λ e f. secure_unseen s i (a i) k e ∙ sym (secure_unseen s i (b i) k f))

  read_same : (g : Target) → read s NonSecure g a ≡ read s NonSecure g b
  unfolding read word_read
  read_same (target.Digits w) =
      row_same (bits_of w.family) w.count _ _ (λ x l. visible_same (kind_of w.family) (interrupt w.frame _))
  read_same target.Typer = refl
  read_same (target.Message g) = refl

  access_same : (x : Access) → x.side ≡ NonSecure → (d : Decoded) → access_answer s x d a ≡ access_answer s x d b
  access_same x n (Err r) = refl
  access_same x n (Ok p) = by x.way
    where
      answered : Way → Cells → Answer
      answered w cells = elim w [ Read ↦ Ok (read s x.side (target_of p) cells) | Write ↦ Ok 0 ]

      by : (w : Way) → answered w a ≡ answered w b
      by Read = rw n (ap Ok (read_same (target_of p)))
      by Write = refl

  -- an event of the Non-secure side: the same cell's, or refused 7 in both
  event_same : (e : Event) (i : Interrupt) → side_by e ≡ NonSecure → event_answer s e i (a i) ≡ event_answer s e i (b i)
  event_same e i n =
      by_glimpse (a i) (b i) (λ x y. event_answer s e i x ≡ event_answer s e i y) (alike i) refl
      (λ h k. secure_refused s i (a i) e n h ∙ sym (secure_refused s i (b i) e n k))

  answer_same : (q : Step) → NonSecureStep a q → answer s q a ≡ answer s q b
  unfolding answer
  answer_same q (its_access x n) = access_same x n (place_of x)
  answer_same q (its_activation m) = event_same (Activate NonSecure) (named m) refl
  answer_same q (its_deactivation m) = event_same (Deactivate NonSecure) (named m) refl
  answer_same q (its_wire m level o) = ap (event_answer s (Wire level) (named m)) (same_cell _ _ (alike (named m)) o)

  step_same : (q : Step) → NonSecureStep a q → NonSecureStep b q
  step_same q (its_access x n) = its_access x n
  step_same q (its_activation m) = its_activation m
  step_same q (its_deactivation m) = its_deactivation m
  step_same q (its_wire m level o) = its_wire m level (sym (same_owned _ _ (alike (named m))) ∙ o)

pub confidential : (s : Shape) → LocalLaws (watched s) NonSecureStep CommonStep (PrivateStep s)
confidential s =
    record {
      public_view = λ q a b h n. step_same s a b h q n;
      see_view = λ q a b h n. answer_same s a b h q n;
      act_view = λ q a n i c h. act_same s a q n i c h;
      common_view = λ q n i c d h. common_same s q n i c d h;
      private_view = λ q a p i. p i;
    }
