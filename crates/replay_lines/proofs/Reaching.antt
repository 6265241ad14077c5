-- Each part of `line_read` puts a text or keeps a value. Shown here: the replay is then as `line_read` says after that line.
--   reached    what has come on a sheet has come in the buffer that the sheet is made of
--   advanced_none    nothing was put
--   advanced_bad, advanced_step, advanced_last, advanced_more    a bad line, a whole step, and a good line that is a step's last or not
--   line_is_over, line_is_full, line_is    a line, by its cases
use mathlib.Core.Path.{◌≡◌, refl, sym, ap, subst, ◌∙◌}
use mathlib.Core.Bool.{true, false}
use mathlib.Core.List.{List, [], ◌++◌, append-nil}
use Prim.Native.Nat.{ℕ, ◌+◌, ◌<◌, ◌≤◌, min}
use native.Mathlib.Omega.{arith}
use lib.ListN.{length, take, length-append, length-take}
use Rattle.std.specs.Prelude.{Option}
use Rattle.meaning.specs.Answers.{Answer}
use Rattle.meaning.specs.Layout.{Tables}
use Rattle.meaning.specs.Rule.{access}
use Rattle.meaning.specs.Step.{Outcome, stepped}
use Rattle.text.specs.declared.write.Sheet.{Sheet}
use Rattle.text.specs.Sheet.{Put, Writes}
use Rattle.text.proofs.Puts.{writes_none}
use Rattle.replay_keys.specs.Keys.{rank, field_of}
use Rattle.replay_meaning.specs.declared.Progress.{Progress}
use Rattle.replay_meaning.specs.Run.{Run, shape_of, request_of, bad_text, bad_line, step_text, counted, answered, completed}
use Rattle.replay_meaning.specs.Run.{keeping, kept, good_line, line_judged, line_read, most_steps}
use Rattle.replay_meaning.proofs.Cases.{line_over, line_full, line_judged_lem, good_last, good_more}
use Rattle.replay_lines.specs.Reached.{run_on, Reached, Advanced, BadWritten}

put_fits : {b : List ℕ} {e : ℕ} {t : List ℕ} {b' : List ℕ} {e' : ℕ} → e ≤ length b → Put b e t b' e' → e' ≤ length b'
put_fits {b} {e} {t} {b'} {e'} h p =
    let both : min e' (length b') ≡ min e (length b) + length t = simp (length-take, length-append) at (ap length p.is) in
    omega (arith, p.end)

pub reached : (r : Run) (p : Progress) (t : Tables) {s s' : Sheet} {b' : List ℕ} → Advanced r p t s s' → s.end ≤ length s.bytes.now
    → s'.bytes.now ≡ b' → Reached r (record { at = p; len = 0; end = s'.end }) t s.bytes.now s.end b'
reached r p t {s} {s'} a h same =
    let put = a.put.put in
    subst (λ (x : List ℕ). Reached r (record { at = p; len = 0; end = s'.end }) t s.bytes.now s.end x) same
    (record {
      run = ap (λ (x : List ℕ). record { at = p; tables = t; said = x }) put.is ∙ a.run;
      none = refl;
      kept = put.kept;
      more = omega (arith, put.end);
      fits = put_fits h put;
    })

pub advanced_none : (p : Progress) (t : Tables) (s : Sheet) → Advanced (run_on p t s) p t s s
advanced_none p t s =
    record {
      text = [];
      put = writes_none s;
      run = ap (λ (x : List ℕ). record { at = p; tables = t; said = x }) (append-nil (take s.end s.bytes.now));
    }

module _ (p : Progress) (t : Tables) {q : Progress} {s s' : Sheet} where
  pub advanced_bad : BadWritten p q s s' → Advanced (bad_line (run_on p t s)) q t s s'
  unfolding bad_line
  advanced_bad w =
      record {
        text = bad_text p;
        put = w.put;
        run = ap (λ (x : Progress). record { at = x; tables = t; said = take s.end s.bytes.now ++ bad_text p }) w.over;
      }

  pub advanced_step : {t' : Tables} {a : Answer} → q ≡ counted p
      → record { answered = a; tables = t' } ≡ stepped (shape_of p.values) (access (request_of p.values)) t
      → Writes s (step_text q.steps a) s' → Advanced (completed (run_on p t s)) q t' s s'
  unfolding completed answered counted
  advanced_step {t'} {a} k outcome put =
      record {
        text = step_text q.steps a;
        put = put;
        run =
            ap (λ (x : Progress). record { at = x; tables = t'; said = take s.end s.bytes.now ++ step_text x.steps a }) k
            ∙ ap (λ (o : Outcome). answered (run_on p t s) o) outcome;
      }

  pub advanced_last : (v : ℕ) {x : Progress} {t' : Tables} → x ≡ keeping p v → rank p.key ≡ 9
      → Advanced (completed (run_on x t s)) q t' s s' → Advanced (good_line (run_on p t s) v) q t' s s'
  unfolding kept
  advanced_last v {t' = t'} k last =
      subst (λ (z : Run). Advanced z q t' s s')
      (ap (λ (y : Progress). completed (run_on y t s)) k ∙ sym (good_last (run_on p t s) v last))

pub advanced_more : (p : Progress) (t : Tables) (s : Sheet) (v : ℕ) (q : Progress) → q ≡ keeping p v → (rank p.key ≡ 9 → ⊥)
    → Advanced (good_line (run_on p t s) v) q t s s
unfolding kept
advanced_more p t s v q k more =
    subst (λ (z : Run). Advanced z q t s s)
    (ap (λ (y : Progress). run_on y t s) k ∙ sym (good_more (run_on p t s) v more)) (advanced_none q t s)

-- a line, by its cases
module _ (p : Progress) (t : Tables) (l : List ℕ) {q : Progress} {t' : Tables} {s s' : Sheet} where
  pub line_is_over : p.over ≡ true → Advanced (run_on p t s) q t' s s' → Advanced (line_read (run_on p t s) l) q t' s s'
  line_is_over h a = rw (line_over (run_on p t s) l h) a

  pub line_is_full : p.over ≡ false → most_steps ≤ p.steps → Advanced (bad_line (run_on p t s)) q t' s s'
      → Advanced (line_read (run_on p t s) l) q t' s s'
  line_is_full h k a = rw (line_full (run_on p t s) l h k) a

  pub line_is : (n : Option ℕ) → p.over ≡ false → p.steps < most_steps → n ≡ field_of p.key l
      → Advanced (line_judged (run_on p t s) n) q t' s s' → Advanced (line_read (run_on p t s) l) q t' s s'
  line_is n h k f a = rw (line_judged_lem (run_on p t s) l h k, ← f) a

-- what `good` and `advance` need of these
pub ruleset keeping_on = (advanced_last, advanced_more)

pub ruleset advancing = (advanced_none, advanced_bad, line_is_over, line_is_full, line_is)
