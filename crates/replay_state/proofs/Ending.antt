-- The end of a replay, from what `put_ending` writes at a buffer's start.
--   ended_said, ended_full    the last text was put, or the buffer is too small for it
--   said_text    where the answer is Some n, the buffer's first n bytes are the last text; said_fits, said_taken: they lie within it
use mathlib.Core.Path.{◌≡◌, sym, ap, ◌∙◌}
use mathlib.Core.Bool.{Bool, true, false, cond}
use mathlib.Core.List.{List, [], ◌++◌}
use Prim.Native.Nat.{ℕ, ◌<◌, ◌≤◌}
use native.Mathlib.Nat.{zero-add, le_refl}
use native.Mathlib.Omega.{arith}
use lib.Dec.{leb}
use lib.ListN.{length, take, drop, take-append-drop, length-append, length-take}
use lib.Seq.{take-append-le, take_all}
use borrow.Author.Tests.{le-leb, lt-leb}
use Rattle.text.specs.Sheet.{Put}
use Rattle.std.specs.Prelude.{Option, Some, None}
use Rattle.replay_state.specs.Ended.{over, ended_of, ended_text, EndWritten}

module _ {b : List ℕ} {t : List ℕ} {b' : List ℕ} {e : ℕ} where
  put_over : Put b 0 t b' e → b' ≡ over t b
  put_over p =
      sym (take-append-drop e b')
      ∙ (ap (λ (x : List ℕ). x ++ drop e b') p.is
      ∙ (ap (λ (x : List ℕ). t ++ x) p.kept ∙ ap (λ (n : ℕ). t ++ drop n b) (p.end ∙ zero-add (length t))))

  pub ended_said : 32 ≤ length b → Put b 0 t b' e → EndWritten t b (Some e) b'
  unfolding ended_of ended_text
  ended_said h p =
      record {
        answer = rw (le-leb 32 (length b) h) (ap Some (p.end ∙ zero-add (length t)));
        output = rw (le-leb 32 (length b) h) (put_over p);
      }

pub ended_full : (b t : List ℕ) → length b < 32 → EndWritten t b None b
unfolding ended_of ended_text
ended_full b t h = record { answer = rw (lt-leb 32 (length b) h); output = rw (lt-leb 32 (length b) h) }

-- what an answer Some n tells of the buffer
module _ {n : ℕ} {r : Option ℕ} {t b b' : List ℕ} (is : r ≡ Some n) (w : EndWritten t b r b') where
  said_long : (n ≡ length t) × (b' ≡ over t b)
  unfolding ended_of ended_text
  said_long = by (leb 32 (length b)) (sym is ∙ w.answer) w.output
    where
      by : (x : Bool) → Some n ≡ cond x (Some (length t)) None → b' ≡ over (cond x t []) b → (n ≡ length t) × (b' ≡ over t b)
      by true p q = (cc, q)
      by false p q = absurd (let z : ◌≡◌ {A = ℕ} 0 1 = cc in omega arith)

  pub said_fits : n ≤ length b'
  said_fits = omega (arith, said_long.0, simp length-append at (ap length said_long.1))

  pub said_taken : n ≡ length (take n b')
  said_taken = let fits = said_fits in simp length-take (omega arith)

  pub said_text : take n b' ≡ t
  said_text =
      ap (λ (m : ℕ). take m b') said_long.0
      ∙ (ap (take (length t)) said_long.1
      ∙ (take-append-le (length t) t (drop (length t) b) (le_refl (length t)) ∙ take_all (length t) t (le_refl (length t))))
