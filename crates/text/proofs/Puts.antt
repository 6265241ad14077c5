-- Laws of `Put`, the record of what writing a text into a lent buffer does: of no byte (put_none), and that two texts put one after
-- the other are the joined text put (put_both).
use mathlib.Core.Path.{refl, sym, ap, ◌∙◌}
use mathlib.Core.List.{List, [], ◌++◌, append_assoc, append-nil}
use Prim.Native.Nat.{ℕ}
use native.Mathlib.Nat.{add-zero}
use native.Mathlib.Omega.{arith}
use lib.ListN.{length, take, drop, length-append}
use lib.Seq.{drop-drop}
use Rattle.text.specs.declared.write.Sheet.{Sheet}
use Rattle.text.specs.Sheet.{Put, Writes}
use Rattle.text.proofs.Numbers.{length_digits, digits_one}

pub put_none : (b : List ℕ) (e : ℕ) → Put b e [] b e
put_none b e = record { is = sym (append-nil (take e b)); kept = refl; end = sym (add-zero e) }

pub put_both : {b : List ℕ} {e : ℕ} {t : List ℕ} {c : List ℕ} {f : ℕ} {u : List ℕ} {d : List ℕ} {g : ℕ}
    → Put b e t c f → Put c f u d g → Put b e (t ++ u) d g
put_both {b} {e} {t} {c} {f} {u} {d} {g} p q =
    record {
      is = q.is ∙ (ap (λ (l : List ℕ). l ++ u) p.is ∙ append_assoc (take e b) t u);
      kept =
          q.kept
          ∙ (ap (λ (n : ℕ). drop n c) q.end
          ∙ (sym (drop-drop (length u) f c)
          ∙ (ap (λ (l : List ℕ). drop (length u) l) p.kept
          ∙ (drop-drop (length u) f b ∙ ap (λ (n : ℕ). drop n b) (sym q.end)))));
      end = rw length-append (omega (arith, p.end, q.end));
    }

-- the same of a sheet
pub writes_none : (s : Sheet) → Writes s [] s
writes_none s = record { put = put_none _ _; same = refl; long = refl }

pub writes_both : {s : Sheet} {t : List ℕ} {s' : Sheet} {u : List ℕ} {s'' : Sheet} → Writes s t s' → Writes s' u s'' → Writes s (t ++ u) s''
writes_both p q = record { put = put_both p.put q.put; same = q.same ∙ p.same; long = q.long ∙ p.long }

-- what a writer of digits needs of them
pub ruleset put_in_decimal = (writes_none, digits_one, length_digits)
