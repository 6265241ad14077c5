-- A loop that maps a list in place and visits only the places of the ones of a word, where the map leaves every other place. Its invariant
-- does not speak of order: a place whose bit is still 1 is as it was, any other is done.
--   jumped_none    at the start
--   jumped_more    after one more place
--   jumped_all     at the end, the list is the map
use mathlib.Core.Path.{◌≡◌, refl, sym, ap, ◌∙◌}
use mathlib.Core.Bool.{true, false}
use mathlib.Core.List.{List}
use Prim.Native.Nat.{ℕ, ◌≤◌, ◌<◌}
use native.Mathlib.Omega.{arith}
use native.Mathlib.Decide.{ℕ_discrete}
use lib.ListN.{length, get_or, set, length-set}
use lib.Seq.{get_or-set_same, get_or-set_other}
use Rattle.lists.specs.Map.{map_from}
use Rattle.lists.specs.Word.{bit_at}
use Rattle.lists.proofs.Bools.{clash}
use Rattle.lists.proofs.Maps.{is-map_from}
use Rattle.lists.proofs.Ones.{without, without_same, without_other}

-- `value` is the word, `rest` what remains of it
pub record Jumped (f : ℕ → ℕ → ℕ) (old new : List ℕ) (value rest : ℕ) : Type 0 where
  pub same : length new ≡ length old
  pub ones : (k : ℕ) → k < length old → bit_at rest k ≡ true → bit_at value k ≡ true
  pub done : (k : ℕ) → k < length old → bit_at rest k ≡ false → get_or new k 0 ≡ f k (get_or old k 0)
  pub todo : (k : ℕ) → k < length old → bit_at rest k ≡ true → get_or new k 0 ≡ get_or old k 0

pub jumped_none : (f : ℕ → ℕ → ℕ) (xs : List ℕ) (value : ℕ)
    → ((k : ℕ) → k < length xs → bit_at value k ≡ false → f k (get_or xs k 0) ≡ get_or xs k 0) → Jumped f xs xs value value
jumped_none f xs value quiet = record { same = refl; ones = λ k l o. o; done = λ k l z. sym (quiet k l z); todo = λ k l o. refl }

pub jumped_more : (f : ℕ → ℕ → ℕ) (old new : List ℕ) (value rest x v : ℕ) → Jumped f old new value rest → length old ≤ 32 → x < length new
    → bit_at rest x ≡ true → v ≡ f x (get_or new x 0) → Jumped f old (set new x v) value (without rest x)
jumped_more f old new value rest x v j fits h one e =
    record {
      same = length-set new x v ∙ j.same;
      ones = λ k l o. by_ones k l o (ℕ_discrete k x);
      done = λ k l z. by_done k l z (ℕ_discrete k x);
      todo = λ k l o. by_todo k l o (ℕ_discrete k x);
    }
  where
    here : x < length old
    here = let s = j.same in omega arith

    kept : (k : ℕ) → k < length old → (k ≡ x → ⊥) → bit_at rest k ≡ bit_at (without rest x) k
    kept k l ne = sym (without_other rest x k (omega arith) (omega arith) ne)

    gone : {A : Type 0} (k : ℕ) → bit_at (without rest x) k ≡ true → k ≡ x → A
    gone k o q = absurd (clash o (ap (λ (i : ℕ). bit_at (without rest x) i) q ∙ without_same rest x (omega arith)))

    by_ones : (k : ℕ) → k < length old → bit_at (without rest x) k ≡ true → Dec (k ≡ x) → bit_at value k ≡ true
    by_ones k l o (yes q) = gone k o q
    by_ones k l o (no ne) = j.ones k l (kept k l ne ∙ o)

    by_done : (k : ℕ) → k < length old → bit_at (without rest x) k ≡ false → Dec (k ≡ x) → get_or (set new x v) k 0 ≡ f k (get_or old k 0)
    by_done k l z (yes q) = rw q (get_or-set_same new x v 0 h ∙ (e ∙ ap (λ (b : ℕ). f x b) (j.todo x here one)))
    by_done k l z (no ne) = get_or-set_other new x k v 0 ne ∙ j.done k l (kept k l ne ∙ z)

    by_todo : (k : ℕ) → k < length old → bit_at (without rest x) k ≡ true → Dec (k ≡ x) → get_or (set new x v) k 0 ≡ get_or old k 0
    by_todo k l o (yes q) = gone k o q
    by_todo k l o (no ne) = get_or-set_other new x k v 0 ne ∙ j.todo k l (kept k l ne ∙ o)

pub jumped_all : (f : ℕ → ℕ → ℕ) (old new : List ℕ) (value rest : ℕ) → Jumped f old new value rest
    → ((k : ℕ) → k < length old → bit_at rest k ≡ false) → new ≡ map_from 0 f old
jumped_all f old new value rest j none = is-map_from f old new j.same (λ k l. j.done k l (none k l))
