-- The gate of an exported function. The code looks for a shape and for what is asked (`sound` and `named` say whether the numbers give
-- them), and answers at once (`kept`) or asks the controller (`passed`).
use mathlib.Core.Path.{◌≡◌}
use mathlib.Core.Bool.{Bool, true, false}
use mathlib.Core.List.{List}
use Prim.Native.Nat.{ℕ}
use Rattle.std.proofs.Common.{rules}
use Rattle.std.specs.Prelude.{Option, Result, Ok, Err}
use Rattle.std.specs.Bool.{then_some}
use Rattle.types.specs.declared.Shape.{Shape}
use Rattle.meaning.specs.Answers.{Answer}
use Rattle.meaning.specs.Layout.{Tables, lent}
use Rattle.meaning.specs.Rule.{Step}
use Rattle.abi_numbers.specs.declared.Shut.{Shut}
use Rattle.abi_numbers.specs.Code.{code_of, shut_code, shut, asked}
use Rattle.controller.specs.declared.Controller.{Controller}
use Rattle.controller.specs.Answered.{tables_of, Answered}
use Rattle.berduzhika.specs.Returned.{Returned, after_gate}

module _ {A : Type 0} (s : Shape) (x : A) (step : A → Step) (t : Tables) where
  kept_so : (named sound : Bool) (e : Shut) → asked (then_some sound s) (then_some named x) ≡ Err e
      → ◌≡◌ {A = Returned} (record { code = shut_code e; tables = t }) (after_gate named sound s (step x) t)
  unfolding after_gate shut
  kept_so true true e h = search rules
  kept_so true false e h = search rules
  kept_so false sound e h = search rules

  passed_so : (named sound : Bool) (y : A) {o o' : Controller} {a : Answer} {dist redist : List ℕ}
      → asked (then_some sound s) (then_some named x) ≡ Ok (o.shape, y) → t ≡ tables_of o → Answered o (step y) a o'
      → o'.dist.now ≡ dist → o'.redist.now ≡ redist
      → ◌≡◌ {A = Returned} (record { code = code_of a; tables = lent dist redist t.dist_presence t.redist_presence })
      (after_gate named sound s (step x) t)
  unfolding after_gate
  passed_so true true y h same k d r = search rules
  passed_so true false y h same k d r = search rules
  passed_so false sound y h same k d r = search rules

  -- the same of what the calls in the code have answered: m, for the shape f and what is asked, g
  module _ (named sound : Bool) {m : Result (Shape × A) Shut} {f : Option Shape} {g : Option A} (is : m ≡ asked f g)
      (shaped : f ≡ then_some sound s) (told : g ≡ then_some named x) where
    pub kept : (e : Shut) → m ≡ Err e
        → ◌≡◌ {A = Returned} (record { code = shut_code e; tables = t }) (after_gate named sound s (step x) t)
    kept e h = kept_so named sound e (rw (is, shaped, told) at h)

    pub passed : (y : A) {o o' : Controller} {a : Answer} {dist redist : List ℕ} → m ≡ Ok (o.shape, y) → t ≡ tables_of o
        → Answered o (step y) a o' → o'.dist.now ≡ dist → o'.redist.now ≡ redist
        → ◌≡◌ {A = Returned} (record { code = code_of a; tables = lent dist redist t.dist_presence t.redist_presence })
        (after_gate named sound s (step x) t)
    passed y h = passed_so named sound y (rw (is, shaped, told) at h)
