-- No number but 2 is the Secure side: one that was forgotten, cut or has stray bits is refused, whatever else is asked.
use mathlib.Core.Path.{◌≡◌, refl, sym, ap, ◌∙◌}
use mathlib.Core.Bool.{Bool, true, false, cond, ◌&&◌}
use Prim.Native.Nat.{ℕ}
use native.Mathlib.Omega.{arith}
use lib.Dec.{eqb}
use borrow.Author.Tests.{eqb-true}
use Rattle.lists.proofs.Bools.{clash}
use Rattle.types.specs.declared.Event.TheVariants.{Activate, Deactivate}
use Rattle.types.specs.declared.Side.{Side}
use Rattle.types.specs.declared.Side.TheVariants.{Secure, NonSecure}
use Rattle.meaning.specs.Layout.{Tables}
use Rattle.meaning.specs.Rule as step
use Rattle.abi_numbers.specs.Numbers.{one_or_two, zero_or_one, side_of, shape_of, request_of}
use Rattle.abi_numbers.specs.Code.{joined, shut}
use Rattle.berduzhika.specs.Returned.{Returned, after_gate, access_returns, activate_returns, deactivate_returns}

weight : Side → ℕ
weight Secure = 1
weight NonSecure = 0

pub secure_is_two : (n : ℕ) → side_of n ≡ Secure → n ≡ 2
unfolding side_of weight
secure_is_two n h = by (eqb n 2) refl
  where
    by : (b : Bool) → eqb n 2 ≡ b → n ≡ 2
    by true e = eqb-true n 2 e
    by false e = let z : ◌≡◌ {A = ℕ} 0 1 = ap weight (ap (λ (b : Bool). cond b Secure NonSecure) (sym e) ∙ h) in absurd (omega (arith, z))

-- what a request gets that names nothing: 100, and every lent byte as it was
abbrev nothing : Tables → Returned
nothing t = record { code = joined 100 0; tables = t }

pub stray_access : (lines espi eppi mbis frame side way width offset value : ℕ) (t : Tables) → one_or_two side ≡ false
    → access_returns lines espi eppi mbis frame side way width offset value t ≡ nothing t
unfolding after_gate shut
stray_access lines espi eppi mbis frame side way width offset value t h = by (one_or_two frame) (one_or_two side) h
  where
    by : (a b : Bool) → b ≡ false
        → after_gate (a && (b && one_or_two way)) (zero_or_one mbis) (shape_of lines espi eppi mbis)
        (step.access (request_of frame side way width offset value)) t
        ≡ nothing t
    by true true e = absurd (clash refl e)
    by true false e = refl
    by false b e = refl

pub stray_activate : (lines espi eppi mbis side intid : ℕ) (t : Tables) → one_or_two side ≡ false
    → activate_returns lines espi eppi mbis side intid t ≡ nothing t
unfolding after_gate shut
stray_activate lines espi eppi mbis side intid t h =
    ap (λ (b : Bool). after_gate b (zero_or_one mbis) (shape_of lines espi eppi mbis) (step.happens (Activate (side_of side)) intid) t) h

pub stray_deactivate : (lines espi eppi mbis side intid : ℕ) (t : Tables) → one_or_two side ≡ false
    → deactivate_returns lines espi eppi mbis side intid t ≡ nothing t
unfolding after_gate shut
stray_deactivate lines espi eppi mbis side intid t h =
    ap (λ (b : Bool). after_gate b (zero_or_one mbis) (shape_of lines espi eppi mbis) (step.happens (Deactivate (side_of side)) intid) t) h
