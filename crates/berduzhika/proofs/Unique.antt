-- The promise of an exported function leaves no choice, and its number gives the status and the value back.
use Rattle.std.specs.Prelude.{Ok, Err}
use mathlib.Core.Path.{◌≡◌, refl, sym, ap, ap₂, ◌∙◌}
use mathlib.Core.Bool.{Bool, cond}
use Prim.Native.Nat.{ℕ, ◌^◌, ◌<◌}
use native.Mathlib.Omega.{arith}
use lib.Dec.{eqb}
use Rattle.types.specs.declared.Shape.{Shape}
use Rattle.types.specs.declared.Refusal.{Refusal}
use Rattle.types.specs.declared.Refusal.TheVariants as refusal
use Rattle.meaning.specs.Answers.{Answer, status_of, value_of}
use Rattle.meaning.specs.Layout.{Tables}
use Rattle.meaning.specs.Rule.{Step}
use Rattle.meaning.specs.Step.{stepped}
use Rattle.abi_numbers.specs.Code.{joined, code_of, status_in, value_in}
use Rattle.berduzhika.specs.Returned.{Returned, returned, after_gate}
use Rattle.berduzhika.proofs.Fits.{value_fits}

-- Two results that both meet a promise are equal: their numbers, and every lent byte.
pub unique : (named sound : Bool) (s : Shape) (q : Step) (t : Tables) (a b : Returned) → a ≡ after_gate named sound s q t
    → b ≡ after_gate named sound s q t → a ≡ b
unique named sound s q t a b h k = h ∙ sym k

-- The halves of a number.
upper : (status value : ℕ) → value < 2 ^ 32 → status_in (joined status value) ≡ status
upper status value h = omega arith

lower : (status value : ℕ) → value < 2 ^ 32 → value_in (joined status value) ≡ value
lower status value h = omega arith

-- Behind the gate they are document 01's status and value of the step.
pub status_back : (s : Shape) (q : Step) (t : Tables) → status_in (returned (stepped s q t)).code ≡ status_of (stepped s q t).answered
unfolding code_of
status_back s q t = upper (status_of (stepped s q t).answered) (value_of (stepped s q t).answered) (value_fits s q t)

pub value_back : (s : Shape) (q : Step) (t : Tables) → value_in (returned (stepped s q t)).code ≡ value_of (stepped s q t).answered
unfolding code_of
value_back s q t = lower (status_of (stepped s q t).answered) (value_of (stepped s q t).answered) (value_fits s q t)

-- The answer of a status and a value.
refusal_of : ℕ → Refusal
refusal_of n =
    cond (eqb n 1) refusal.Shape
    (cond (eqb n 2) refusal.Width
    (cond (eqb n 3) refusal.Alignment
    (cond (eqb n 4) refusal.Offset
    (cond (eqb n 5) refusal.Unlisted
    (cond (eqb n 6) refusal.Narrow (cond (eqb n 7) refusal.Intid (cond (eqb n 8) refusal.SgiWire refusal.State)))))))

answer_of : ℕ → ℕ → Answer
answer_of status value = cond (eqb status 0) (Ok value) (Err (refusal_of status))

answer_back : (a : Answer) → answer_of (status_of a) (value_of a) ≡ a
unfolding answer_of refusal_of
answer_back (Ok v) = refl
answer_back (Err refusal.Shape) = refl
answer_back (Err refusal.Width) = refl
answer_back (Err refusal.Alignment) = refl
answer_back (Err refusal.Offset) = refl
answer_back (Err refusal.Unlisted) = refl
answer_back (Err refusal.Narrow) = refl
answer_back (Err refusal.Intid) = refl
answer_back (Err refusal.SgiWire) = refl
answer_back (Err refusal.State) = refl

code_back : (a : Answer) → value_of a < 2 ^ 32 → answer_of (status_in (code_of a)) (value_in (code_of a)) ≡ a
unfolding code_of
code_back a h = ap₂ answer_of (upper (status_of a) (value_of a) h) (lower (status_of a) (value_of a) h) ∙ answer_back a

-- A number stands for one answer only.
pub apart : (a b : Answer) → value_of a < 2 ^ 32 → value_of b < 2 ^ 32 → code_of a ≡ code_of b → a ≡ b
apart a b h k e = sym (code_back a h) ∙ (ap (λ (n : ℕ). answer_of (status_in n) (value_in n)) e ∙ code_back b k)

-- 100 is no status of document 01's: a request that was let pass is never answered as one that named nothing.
below_ten : (a : Answer) → status_of a < 10
below_ten (Ok v) = omega arith
below_ten (Err refusal.Shape) = omega arith
below_ten (Err refusal.Width) = omega arith
below_ten (Err refusal.Alignment) = omega arith
below_ten (Err refusal.Offset) = omega arith
below_ten (Err refusal.Unlisted) = omega arith
below_ten (Err refusal.Narrow) = omega arith
below_ten (Err refusal.Intid) = omega arith
below_ten (Err refusal.SgiWire) = omega arith
below_ten (Err refusal.State) = omega arith

pub hundred_alone : (s : Shape) (q : Step) (t : Tables) → (returned (stepped s q t)).code ≡ joined 100 0 → ⊥
unfolding code_of
hundred_alone s q t e =
    let low = below_ten (stepped s q t).answered in
    let fit = value_fits s q t in
    omega (arith, e)
