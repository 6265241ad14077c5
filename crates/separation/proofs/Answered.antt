-- NO NON-SECURE WORD ACCESS AT A LISTED OFFSET IS REFUSED, nor a Secure one.
--   column          a column of listed words
--   listed_placed   a word access at a listed offset goes to its place
--   word_answered   and with well-formed tables it is done
use Rattle.std.specs.Prelude.{Ok}
use mathlib.Core.Path.{◌≡◌, refl, ap, ◌∙◌}
use mathlib.Core.Bool.{true}
use Prim.Native.Nat.{ℕ, ◌+◌, ◌-◌, ◌*◌, ◌%◌, ◌≤◌, ◌<◌}
use native.Mathlib.Omega.{arith}
use borrow.Author.Tests.{le-ltb}
use Rattle.lists.proofs.Tables.{tabulate, tabulate_same}
use Rattle.types.specs.declared.Frame.{Frame}
use Rattle.types.specs.declared.Side.{Side}
use Rattle.types.specs.declared.Shape.{Shape}
use Rattle.types.specs.declared.Way.{Way}
use Rattle.types.specs.declared.Access.{Access}
use Rattle.types.specs.declared.Place.{Place}
use Rattle.types.specs.declared.Place.TheVariants as place
use Rattle.meaning.specs.Layout.{Tables, well_formed, cell_of}
use Rattle.meaning.specs.Registers.{wide_enough, listed, place_of}
use Rattle.meaning.specs.Rule.{access}
use Rattle.meaning.specs.Step.{stepped}
use Rattle.meaning.proofs.After.{answer_well}
use Rattle.promises.proofs.Refused.{placed_done}
use Rattle.separation.specs.ReadBack.{ListedAt}

wide : (p : Place) → wide_enough 4 0 p ≡ true
wide (place.Word r f n) = refl
wide (place.Extended r f n) = refl
wide place.Typer = refl
wide (place.Message g) = refl

-- a column of listed words, computed whole at once
pub column : (r : Frame) (base n : ℕ) (at : ℕ → Place) → base % 4 ≡ 0 → base + 4 * n ≤ 65536
    → tabulate (λ k. listed r (base + 4 * k)) 0 n ≡ tabulate (λ k. Ok (at k)) 0 n → (k : ℕ) → k < n → ListedAt r (base + 4 * k) (at k)
column r base n at even small same k l =
    record {
      small = omega arith;
      aligned = omega arith;
      known = tabulate_same (λ k. listed r (base + 4 * k)) (λ k. Ok (at k)) n same k l;
    }

pub listed_placed : (r : Frame) (o : ℕ) (p : Place) → ListedAt r o p → (side : Side) (w : Way) (v : ℕ)
    → place_of (record { frame = r; side = side; way = w; width = 4; offset = o; value = v }) ≡ Ok p
unfolding place_of
listed_placed r o p h side w v =
    let same : o - 0 ≡ o = omega arith in
    rw (h.aligned, le-ltb 65535 o h.small, same, h.known, wide p) refl

pub word_answered : (s : Shape) (t : Tables) → well_formed s t ≡ true → (a : Access) (p : Place) → a.width ≡ 4
    → ListedAt a.frame a.offset p → (v : ℕ) × ((stepped s (access a) t).answered ≡ Ok v)
word_answered s t well a p w h =
    let done = placed_done s a p (cell_of s t) (there ∙ listed_placed a.frame a.offset p h a.side a.way a.value) in
    (done.0, answer_well s (access a) t well ∙ done.1)
  where
    wide_by : ℕ → Access
    wide_by n = record { frame = a.frame; side = a.side; way = a.way; width = n; offset = a.offset; value = a.value }

    there : place_of a ≡ place_of (wide_by 4)
    there = ap (λ (n : ℕ). place_of (wide_by n)) w
