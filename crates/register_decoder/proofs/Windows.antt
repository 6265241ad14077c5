-- What is known of the place of an access, and of the window that it stands for.
--   placed_number   its word's number is below 64
--   placed_aimed    its window is of the access's frame, and one that a register word can have; all else is the Distributor's
--   word_digits, extended_digits, origin_base   the code's way to a window is the meaning's
use Rattle.std.specs.Prelude.{Ok, Err}
use mathlib.Core.Path.{◌≡◌, refl, sym, subst}
use mathlib.Core.Bool.{Bool, true, false, cond, not, ◌||◌}
use mathlib.Core.List.{List, [], ◌∷◌}
use Prim.Native.Nat.{ℕ, ◌+◌, ◌*◌, ◌-◌, ◌/◌, ◌%◌, ◌≤◌, ◌<◌}
use native.Mathlib.Nat.{zero-add, zero-mul}
use native.Mathlib.Omega.{arith}
use lib.Dec.{eqb, ltb}
use borrow.Author.Tests.{le-ltb, ltb-false}
use Rattle.types.specs.declared.Frame.{Frame}
use Rattle.types.specs.declared.Frame.TheVariants.{Dist, Redist}
use Rattle.types.specs.declared.Family.{Family}
use Rattle.types.specs.declared.Access.{Access}
use Rattle.types.specs.declared.Message.{Message}
use Rattle.types.specs.declared.Place.{Place}
use Rattle.types.specs.declared.Place.TheVariants as place
use Rattle.types.specs.declared.Refusal.TheVariants as refusal
use Rattle.types.specs.declared.Window.{Window}
use Rattle.types.specs.declared.Target.{Target}
use Rattle.types.specs.declared.Target.TheVariants as target
use Rattle.meaning.specs.Answers.{Decoded}
use Rattle.meaning.specs.Interrupt.{interrupt, sgi}
use Rattle.meaning.specs.Registers.{row_of, families, messages, message_offset, in_messages, per_word, low, redist_place}
use Rattle.meaning.specs.Registers.{listed, wide_enough, if_wide, place_of, target_of}
use Rattle.meaning.proofs.Choices.{chosen}
use Rattle.register_families.specs.Fits.{Fits}
use Rattle.register_families.proofs.Rows.{Tidy, tidy}
use Rattle.register_list.proofs.Columns.{column}
use Rattle.register_decoder.specs.Digits.{number_of, origin, count_of, digits_from}

-- words are counted from small multiples of 32
abbrev pub Base : ℕ → Type 0
Base m = (m ≤ 4096) × (m % 32 ≡ 0)

pub origin_base : (r : Frame) → Base (origin r)
origin_base Dist = (omega arith, refl)
origin_base Redist = (omega arith, refl)

-- the code's way to a window is the meaning's
pub word_digits : (r : Frame) (f : Family) (n : ℕ) → digits_from r f 0 n ≡ target_of (place.Word r f n)
unfolding target_of
word_digits Dist f n = rw zero-add
word_digits Redist f n = rw zero-add

pub extended_digits : (r : Frame) (f : Family) (n : ℕ) → digits_from r f (origin r) n ≡ target_of (place.Extended r f n)
unfolding target_of
extended_digits Dist f n = rw (le-ltb (4096 + per_word f * n) 32 (omega arith))
extended_digits Redist f n = refl

-- THE PLACE: what is known of one in a frame
abbrev Placed : Frame → Place → Type 0
Placed r (place.Word q f n) = (q ≡ r) × (n < 64)
Placed r (place.Extended q f n) = (q ≡ r) × (n < 64)
Placed r place.Typer = r ≡ Dist
Placed r (place.Message g) = r ≡ Dist

abbrev Found : Frame → Decoded → Type 0
Found r (Ok p) = Placed r p
Found r (Err w) = Unit

in_messages_lem : (o : ℕ) (gs : List Message) → Found Dist (in_messages o gs (Err refusal.Unlisted))
unfolding in_messages
in_messages_lem o [] = tt
in_messages_lem o (g ∷ gs) = chosen (Found Dist) (eqb o (message_offset g)) _ _ (λ t. refl) (λ t. in_messages_lem o gs)

in_list : (r : Frame) (o : ℕ) → Found r (listed r o)
unfolding listed
in_list Dist o =
    column (λ f. (row_of f).base) (λ f. (row_of f).words) (place.Word Dist) o _ (Found Dist)
    (λ f l u. (refl, let t = tidy f in omega arith)) families
    (λ n. column (λ f. (row_of f).extended) (λ f. (row_of f).extras) (place.Extended Dist) o _ (Found Dist)
    (λ f l u. (refl, let t = tidy f in omega arith)) families
    (λ m. chosen (Found Dist) (eqb o 0x004) _ _ (λ t. refl) (λ t. in_messages_lem o messages)))
in_list Redist o =
    column (λ f. (row_of f).base) (λ f. (row_of f).redist) redist_place o _ (Found Redist)
    (λ f l u.
    let t = tidy f in
    let h : (o - (row_of f).base) / 4 < 64 = omega arith in
    chosen (Placed Redist) (low (per_word f * ((o - (row_of f).base) / 4))) _ _ (λ t. (refl, h)) (λ t. (refl, h))) families
    (λ n. tt)

wide : (r : Frame) (w x : ℕ) (d : Decoded) → Found r d → Found r (if_wide w x d)
wide r w x (Ok p) h = chosen (Found r) (wide_enough w x p) _ _ (λ t. h) (λ t. tt)
wide r w x (Err v) h = tt

placed : (a : Access) → Found a.frame (place_of a)
unfolding place_of
placed a =
    let r = a.frame in
    let o = a.offset - a.offset % 4 in
    chosen (Found r) (not (eqb a.width 2 || eqb a.width 4)) _ _ (λ t. tt)
    (λ t. chosen (Found r) (not (eqb (a.offset % a.width) 0)) _ _ (λ u. tt)
    (λ u. chosen (Found r) (ltb 65535 a.offset) _ _ (λ v. tt)
    (λ v. wide r a.width (a.offset % 4) (listed r o) (in_list r o))))

found : (a : Access) (p : Place) → place_of a ≡ Ok p → Placed a.frame p
found a p e = rw e at (placed a)

number : (r : Frame) (p : Place) → Placed r p → number_of p < 64
number r (place.Word q f n) h = h.1
number r (place.Extended q f n) h = h.1
number r place.Typer h = omega arith
number r (place.Message g) h = omega arith

pub placed_number : (a : Access) (p : Place) → place_of a ≡ Ok p → number_of p < 64
placed_number a p e = number a.frame p (found a p e)

-- THE WINDOW of such a place: of the access's frame, and one whose SGIs are the INTIDs below 16
pub record WindowOf (r : Frame) (w : Window) : Type 0 where
  pub fits : Fits w
  pub frame_is : w.frame ≡ r
  pub sgis : (x : ℕ) → x < w.count → sgi (interrupt w.frame (w.first + x)) ≡ ltb (w.first + x) 16

abbrev pub Aimed : Frame → Target → Type 0
Aimed r (target.Digits w) = WindowOf r w
Aimed r target.Typer = r ≡ Dist
Aimed r (target.Message g) = r ≡ Dist

count_or_none : (P : ℕ → Type 0) (r : Frame) (m per : ℕ) → P 0 → P per → P (count_of r m per)
count_or_none P Dist m per h k = chosen P (low m) 0 per (λ t. h) (λ t. k)
count_or_none P Redist m per h k = k

-- the Distributor has no SGIs, and its windows begin above them
window_sgis : (r : Frame) (m per x : ℕ) → x < count_of r m per → sgi (interrupt r (m + x)) ≡ ltb (m + x) 16
unfolding sgi
window_sgis Redist m per x l = refl
window_sgis Dist m per x l = by (low m) refl l
  where
    by : (b : Bool) → low m ≡ b → x < cond b 0 per → false ≡ ltb (m + x) 16
    by true e u = absurd (let v : x < 0 = u in omega arith)
    by false e u = let h = ltb-false m 32 e in sym (le-ltb (m + x) 16 (omega arith))

aimed_from : (r q : Frame) (f : Family) (m n : ℕ) → q ≡ r → n < 64 → Base m → Aimed r (digits_from q f m n)
aimed_from r q f m n e h b =
    record {
      fits = count_or_none (λ c. Fits (sized c)) q (m + per_word f * n) (per_word f) (none (tidy f)) (all (tidy f));
      frame_is = e;
      sgis = λ x l. window_sgis q (m + per_word f * n) (per_word f) x l;
    }
  where
    sized : ℕ → Window
    sized c = record { frame = q; family = f; first = m + per_word f * n; count = c }

    small : Tidy (row_of f) → m + per_word f * n ≤ 8192
    small t = let l = t.first n h in omega (arith, b.0)

    none : Tidy (row_of f) → Fits (sized 0)
    none t = record { digits = rw zero-mul (omega arith); block = omega arith; numbers = small t }

    all : Tidy (row_of f) → Fits (sized (per_word f))
    all t = record { digits = t.digits; block = let l = t.block n in omega (arith, b.1); numbers = small t }

aimed_at : (r : Frame) (p : Place) → Placed r p → Aimed r (target_of p)
unfolding target_of
aimed_at r (place.Word q f n) h = subst (Aimed r) (word_digits q f n) (aimed_from r q f 0 n h.0 h.1 (omega arith, refl))
aimed_at r (place.Extended q f n) h =
    subst (Aimed r) (extended_digits q f n) (aimed_from r q f (origin q) n h.0 h.1 (origin_base q))
aimed_at r place.Typer h = h
aimed_at r (place.Message g) h = h

pub placed_aimed : (a : Access) (p : Place) → place_of a ≡ Ok p → Aimed a.frame (target_of p)
placed_aimed a p e = aimed_at a.frame p (found a p e)
