-- WHAT THE NON-SECURE SIDE SETS, IT READS BACK. After a write of v to a set register (enable, pending, active) the word reads: the old
-- word, or v and the owned bits; after a write to a clear register (enable, active): the old word, and not v. Exactly, in every digit.
--   word_read_lem      what a read shows, at any listed word
--   read_back, cleared_back   on the lent tables, at any listed word of the kind
--   ispendr_back   the demand's own: every listed word of ISPENDR is such
--   icenabler_back, icactiver_back   and every listed word of these, of the clear words
--   set_pending    those of ISPENDR offset by offset
use Rattle.std.specs.Prelude.{Ok}
use mathlib.Core.Path.{◌≡◌, refl, sym, ap, ap₂, ◌∙◌}
use mathlib.Core.Bool.{Bool, true, false, cond, not, ◌&&◌, ◌||◌}
use Prim.Native.Nat.{ℕ, ◌+◌, ◌-◌, ◌*◌, ◌≤◌, ◌<◌}
use native.Mathlib.Omega.{arith}
use lib.Dec.{eqb}
use borrow.Author.Tests.{le-ltb}
use Rattle.lists.specs.Word.{digit, digit_at, row}
use Rattle.lists.proofs.Bools.{both, clash}
use Rattle.lists.proofs.Rows.{row_same}
use Rattle.types.specs.declared.Side.TheVariants.{NonSecure}
use Rattle.types.specs.declared.Frame.{Frame}
use Rattle.types.specs.declared.Frame.TheVariants.{Dist, Redist}
use Rattle.types.specs.declared.Shape.{Shape}
use Rattle.types.specs.declared.Switch.{Switch}
use Rattle.types.specs.declared.Switch.TheVariants.{Enable, Pending, Active}
use Rattle.types.specs.declared.Kind.{Kind}
use Rattle.types.specs.declared.Kind.TheVariants.{Switched}
use Rattle.types.specs.declared.Way.{Way}
use Rattle.types.specs.declared.Way.TheVariants.{Read, Write}
use Rattle.types.specs.declared.Access.{Access}
use Rattle.types.specs.declared.Family.TheVariants.{Icenabler, Ispendr, Icactiver}
use Rattle.types.specs.declared.Place.{Place}
use Rattle.types.specs.declared.Place.TheVariants as place
use Rattle.types.specs.declared.Window.{Window}
use Rattle.types.specs.declared.Target.{Target}
use Rattle.types.specs.declared.Target.TheVariants as target
use Rattle.meaning.specs.Answers.{Decoded}
use Rattle.meaning.specs.Interrupt.{Interrupt, intid, interrupt, in_frame, between}
use Rattle.meaning.specs.Cell.{Cell, get, owned}
use Rattle.meaning.specs.Layout.{Tables, well_formed, cell_of}
use Rattle.meaning.specs.Registers.{row_of, kind_of, bits_of, in_column, low, listed, written_value, window, target_of, names}
use Rattle.meaning.specs.Rule.{access, Deed, write, write_to, accessed, deed_of, sees, may_touch, reaches, update, state_of}
use Rattle.meaning.specs.Rule.{shows, visible, aims, admits, effect, performed, act}
use Rattle.meaning.specs.Step.{Cells, word_read, read, access_answer, answer}
use Rattle.meaning.proofs.Bytes.{digit_back}
use Rattle.meaning.proofs.Choices.{cond_true, cond_alike}
use Rattle.meaning.proofs.Sides.{rewrites}
use Rattle.meaning.proofs.Kept.{owned_kept}
use Rattle.meaning.proofs.Effects.{set_shown, bit_cleared}
use Rattle.meaning.proofs.Homes.{between_in}
use Rattle.meaning.proofs.After.{answer_well, well_kept, cells_stepped}
use Rattle.promises.proofs.Shown.{digit_shown}
use Rattle.separation.specs.ReadBack.{ListedAt, non_secure_word, one, read_at, written_at}
use Rattle.separation.specs.ReadBack.{old_or_owned, old_and_not, clears_shown, ReadsBack, SetPending}
use Rattle.separation.proofs.Answered.{listed_placed, column}

-- the interrupts of a window's digits
intid_of : (r : Frame) (m : ℕ) → intid (interrupt r m) ≡ m
intid_of Dist m = refl
intid_of Redist m = refl

in_frame_lem : (r : Frame) (m : ℕ) → in_frame r (interrupt r m) ≡ true
in_frame_lem Dist m = refl
in_frame_lem Redist m = refl

named_by : (w : Window) (x : ℕ) → x < w.count → names w (interrupt w.frame (w.first + x)) ≡ true
unfolding names
named_by w x l =
    both (in_frame w.frame _) _ (in_frame_lem w.frame (w.first + x))
    (ap (between w.first (w.first + w.count)) (intid_of w.frame (w.first + x))
    ∙ between_in w.first (w.first + w.count) (w.first + x) (omega arith) (omega arith))

digit_of : (w : Window) (x : ℕ) → intid (interrupt w.frame (w.first + x)) - w.first ≡ x
digit_of w x = ap (λ (n : ℕ). n - w.first) (intid_of w.frame (w.first + x)) ∙ omega arith

-- A SET OR CLEAR FAMILY whose state after a digit was written is G of that digit, and of the state before
abbrev After : Shape → Bool → Switch → (Bool → Bool → Bool) → Type 0
After s on b G =
    (d : ℕ) (i : Interrupt) (c : Cell) → state_of s b i (update s NonSecure (Switched on b) d i c) ≡ G (eqb d 1) (state_of s b i c)

module _ (s : Shape) (on : Bool) (b : Switch) (G : Bool → Bool → Bool) (state : After s on b G) where
  seen : (i : Interrupt) (c : Cell) → visible s NonSecure (Switched on b) i c ≡ cond (owned c) (digit (state_of s b i c)) 0
  unfolding visible reaches may_touch sees owned shows
  seen i c = refl

  -- a word of it, where F gives the new digit from the written one, whether its interrupt is owned, and the old one
  module _ (w : Window) (kind : kind_of w.family ≡ Switched on b) (v : ℕ) (cells : Cells) (F : Bool → Bool → Bool → Bool)
      (form : (o x y : Bool) → cond o (digit (G x y)) 0 ≡ digit (F x o (eqb (cond o (digit y) 0) 1))) where
    abbrev ith : ℕ → Interrupt
    ith x = interrupt w.frame (w.first + x)

    abbrev after : Interrupt → Cell
    after i = performed s (write NonSecure w v) i (cells i)

    -- what is owned is written ..
    state_new : (x : ℕ) → x < w.count → owned (cells (ith x)) ≡ true
        → state_of s b (ith x) (after (ith x)) ≡ G (one w v x) (state_of s b (ith x) (cells (ith x)))
    unfolding performed aims admits effect reaches may_touch sees owned
    state_new x l o =
        let i = ith x in
        let c = cells (ith x) in
        let gate = both (names w i) _ (named_by w x l) (ap (λ (k : Kind). reaches s NonSecure Write k i c) kind ∙ o) in
        ap (state_of s b i)
        (cond_true _ _ c gate
        ∙ ap₂ (λ (k : Kind) (n : ℕ). update s NonSecure k (digit_at (bits_of w.family) n v) i c) kind (digit_of w x))
        ∙ state (digit_at (bits_of w.family) x v) i c

    -- .. and stays owned
    still_owned : (i : Interrupt) → owned (after i) ≡ owned (cells i)
    unfolding rewrites
    still_owned i = owned_kept s i (cells i) (write NonSecure w v) refl

    digit_new : (x : ℕ) → x < w.count
        → visible s NonSecure (kind_of w.family) (ith x) (after (ith x))
        ≡ digit (F (one w v x) (owned (cells (ith x))) (one w (word_read s NonSecure w cells) x))
    digit_new x l =
        let i = ith x in
        let c = cells (ith x) in
        let was = digit_shown s NonSecure w x l cells ∙ (ap (λ (k : Kind). visible s NonSecure k i c) kind ∙ seen i c) in
        ap (λ (k : Kind). visible s NonSecure k i (after i)) kind
        ∙ (seen i (after i)
        ∙ (ap (λ (o : Bool). cond o (digit (state_of s b i (after i))) 0) (still_owned i)
        ∙ (cond_alike (λ (n : ℕ). n) (λ (n : ℕ). n) (owned c) _ 0 _ 0 (λ o. ap digit (state_new x l o)) (λ o. refl)
        ∙ (form (owned c) (one w v x) (state_of s b i c) ∙ ap (λ (n : ℕ). digit (F (one w v x) (owned c) (eqb n 1))) (sym was)))))

    word_after : word_read s NonSecure w after
        ≡ row (bits_of w.family) w.count (λ x. digit (F (one w v x) (owned (cells (ith x))) (one w (word_read s NonSecure w cells) x)))
    unfolding word_read
    word_after = row_same (bits_of w.family) w.count _ _ digit_new

-- THE TWO FORMS
set_form : (o x y : Bool) → cond o (digit (x || y)) 0 ≡ digit ((x && o) || eqb (cond o (digit y) 0) 1)
set_form true true y = refl
set_form true false y = ap digit (sym (digit_back y))
set_form false true y = refl
set_form false false y = refl

clear_form : (o x y : Bool) → cond o (digit (not x && y)) 0 ≡ digit (not x && eqb (cond o (digit y) 0) 1)
clear_form true true y = refl
clear_form true false y = ap digit (sym (digit_back y))
clear_form false true y = refl
clear_form false false y = refl

clear_shown : (s : Shape) (b : Switch) → clears_shown b ≡ true → After s false b (λ x y. not x && y)
unfolding get
clear_shown s Enable h d i c = bit_cleared s NonSecure i c Enable d
clear_shown s Pending h d i c = absurd (clash h refl)
clear_shown s Active h d i c = bit_cleared s NonSecure i c Active d

-- ON THE LENT TABLES, at any listed word, in either frame
module _ (s : Shape) (t : Tables) (well : well_formed s t ≡ true) (r : Frame) (o : ℕ) (p : Place) (listed_at : ListedAt r o p)
    (w : Window) (word : target_of p ≡ target.Digits w) where
  asked : Way → ℕ → Access
  asked x v = record { frame = r; side = NonSecure; way = x; width = 4; offset = o; value = v }

  -- a read shows the word of the interrupts as they are
  pub word_read_lem : (u : Tables) → well_formed s u ≡ true → (y : ℕ) → read_at s r o y u ≡ Ok (word_read s NonSecure w (cell_of s u))
  unfolding answer read asked
  word_read_lem u h y =
      answer_well s (access (asked Read y)) u h
      ∙ (ap (λ (d : Decoded). access_answer s (asked Read y) d (cell_of s u)) (listed_placed r o p listed_at NonSecure Read y)
      ∙ ap (λ (g : Target). Ok (read s NonSecure g (cell_of s u))) word)

  write_deed : (v : ℕ) → deed_of (non_secure_word r Write o v) ≡ write NonSecure w v
  unfolding deed_of written_value asked
  write_deed v = ap (accessed (asked Write v)) (listed_placed r o p listed_at NonSecure Write v) ∙ ap (write_to NonSecure v) word

  -- and after a write the interrupts are those of its deed
  written_read : (v z : ℕ)
      → read_at s r o z (written_at s r o v t) ≡ Ok (word_read s NonSecure w (λ i. performed s (write NonSecure w v) i (cell_of s t i)))
  unfolding act
  written_read v z =
      word_read_lem (written_at s r o v t) (well_kept s (non_secure_word r Write o v) t well) z
      ∙ ap (λ (cells : Cells). Ok (word_read s NonSecure w cells)) (λ x i. cell i x)
    where
      cell : (i : Interrupt) → cell_of s (written_at s r o v t) i ≡ performed s (write NonSecure w v) i (cell_of s t i)
      cell i = cells_stepped s (non_secure_word r Write o v) t well i ∙ ap (λ (d : Deed). performed s d i (cell_of s t i)) (write_deed v)

  old_word : (old y : ℕ) → read_at s r o y t ≡ Ok old → word_read s NonSecure w (cell_of s t) ≡ old
  old_word old y was = let e = sym (word_read_lem t well y) ∙ was in cc

  -- Read, set (enable, pending or active), read: the old word, or v and the owned bits.
  pub read_back : (b : Switch) → kind_of w.family ≡ Switched true b → (old v y z : ℕ) → read_at s r o y t ≡ Ok old
      → read_at s r o z (written_at s r o v t) ≡ Ok (old_or_owned w old v (cell_of s t))
  unfolding old_or_owned
  read_back b kind old v y z was =
      written_read v z
      ∙ (ap Ok
      (word_after s true b ◌||◌ (λ d i c. set_shown s NonSecure i c b d) w kind v (cell_of s t) (λ x o y. (x && o) || y) set_form)
      ∙ ap (λ (n : ℕ). Ok (old_or_owned w n v (cell_of s t))) (old_word old y was))

  -- Read, clear (enable or active), read: the old word, and not v.
  pub cleared_back : (b : Switch) → clears_shown b ≡ true → kind_of w.family ≡ Switched false b → (old v y z : ℕ)
      → read_at s r o y t ≡ Ok old → read_at s r o z (written_at s r o v t) ≡ Ok (old_and_not w old v)
  unfolding old_and_not
  cleared_back b shown kind old v y z was =
      written_read v z
      ∙ (ap Ok
      (word_after s false b (λ x y. not x && y) (clear_shown s b shown) w kind v (cell_of s t) (λ x o y. not x && y) clear_form)
      ∙ ap (λ (n : ℕ). Ok (old_and_not w n v)) (old_word old y was))

-- THE DEMAND'S OWN: every listed word of ISPENDR, at whatever offset of either frame, is such a word ..
pub ispendr_back : (s : Shape) (t : Tables) → well_formed s t ≡ true → (r : Frame) (o : ℕ) (p : Place) → ListedAt r o p → (w : Window)
    → target_of p ≡ target.Digits w → w.family ≡ Ispendr → (old v y z : ℕ) → read_at s r o y t ≡ Ok old
    → read_at s r o z (written_at s r o v t) ≡ Ok (old_or_owned w old v (cell_of s t))
unfolding row_of
ispendr_back s t well r o p at w is f = read_back s t well r o p at w is Pending (ap kind_of f)

-- .. and every listed word of ICENABLER and ICACTIVER is one of the clear words ..
module _ (s : Shape) (t : Tables) (well : well_formed s t ≡ true) (r : Frame) (o : ℕ) (p : Place) (at : ListedAt r o p) (w : Window)
    (is : target_of p ≡ target.Digits w) where
  pub icenabler_back : w.family ≡ Icenabler → (old v y z : ℕ) → read_at s r o y t ≡ Ok old
      → read_at s r o z (written_at s r o v t) ≡ Ok (old_and_not w old v)
  unfolding row_of
  icenabler_back f = cleared_back s t well r o p at w is Enable refl (ap kind_of f)

  pub icactiver_back : w.family ≡ Icactiver → (old v y z : ℕ) → read_at s r o y t ≡ Ok old
      → read_at s r o z (written_at s r o v t) ≡ Ok (old_and_not w old v)
  unfolding row_of
  icactiver_back f = cleared_back s t well r o p at w is Active refl (ap kind_of f)

-- .. and the set-pending words are these, offset by offset
pub set_pending : (s : Shape) (t : Tables) → well_formed s t ≡ true → SetPending s t
unfolding listed in_column row_of target_of
set_pending s t well =
    record {
      dist_0 = back Dist 0x200 (place.Word Dist Ispendr 0)
          (column Dist 0x200 1 (place.Word Dist Ispendr) refl (omega arith) refl 0 (omega arith)) 0 0 refl;
      dist = λ n l.
          back Dist (0x204 + 4 * n) (place.Word Dist Ispendr (n + 1))
          (column Dist 0x204 31 (λ k. place.Word Dist Ispendr (k + 1)) refl (omega arith) refl n l) (32 + 32 * n) 32 (high n);
      dist_extended = λ n l.
          back Dist (0x1600 + 4 * n) (place.Extended Dist Ispendr n)
          (column Dist 0x1600 32 (place.Extended Dist Ispendr) refl (omega arith) refl n l) (4096 + 32 * n) 32 refl;
      redist = back Redist 0x200 (place.Word Redist Ispendr 0)
          (column Redist 0x200 1 (place.Word Redist Ispendr) refl (omega arith) refl 0 (omega arith)) 0 32 refl;
      redist_extended = λ n l.
          back Redist (0x204 + 4 * n) (place.Extended Redist Ispendr (n + 1))
          (column Redist 0x204 2 (λ k. place.Extended Redist Ispendr (k + 1)) refl (omega arith) refl n l) (1056 + 32 * n) 32
          (let e : 1024 + 32 * (n + 1) ≡ 1056 + 32 * n = omega arith in ap (λ (m : ℕ). window Redist Ispendr m 32) e);
    }
  where
    back : (r : Frame) (o : ℕ) (p : Place) → ListedAt r o p → (first count : ℕ) → target_of p ≡ window r Ispendr first count
        → ReadsBack s t r o first count
    back r o p at first count is = ispendr_back s t well r o p at _ is refl

    high : (n : ℕ) → window Dist Ispendr (32 * (n + 1)) (cond (low (32 * (n + 1))) 0 32) ≡ window Dist Ispendr (32 + 32 * n) 32
    high n =
        let e : 32 * (n + 1) ≡ 32 + 32 * n = omega arith in
        let past : 32 ≤ 32 * (n + 1) = omega arith in
        ap (λ (b : Bool). window Dist Ispendr (32 * (n + 1)) (cond b 0 32)) (le-ltb (32 * (n + 1)) 32 past)
        ∙ ap (λ (m : ℕ). window Dist Ispendr m 32) e
