-- THE TABLE WHERE NO SECURE INTERRUPT EXISTS, its presence bits really cleared in the lent words. The Non-secure side cannot tell it from
-- the tables as they are.
--   as_if_none           clause 2: a run, and the same without its private steps on that table
--   as_if_none_private   or with private steps of that table's own
--   well_there, none_secure, owned_there   that table is well-formed, has no Secure interrupt, and has those that are owned
use mathlib.Core.Path.{◌≡◌, refl, sym, ap, ap₂, ◌∙◌}
use mathlib.Core.Bool.{Bool, true, false, not, ◌&&◌}
use mathlib.Core.List.{List}
use Prim.Native.Nat.{ℕ, ◌+◌, ◌*◌, ◌-◌, ◌%◌, ◌/◌, ◌^◌, ◌≤◌, ◌<◌}
use native.Mathlib.Omega.{arith}
use lib.ListN.{get_or, length}
use lib.Dec.{eqb}
use borrow.Author.Tests.{lt-ltb, le-ltb, ne_eqb}
use Rattle.lists.specs.Word.{digit, digit_at, bit_at, row}
use Rattle.lists.proofs.Maps.{length-map_from, at-map_from}
use Rattle.lists.proofs.Bools.{and_left}
use Rattle.lists.proofs.Rows.{row_digit}
use Rattle.types.specs.declared.Frame.{Frame}
use Rattle.types.specs.declared.Frame.TheVariants.{Dist, Redist}
use Rattle.types.specs.declared.Shape.{Shape}
use Rattle.meaning.specs.Interrupt.{Interrupt, shared, own, intid, interrupt}
use Rattle.types.specs.declared.Bit.TheVariants.{Group}
use Rattle.meaning.specs.Cell.{has, decode, non_secure, owned}
use Rattle.meaning.specs.Layout.{Tables, presence_of, presence_words, lengths_fit, well_formed, in_range}
use Rattle.meaning.specs.Layout.{Home, slot, nowhere, home_of, present_at, record_at, implemented, cell_of}
use Rattle.meaning.specs.Rule.{Step}
use Rattle.meaning.proofs.Bytes.{digit_back, digit_fits}
use Rattle.meaning.proofs.Homes.{shared_home, own_home}
use Rattle.meaning.proofs.After.{presence_length, well_lengths}
use Rattle.separation.specs.Runs.{Item, without_private}
use Rattle.separation.specs.Lent.{Run, Indistinct, Same, present_intid, secure_at, cleared, without_secure}
use Rattle.separation.proofs.Views.{alike_glimpse}
use Rattle.separation.proofs.Tables.{owned_here, runs_indistinct, deleted_indistinct}

-- BIT intid % 32 of a home's presence word is its interrupt's, and the word is one of the table's
abbrev Marked : Interrupt → Home → Type 0
Marked i (slot r k w) = (interrupt r (present_intid r w (intid i % 32)) ≡ i) × (w < presence_words r)
Marked i nowhere = Unit

marked : (i : Interrupt) → Marked i (home_of i)
unfolding present_intid
marked (shared m) =
    shared_home (Marked (shared m)) m
    (λ h k.
    let l : m / 32 - 1 < 31 = omega arith in
    let e : 32 * ((m / 32 - 1) + 1) + m % 32 ≡ m = omega arith in
    (rw (lt-ltb (m / 32 - 1) 31 l) (ap shared e), omega arith))
    (λ h k.
    let l : 31 ≤ 31 + (m - 4096) / 32 = omega arith in
    let e : 4096 + (32 * ((31 + (m - 4096) / 32) - 31) + m % 32) ≡ m = omega arith in
    (rw (le-ltb (31 + (m - 4096) / 32) 31 l) (ap shared e), omega arith))
    (λ h k. tt)
marked (own m) =
    own_home (Marked (own m)) m (λ h. let e : m % 32 ≡ m = omega arith in (ap own e, omega arith))
    (λ h k.
    let l : (m - 1024) / 32 ≡ 0 → ⊥ = λ z. omega arith in
    let e : 1024 + (32 * ((m - 1024) / 32) + m % 32) ≡ m = omega arith in
    (rw (ne_eqb ((m - 1024) / 32) 0 l) (ap own e), omega arith))
    (λ h k. tt)

-- bit x of a cleared word
bit_of_row : (f : ℕ → Bool) (x : ℕ) → x < 32 → bit_at (row 1 32 (λ k. digit (f k))) x ≡ f x
unfolding bit_at digit_at
bit_of_row f x l =
    let e : x ≡ 1 * x = omega arith in
    ap (λ (k : ℕ). eqb (row 1 32 (λ k. digit (f k)) / 2 ^ k % 2) 1) e
    ∙ (ap (λ (z : ℕ). eqb z 1) (row_digit 1 32 (λ k. digit (f k)) (λ k u. digit_fits (f k)) x l) ∙ digit_back (f x))

module _ (s : Shape) (t : Tables) (well : well_formed s t ≡ true) where
  abbrev there : Tables
  there = without_secure s t

  words_there : (r : Frame) → presence_of r there ≡ cleared s t r
  unfolding without_secure
  words_there Dist = refl
  words_there Redist = refl

  record_there : (h : Home) → record_at there h ≡ record_at t h
  unfolding without_secure
  record_there (slot Dist k w) = refl
  record_there (slot Redist k w) = refl
  record_there nowhere = refl

  pub well_there : well_formed s (without_secure s t) ≡ true
  unfolding well_formed lengths_fit without_secure cleared
  well_there = rw (length-map_from 0 _ t.dist_presence, length-map_from 0 _ t.redist_presence) well

  -- an interrupt exists there where it did, and is not Secure
  bit_there : (i : Interrupt) (h : Home) → Marked i h
      → present_at there (intid i % 32) h ≡ (present_at t (intid i % 32) h && not (secure_at s t i))
  unfolding cleared
  bit_there i (slot r k w) (m, l) =
      let inside : w < length (presence_of r t) = rw (presence_length t (well_lengths s t well) r) l in
      let old = get_or (presence_of r t) w 0 in
      ap (λ (ws : List ℕ). bit_at (get_or ws w 0) (intid i % 32)) (words_there r)
      ∙ (ap (λ (v : ℕ). bit_at v (intid i % 32)) (at-map_from _ (presence_of r t) w inside)
      ∙ (bit_of_row (λ x. bit_at old x && not (secure_at s t (interrupt r (present_intid r w x)))) (intid i % 32) (omega arith)
      ∙ ap (λ (j : Interrupt). bit_at old (intid i % 32) && not (secure_at s t j)) m))
  bit_there i nowhere m = refl

  present_there : (i : Interrupt) → implemented s there i ≡ (implemented s t i && non_secure (cell_of s t i))
  unfolding implemented secure_at
  present_there i =
      ap (λ (b : Bool). in_range s i && b) (bit_there i (home_of i) (marked i))
      ∙ by (in_range s i) (present_at t (intid i % 32) (home_of i)) (non_secure (cell_of s t i))
    where
      by : (a b n : Bool) → (a && (b && not ((a && b) && not n))) ≡ ((a && b) && n)
      by true true true = refl
      by true true false = refl
      by true false n = refl
      by false b n = refl

  side_there : (i : Interrupt) → non_secure (cell_of s there i) ≡ non_secure (cell_of s t i)
  unfolding non_secure cell_of decode
  side_there i = ap (has Group) (record_there (home_of i))

  pub owned_there : (i : Interrupt) → owned (cell_of s (without_secure s t) i) ≡ owned (cell_of s t i)
  owned_there i =
      owned_here s there i
      ∙ (ap₂ ◌&&◌ (present_there i) (side_there i) ∙ (by (implemented s t i) (non_secure (cell_of s t i)) ∙ sym (owned_here s t i)))
    where
      by : (a n : Bool) → ((a && n) && n) ≡ (a && n)
      by true true = refl
      by true false = refl
      by false n = refl

  pub none_secure : (i : Interrupt) → secure_at s (without_secure s t) i ≡ false
  unfolding secure_at
  none_secure i =
      ap₂ (λ (a n : Bool). a && not n) (present_there i) (side_there i) ∙ by (implemented s t i) (non_secure (cell_of s t i))
    where
      by : (a n : Bool) → ((a && n) && not n) ≡ false
      by true true = refl
      by true false = refl
      by false n = refl

  same_there : (i : Interrupt) → owned (cell_of s t i) ≡ true → cell_of s t i ≡ cell_of s there i
  unfolding cell_of
  same_there i o =
      let both = sym (owned_here s t i) ∙ o in
      ap₂ decode (and_left (implemented s t i) _ both ∙ sym (present_there i ∙ both)) (sym (record_there (home_of i)))

  indistinct_there : Indistinct s t there
  indistinct_there =
      record {
        first = well;
        second = well_there;
        same = λ i. alike_glimpse (cell_of s t i) (cell_of s there i) (sym (owned_there i)) (same_there i);
      }

  -- CLAUSE 2: a run on the tables, and the same without its private steps on the table where no Secure interrupt exists ..
  pub as_if_none : (r : List (Item Step)) → Run s t r
      → Run s (without_secure s t) (without_private r) × Same s t r (without_secure s t) (without_private r)
  as_if_none = deleted_indistinct s t there indistinct_there

  -- .. or with that table's own private steps
  pub as_if_none_private : (r r' : List (Item Step)) → without_private r ≡ without_private r' → Run s t r → Run s (without_secure s t) r'
      → Same s t r (without_secure s t) r'
  as_if_none_private = runs_indistinct s t there indistinct_there
