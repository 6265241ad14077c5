-- The place of the word at an offset is the one that the meaning lists there (`agree`).
--   within   in the first 4 KiB, by one computation a frame over the whole map
--   beyond   past them, where the Distributor's extended words are all that is listed
use mathlib.Core.Path.{◌≡◌, refl, sym, ap, ◌∙◌}
use mathlib.Core.Bool.{cond}
use mathlib.Core.List.{List, [], ◌∷◌}
use Prim.Native.Nat.{ℕ, ◌*◌, ◌-◌, ◌/◌, ◌%◌, ◌≤◌, ◌<◌}
use native.Mathlib.Omega.{arith}
use lib.Dec.{eqb, ltb}
use borrow.Author.Tests.{ne_eqb, lt-ltb, le-ltb, ltb-true, ltb-false, eqb-true}
use Rattle.std.specs.Prelude.{Option, Some, None, Ok, Err, ok_or}
use Rattle.lists.proofs.Tables.{tabulate_same}
use Rattle.types.specs.declared.Frame.{Frame}
use Rattle.types.specs.declared.Frame.TheVariants.{Dist, Redist}
use Rattle.types.specs.declared.Family.{Family}
use Rattle.types.specs.declared.Place.{Place}
use Rattle.types.specs.declared.Place.TheVariants as place
use Rattle.types.specs.declared.Refusal.TheVariants as refusal
use Rattle.meaning.specs.Answers.{Decoded}
use Rattle.meaning.specs.Registers.{row_of, families, messages, redist_place, in_column, in_messages, listed}
use Rattle.register_families.proofs.Rows.{all_families, tidy}
use Rattle.register_map.specs.Map.{entry_of, entry_at}
use Rattle.register_list.specs.Entry.{extended_from, word_at, place_in, extended_in, place_beyond, place_at}
use Rattle.meaning.proofs.Choices.{chosen}
use Rattle.register_list.proofs.Columns.{NotIn, column, column_past}

abbrev unlisted : Decoded
unlisted = Err refusal.Unlisted

-- a place, or refusal 5
abbrev found : Option Place → Decoded
found p = ok_or p refusal.Unlisted

within : (r : Frame) (k : ℕ) → k < 1024 → found (place_in r (entry_at k) (4 * k)) ≡ listed r (4 * k)
unfolding place_in entry_at entry_of listed in_column in_messages row_of
within Dist k h = tabulate_same (λ j. found (place_in Dist (entry_at j) (4 * j))) (λ j. listed Dist (4 * j)) 1024 refl k h
within Redist k h = tabulate_same (λ j. found (place_in Redist (entry_at j) (4 * j))) (λ j. listed Redist (4 * j)) 1024 refl k h

-- the column of the extended words
abbrev ext : Family → ℕ
ext f = (row_of f).extended

abbrev extras : Family → ℕ
extras f = (row_of f).extras

-- each family is found where its extended words begin
starts : (f : Family) → extended_from (ext f) families ≡ Some f
unfolding extended_from row_of
starts =
    all_families (λ f. extended_from (ext f) families ≡ Some f)
    (refl, (refl, (refl, (refl, (refl, (refl, (refl, (refl, (refl, tt)))))))))

-- what holds of the families whose extended words begin at o, and of none, holds of what is found
begun : (P : Option Family → Type 0) (o : ℕ) → ((f : Family) → o ≡ ext f → P (Some f)) → P None
    → (fs : List Family) → P (extended_from o fs)
unfolding extended_from
begun P o h k [] = k
begun P o h k (f ∷ fs) = chosen P (eqb o (ext f)) _ _ (λ t. h f (eqb-true o (ext f) t)) (λ t. begun P o h k fs)

extended : (o : ℕ) → found (place_beyond Dist o) ≡ in_column ext extras (place.Extended Dist) o families unlisted
unfolding place_beyond
extended o =
    column ext extras (place.Extended Dist) o unlisted (λ d. found (extended_in (extended_from (o - o % 512) families) o) ≡ d)
    (λ f l u.
    let t = tidy f in
    let e : o - o % 512 ≡ ext f = omega arith in rw (e, starts f, lt-ltb (word_at (ext f) o) (extras f) (omega arith)))
    families
    (λ n. begun (λ e. found (extended_in e o) ≡ unlisted) (o - o % 512)
    (λ f e.
    let out = all_families (NotIn ext extras o) n f (omega arith) in rw (le-ltb (word_at (ext f) o) (extras f) (omega arith)))
    refl families)

singles : (o : ℕ) → 4096 ≤ o → cond (eqb o 0x004) (Ok place.Typer) (in_messages o messages unlisted) ≡ unlisted
unfolding in_messages
singles o h =
    rw (ne_eqb o 0x004 (λ e. omega arith), ne_eqb o 0x040 (λ e. omega arith), ne_eqb o 0x048 (λ e. omega arith))
    (rw (ne_eqb o 0x050 (λ e. omega arith), ne_eqb o 0x058 (λ e. omega arith)))

beyond : (r : Frame) (o : ℕ) → 4096 ≤ o → found (place_beyond r o) ≡ listed r o
unfolding listed place_beyond
beyond Dist o h =
    extended o
    ∙ sym (column_past (λ f. (row_of f).base) (λ f. (row_of f).words) (place.Word Dist) o _ (λ f. let t = tidy f in omega arith) families
    ∙ ap (λ (d : Decoded). in_column ext extras (place.Extended Dist) o families d) (singles o h))
beyond Redist o h =
    sym (column_past (λ f. (row_of f).base) (λ f. (row_of f).redist) redist_place o _ (λ f. let t = tidy f in omega arith) families)

pub agree : (r : Frame) (o : ℕ) → o % 4 ≡ 0 → ok_or (place_at r o) refusal.Unlisted ≡ listed r o
unfolding place_at
agree r o h =
    chosen (λ (p : Option Place). found p ≡ listed r o) (ltb o 4096) _ _
    (λ t. let l = ltb-true o 4096 t in let e : 4 * (o / 4) ≡ o = omega arith in rw e at (within r (o / 4) (omega arith)))
    (λ t. beyond r o (ltb-false o 4096 t))
