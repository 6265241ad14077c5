-- What the layers above ask of a family's numbers.
--   all_families   what holds of each of the nine families holds of every family
--   tidy           what the table's rows have in common
--   few_words      so the Redistributor's words of a family are few,
--   few_digits     and the digits before a word are
use mathlib.Core.Path.{◌≡◌, refl}
use mathlib.Core.List.{List, [], ◌∷◌}
use Prim.Native.Nat.{ℕ, ◌+◌, ◌*◌, ◌%◌, ◌≤◌, ◌<◌}
use native.Mathlib.Omega.{arith}
use Rattle.types.specs.declared.Kind.{Kind}
use Rattle.types.specs.declared.Row.{Row}
use Rattle.types.specs.declared.Family.{Family}
use Rattle.types.specs.declared.Family.TheVariants.{Igroupr, Isenabler, Icenabler, Ispendr, Icpendr}
use Rattle.types.specs.declared.Family.TheVariants.{Isactiver, Icactiver, Igrpmodr, Icfgr}
use Rattle.meaning.specs.Registers.{family, families, row_of}

abbrev pub All : (Family → Type 0) → List Family → Type 0
All P [] = Unit
All P (f ∷ fs) = P f × All P fs

pub all_families : (P : Family → Type 0) → All P families → (f : Family) → P f
all_families P h Igroupr = h.0
all_families P h Isenabler = h.1.0
all_families P h Icenabler = h.1.1.0
all_families P h Ispendr = h.1.1.1.0
all_families P h Icpendr = h.1.1.1.1.0
all_families P h Isactiver = h.1.1.1.1.1.0
all_families P h Icactiver = h.1.1.1.1.1.1.0
all_families P h Igrpmodr = h.1.1.1.1.1.1.1.0
all_families P h Icfgr = h.1.1.1.1.1.1.1.1.0

pub record Tidy (r : Row) : Type 0 where
  -- its words are few and end within the first 4 KiB, and the Redistributor has no more of them
  pub words : r.words ≤ 64
  pub ends : r.base + 4 * r.words ≤ 4096
  pub redist : r.redist ≤ r.words
  -- its extended words are few and begin at a multiple of 512
  pub extras : r.extras ≤ 64
  pub start : r.extended % 512 ≡ 0
  -- 32 bits have a word's digits, and one block of 32 has its INTIDs, which are small numbers
  pub digits : r.per * r.bits ≤ 32
  pub block : (n : ℕ) → (r.per * n) % 32 + r.per ≤ 32
  pub first : (n : ℕ) → n < 64 → r.per * n < 2048

-- a row of one-bit digits
single : (k : Kind) (o e : ℕ) → o + 128 ≤ 4096 → e % 512 ≡ 0 → Tidy (family k 1 o 32 e 32 3)
single k o e h m =
    record {
      words = omega arith;
      ends = h;
      redist = omega arith;
      extras = omega arith;
      start = m;
      digits = omega arith;
      block = λ n. omega arith;
      first = λ n l. omega arith;
    }

pub tidy : (f : Family) → Tidy (row_of f)
unfolding row_of
tidy Igroupr = single _ _ _ (omega arith) refl
tidy Isenabler = single _ _ _ (omega arith) refl
tidy Icenabler = single _ _ _ (omega arith) refl
tidy Ispendr = single _ _ _ (omega arith) refl
tidy Icpendr = single _ _ _ (omega arith) refl
tidy Isactiver = single _ _ _ (omega arith) refl
tidy Icactiver = single _ _ _ (omega arith) refl
tidy Igrpmodr = single _ _ _ (omega arith) refl
tidy Icfgr =
    record {
      words = omega arith;
      ends = omega arith;
      redist = omega arith;
      extras = omega arith;
      start = refl;
      digits = omega arith;
      block = λ n. omega arith;
      first = λ n l. omega arith;
    }

pub few_words : (f : Family) → (row_of f).redist ≤ 64
few_words f = let t = tidy f in omega arith

pub few_digits : (f : Family) (n : ℕ) → n < 64 → (row_of f).per * n < 2048
few_digits f = (tidy f).first
