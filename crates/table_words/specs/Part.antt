-- The records behind one register word: what a read gathers of them, and what a write leaves in them. `at` names the interrupts whose
-- records they are: of those the rules ask no more than which are SGIs.
use Rattle.std.specs.Prelude.{◌≡◌, List, ℕ, ◌+◌, ◌*◌, ◌≤◌, ◌<◌, ltb, length, get_or}
use Rattle.lists.specs.Map.{map_from}
use Rattle.lists.specs.Word.{bit_at, digit_at, row}
use Rattle.types.specs.declared.Shape.{Shape}
use Rattle.types.specs.declared.Kind.{Kind}
use Rattle.meaning.specs.Interrupt.{Interrupt, sgi}
use Rattle.meaning.specs.Cell.{decode, encode}
use Rattle.meaning.specs.Registers.{kind_of, bits_of}
use Rattle.meaning.specs.Rule.{visible}
use Rattle.record_writes.specs.Touched.{touched}
use Rattle.table_words.specs.declared.Word.{Word}

-- a part that a 32-bit word has digits for, of INTIDs that are numbers of this controller
pub record FitsWord (w : Word) (part : List ℕ) : Type 0 where
  pub digits : length part * bits_of w.family ≤ 32
  pub numbers : w.first ≤ 8192

-- so its record x has its digit inside the word
pub record DigitInside (w : Word) (x : ℕ) : Type 0 where
  pub digit : bits_of w.family + bits_of w.family * x ≤ 32
  pub place : x < 32
  pub number : w.first + x < 8224

-- i is an SGI where its INTID m is below 16
abbrev pub Named : ℕ → Interrupt → Type 0
Named m i = sgi i ≡ ltb m 16

-- n interrupts, by their INTIDs from the first on
abbrev pub Numbered : ℕ → ℕ → (ℕ → Interrupt) → Type 0
Numbered n first at = (x : ℕ) → x < n → Named (first + x) (at x)

-- A fact of whichever interrupts it may be: the one of record x, and those of a part.
abbrev pub OfDigit : Word → ℕ → (Shape → (ℕ → Interrupt) → Type 0) → Type 0
OfDigit w x P = (s : Shape) (at : ℕ → Interrupt) → Named (w.first + x) (at x) → P s at

abbrev pub OfPart : Word → List ℕ → (Shape → (ℕ → Interrupt) → Type 0) → Type 0
OfPart w part P = (s : Shape) (at : ℕ → Interrupt) → Numbered (length part) w.first at → P s at

-- the digit that the word shows of record x
unfoldable pub shown_at : Shape → (ℕ → Interrupt) → Word → ℕ → ℕ → ℕ
shown_at s at w x byte = visible s w.side (kind_of w.family) (at x) (decode (bit_at w.implemented x) byte)

unfoldable pub gathered : Shape → (ℕ → Interrupt) → Word → List ℕ → ℕ
gathered s at w part = row (bits_of w.family) (length part) (λ x. shown_at s at w x (get_or part x 0))

-- record x after the digit d was written for it, by a word of kind k
abbrev pub digit_stored : Shape → (ℕ → Interrupt) → Word → Kind → ℕ → ℕ → ℕ → ℕ
digit_stored s at w k d x byte = encode (touched s w.side k d (at x) (decode (bit_at w.implemented x) byte))

-- record x after a write of v
unfoldable pub stored_at : Shape → (ℕ → Interrupt) → Word → ℕ → ℕ → ℕ → ℕ
stored_at s at w v x byte = digit_stored s at w (kind_of w.family) (digit_at (bits_of w.family) x v) x byte

unfoldable pub stored : Shape → (ℕ → Interrupt) → Word → ℕ → List ℕ → List ℕ
stored s at w v part = map_from 0 (stored_at s at w v) part
