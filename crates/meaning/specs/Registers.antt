-- The listed registers and where an access goes: document 01's "Listed registers" and refusals 2 to 6.
use Rattle.std.specs.Prelude.{Bool, true, false, cond, not, ◌&&◌, ◌||◌, List, [], ◌∷◌, ℕ, ◌+◌, ◌*◌, ◌-◌, ◌/◌, ◌%◌, eqb, ltb, Ok, Err}
use Rattle.types.specs.declared.Frame.{Frame}
use Rattle.types.specs.declared.Frame.TheVariants.{Dist, Redist}
use Rattle.types.specs.declared.Access.{Access}
use Rattle.types.specs.declared.Switch.TheVariants.{Enable, Pending, Active}
use Rattle.types.specs.declared.Guard.TheVariants.{Group, Modifier}
use Rattle.types.specs.declared.Kind.{Kind}
use Rattle.types.specs.declared.Kind.TheVariants.{Switched, Guarded, Trigger}
use Rattle.types.specs.declared.Row.{Row}
use Rattle.types.specs.declared.Family.{Family}
use Rattle.types.specs.declared.Family.TheVariants.{Igroupr, Isenabler, Icenabler, Ispendr, Icpendr, Isactiver, Icactiver, Igrpmodr}
use Rattle.types.specs.declared.Family.TheVariants.{Icfgr}
use Rattle.types.specs.declared.Message.{Message}
use Rattle.types.specs.declared.Message.TheVariants.{SetspiNsr, ClrspiNsr, SetspiSr, ClrspiSr}
use Rattle.types.specs.declared.Place.{Place}
use Rattle.types.specs.declared.Place.TheVariants as place
use Rattle.types.specs.declared.Refusal.TheVariants as refusal
use Rattle.types.specs.declared.Window.{Window}
use Rattle.types.specs.declared.Target.{Target}
use Rattle.types.specs.declared.Target.TheVariants as target
use Rattle.meaning.specs.Answers.{Decoded}
use Rattle.meaning.specs.Interrupt.{Interrupt, intid, in_frame, between}

-- A row: what a digit is and how many bits it has; offset and number of the words in the Distributor frame, of the extended ones
-- there; how many words the Redistributor has, from the first of these offsets on.
abbrev pub family : Kind → ℕ → ℕ → ℕ → ℕ → ℕ → ℕ → Row
family k b o n e x r = record { kind = k; bits = b; per = 32 / b; base = o; words = n; extended = e; extras = x; redist = r }

-- THE TABLE
unfoldable pub row_of : Family → Row
row_of Igroupr = family (Guarded Group) 1 0x080 32 0x1000 32 3
row_of Isenabler = family (Switched true Enable) 1 0x100 32 0x1200 32 3
row_of Icenabler = family (Switched false Enable) 1 0x180 32 0x1400 32 3
row_of Ispendr = family (Switched true Pending) 1 0x200 32 0x1600 32 3
row_of Icpendr = family (Switched false Pending) 1 0x280 32 0x1800 32 3
row_of Isactiver = family (Switched true Active) 1 0x300 32 0x1A00 32 3
row_of Icactiver = family (Switched false Active) 1 0x380 32 0x1C00 32 3
row_of Igrpmodr = family (Guarded Modifier) 1 0xD00 32 0x3400 32 3
row_of Icfgr = family Trigger 2 0xC00 64 0x3000 64 6

abbrev pub families : List Family
families = Igroupr ∷ Isenabler ∷ Icenabler ∷ Ispendr ∷ Icpendr ∷ Isactiver ∷ Icactiver ∷ Igrpmodr ∷ Icfgr ∷ []

abbrev pub kind_of : Family → Kind
kind_of f = (row_of f).kind

-- how many bits of a word an INTID has, and how many INTIDs a word has
abbrev pub bits_of : Family → ℕ
bits_of f = (row_of f).bits

abbrev pub per_word : Family → ℕ
per_word f = (row_of f).per

abbrev pub messages : List Message
messages = SetspiNsr ∷ ClrspiNsr ∷ SetspiSr ∷ ClrspiSr ∷ []

abbrev pub message_offset : Message → ℕ
message_offset SetspiNsr = 0x040
message_offset ClrspiNsr = 0x048
message_offset SetspiSr = 0x050
message_offset ClrspiSr = 0x058

-- the family of a column whose words, `many` from `from` on and 4 bytes apart, hold the word at o; `other` where none does
unfoldable pub in_column : (Family → ℕ) → (Family → ℕ) → (Family → ℕ → Place) → ℕ → List Family → Decoded → Decoded
in_column from many at o [] other = other
in_column from many at o (f ∷ fs) other =
    cond (between (from f) (from f + 4 * many f) o) (Ok (at f ((o - from f) / 4))) (in_column from many at o fs other)

unfoldable pub in_messages : ℕ → List Message → Decoded → Decoded
in_messages o [] other = other
in_messages o (g ∷ gs) other = cond (eqb o (message_offset g)) (Ok (place.Message g)) (in_messages o gs other)

-- a word that begins with an INTID below 32: word 0, and of ICFGR word 1
abbrev pub low : ℕ → Bool
low m = ltb m 32

-- The Redistributor's low words are its SGIs and PPIs, the others its extended PPIs.
abbrev pub redist_place : Family → ℕ → Place
redist_place f n = cond (low (per_word f * n)) (place.Word Redist f n) (place.Extended Redist f n)

-- the place of the word at an offset that is a multiple of 4
unfoldable pub listed : Frame → ℕ → Decoded
listed Redist o = in_column (λ f. (row_of f).base) (λ f. (row_of f).redist) redist_place o families (Err refusal.Unlisted)
listed Dist o =
    in_column (λ f. (row_of f).base) (λ f. (row_of f).words) (place.Word Dist) o families
    (in_column (λ f. (row_of f).extended) (λ f. (row_of f).extras) (place.Extended Dist) o families
    (cond (eqb o 0x004) (Ok place.Typer) (in_messages o messages (Err refusal.Unlisted))))

-- width 2 is for the message registers alone, at their own offset: x is the offset's distance from its aligned word
abbrev pub wide_enough : ℕ → ℕ → Place → Bool
wide_enough w x (place.Word r f n) = eqb w 4
wide_enough w x (place.Extended r f n) = eqb w 4
wide_enough w x place.Typer = eqb w 4
wide_enough w x (place.Message g) = eqb x 0

abbrev pub if_wide : ℕ → ℕ → Decoded → Decoded
if_wide w x (Err r) = Err r
if_wide w x (Ok p) = cond (wide_enough w x p) (Ok p) (Err refusal.Narrow)

-- Refusals 2 to 6, the first that applies; otherwise the place.
unfoldable pub place_of : Access → Decoded
place_of a =
    cond (not (eqb a.width 2 || eqb a.width 4)) (Err refusal.Width)
    (cond (not (eqb (a.offset % a.width) 0)) (Err refusal.Alignment)
    (cond (ltb 65535 a.offset) (Err refusal.Offset)
    (if_wide a.width (a.offset % 4) (listed a.frame (a.offset - a.offset % 4)))))

-- With width 2 the upper half of the value is ignored.
unfoldable pub written_value : Access → ℕ
written_value a = cond (eqb a.width 2) (a.value % 65536) a.value

-- THE WINDOW of a register word: its frame's interrupts from INTID m on, n of them. Digit x is INTID m + x.
abbrev pub window : Frame → Family → ℕ → ℕ → Target
window r f m n = target.Digits (record { frame = r; family = f; first = m; count = n })

-- What a place stands for. Bit x of word n is INTID 32n + x, 4096 + 32n + x, or 1024 + 32n + x; 16n in ICFGR. The Distributor's low
-- words are res0 because affinity routing is on: they have a digit of none.
unfoldable pub target_of : Place → Target
target_of (place.Word Dist f n) = window Dist f (per_word f * n) (cond (low (per_word f * n)) 0 (per_word f))
target_of (place.Word Redist f n) = window Redist f (per_word f * n) (per_word f)
target_of (place.Extended Dist f n) = window Dist f (4096 + per_word f * n) (per_word f)
target_of (place.Extended Redist f n) = window Redist f (1024 + per_word f * n) (per_word f)
target_of place.Typer = target.Typer
target_of (place.Message g) = target.Message g

-- the window has a digit of the interrupt i
unfoldable pub names : Window → Interrupt → Bool
names w i = in_frame w.frame i && between w.first (w.first + w.count) (intid i)
