-- DOCUMENT 01'S PRIVATE SECURE STEPS, by name and at their offsets, are private.
--   spared_word    a set or clear write at any listed word, with no 1 at what is owned
--   secure_word    a field write at any listed word whose interrupts are none of them owned
--   private_list   all of the list
use Rattle.std.specs.Prelude.{Ok}
use mathlib.Core.Path.{◌≡◌, refl, sym, ap, ◌∙◌}
use mathlib.Core.Bool.{Bool, true, false, cond}
use Prim.Native.Nat.{ℕ, ◌+◌, ◌*◌, ◌-◌, ◌/◌, ◌%◌, ◌^◌, ◌≤◌, ◌<◌}
use native.Mathlib.Omega.{arith}
use lib.Dec.{eqb}
use Rattle.lists.specs.Word.{bit_at, digit_at}
use Rattle.lists.proofs.Bools.{clash}
use Rattle.types.specs.declared.Frame.{Frame}
use Rattle.types.specs.declared.Frame.TheVariants.{Dist, Redist}
use Rattle.types.specs.declared.Shape.{Shape}
use Rattle.types.specs.declared.Side.{Side}
use Rattle.types.specs.declared.Side.TheVariants.{Secure}
use Rattle.types.specs.declared.Way.{Way}
use Rattle.types.specs.declared.Way.TheVariants.{Read, Write}
use Rattle.types.specs.declared.Access.{Access}
use Rattle.types.specs.declared.Kind.TheVariants.{Switched, Trigger}
use Rattle.types.specs.declared.Switch.{Switch}
use Rattle.types.specs.declared.Switch.TheVariants.{Enable, Pending, Active}
use Rattle.types.specs.declared.Family.{Family}
use Rattle.types.specs.declared.Family.TheVariants.{Isenabler, Icenabler, Ispendr, Icpendr, Isactiver, Icactiver, Icfgr}
use Rattle.types.specs.declared.Message.{Message}
use Rattle.types.specs.declared.Message.TheVariants.{SetspiNsr, ClrspiNsr, SetspiSr, ClrspiSr}
use Rattle.types.specs.declared.Place.{Place}
use Rattle.types.specs.declared.Place.TheVariants as place
use Rattle.types.specs.declared.Window.{Window}
use Rattle.types.specs.declared.Event.TheVariants.{Wire, Activate, Deactivate}
use Rattle.meaning.specs.Interrupt.{Interrupt, shared, own, intid, interrupt}
use Rattle.meaning.specs.Cell.{owned}
use Rattle.meaning.specs.Registers.{row_of, kind_of, bits_of, per_word, in_column, in_messages, low, listed}
use Rattle.meaning.specs.Registers.{place_of, written_value, window, target_of, names}
use Rattle.meaning.specs.Rule.{access, Deed, idle, write, send, write_to, accessed, deed_of, addresses, aims, performed, act}
use Rattle.meaning.specs.Step.{Cells}
use Rattle.meaning.proofs.Choices.{no_true}
use Rattle.meaning.proofs.Sides.{on_guard, tells_side, rewrites}
use Rattle.meaning.proofs.Aims.{unaimed_left, addressed, word_quiet, named_low, named_high, named_here}
use Rattle.separation.specs.Steps.{glimpse, PrivateStep}
use Rattle.separation.specs.Private.{secure_write, Spares, AllSecure, SetOrClear, FieldWrites, MessageWrites, PrivateList}
use Rattle.separation.specs.ReadBack.{ListedAt}
use Rattle.separation.proofs.Steps.{quietly, event_private}
use Rattle.separation.proofs.Answered.{column, listed_placed}
use Rattle.separation.proofs.Unchanging.{unchanging, refused_step, a_read, typer_write}

-- a Secure write to a place
secure_deed : (a : Access) (p : Place) → a.side ≡ Secure → a.way ≡ Write → place_of a ≡ Ok p
    → deed_of (access a) ≡ write_to Secure (written_value a) (target_of p)
unfolding deed_of
secure_deed a p h w e =
    ap (accessed a) e
    ∙ (ap (λ (x : Way). elim x as (λ z. Deed) [ Read ↦ idle | Write ↦ write_to a.side (written_value a) (target_of p) ]) w
    ∙ ap (λ (x : Side). write_to x (written_value a) (target_of p)) h)

one_bit : (v x : ℕ) → eqb (digit_at 1 x v) 1 ≡ bit_at v x
unfolding digit_at bit_at
one_bit v x = let e : 1 * x ≡ x = omega arith in ap (λ (k : ℕ). eqb (v / 2 ^ k % 2) 1) e

module _ (s : Shape) (cells : Cells) where
  -- THE REGISTER WORDS: one at offset o of the frame r, with `count` digits from the interrupt `first` on
  module _ (r : Frame) (o : ℕ) (p : Place) (at : ListedAt r o p) (f : Family) (first count : ℕ) (is : target_of p ≡ window r f first count)
      (v : ℕ) where
    abbrev w : Window
    w = record { frame = r; family = f; first = first; count = count }

    word_deed : deed_of (secure_write r 4 o v) ≡ write Secure w v
    unfolding written_value
    word_deed = secure_deed _ p refl refl (listed_placed r o p at Secure Write v) ∙ ap (write_to Secure v) is

    by_deed : ((i : Interrupt) → glimpse (performed s (write Secure w v) i (cells i)) ≡ glimpse (cells i))
        → PrivateStep s cells (secure_write r 4 o v)
    unfolding act
    by_deed h i = ap (λ (d : Deed). glimpse (performed s d i (cells i))) word_deed ∙ h i

    -- with no 1 at what is owned, a set or clear write leaves that
    pub spared_word : (on : Bool) (b : Switch) → kind_of f ≡ Switched on b → bits_of f ≡ 1 → count ≤ 32
        → Spares cells (λ x. interrupt r (first + x)) v → PrivateStep s cells (secure_write r 4 o v)
    unfolding rewrites
    spared_word on b kind bits small spares =
        by_deed
        (λ i.
        quietly s cells (write Secure w v) i (ap (on_guard tells_side) kind)
        (λ mine. word_quiet s Secure w v i (cells i) on b kind (λ n. zero i n mine)))
      where
        bit_digit : (x : ℕ) → eqb (digit_at (bits_of f) x v) 1 ≡ bit_at v x
        bit_digit x = ap (λ (k : ℕ). eqb (digit_at k x v) 1) bits ∙ one_bit v x

        zero : (i : Interrupt) → names w i ≡ true → owned (cells i) ≡ true → eqb (digit_at (bits_of f) (intid i - first) v) 1 ≡ false
        zero i n mine =
            let lo = named_low w i n in
            let hi = named_high w i n in
            let x = intid i - first in
            let back : first + x ≡ intid i = omega arith in
            let here = ap (interrupt r) back ∙ named_here w i n in
            bit_digit x ∙ spares x (omega arith) (ap (λ (j : Interrupt). owned (cells j)) here ∙ mine)

    -- where none of its interrupts is owned, a field write leaves what is
    pub secure_word : kind_of f ≡ Trigger → count ≤ 16 → AllSecure cells (λ x. interrupt r (first + x))
        → PrivateStep s cells (secure_write r 4 o v)
    unfolding rewrites aims
    secure_word kind small all =
        by_deed
        (λ i.
        quietly s cells (write Secure w v) i (ap (on_guard tells_side) kind)
        (λ mine. unaimed_left s (write Secure w v) i (cells i) (no_true (names w i) (λ n. clash mine (none i n)))))
      where
        none : (i : Interrupt) → names w i ≡ true → owned (cells i) ≡ false
        none i n =
            let lo = named_low w i n in
            let hi = named_high w i n in
            let x = intid i - first in
            let back : first + x ≡ intid i = omega arith in
            sym (ap (λ (j : Interrupt). owned (cells j)) (ap (interrupt r) back ∙ named_here w i n)) ∙ all x (omega arith)

  -- THE MESSAGE REGISTERS
  message : (a : Access) (g : Message) (v : ℕ) → deed_of (access a) ≡ send Secure g v → owned (cells (shared (v % 8192))) ≡ false
      → PrivateStep s cells (access a)
  unfolding act rewrites aims
  message a g v e h i =
      ap (λ (d : Deed). glimpse (performed s d i (cells i))) e
      ∙ quietly s cells (send Secure g v) i refl
      (λ o.
      unaimed_left s (send Secure g v) i (cells i)
      (no_true (addresses s v i) (λ t. clash o (ap (λ (j : Interrupt). owned (cells j)) (addressed s v i t) ∙ h))))

-- A SET OR CLEAR FAMILY, where its columns are listed
module _ (s : Shape) (f : Family) (on : Bool) (b : Switch) (kind : kind_of f ≡ Switched on b) (bits : bits_of f ≡ 1) (per : per_word f ≡ 32)
    (base extended : ℕ) (dist-at : (n : ℕ) → n < 32 → ListedAt Dist (base + 4 * n) (place.Word Dist f n))
    (extended_at : (n : ℕ) → n < 32 → ListedAt Dist (extended + 4 * n) (place.Extended Dist f n))
    (redist-at : ListedAt Redist base (place.Word Redist f 0))
    (own_at : (n : ℕ) → n < 2 → ListedAt Redist (base + 4 + 4 * n) (place.Extended Redist f (n + 1))) where
  low_count : (n : ℕ) → cond (low (32 * n)) 0 32 ≤ 32
  low_count n = by (low (32 * n))
    where
      by : (x : Bool) → cond x 0 32 ≤ 32
      by true = omega arith
      by false = omega arith

  set_or_clear : SetOrClear s base extended
  unfolding target_of
  set_or_clear =
      record {
        dist = λ cells n v l h.
            spared_word s cells Dist (base + 4 * n) _ (dist-at n l) f (32 * n) (cond (low (32 * n)) 0 32)
            (ap (λ (m : ℕ). window Dist f (m * n) (cond (low (m * n)) 0 m)) per) v on b kind bits (low_count n) h;
        dist_extended = λ cells n v l h.
            spared_word s cells Dist (extended + 4 * n) _ (extended_at n l) f (4096 + 32 * n) 32
            (ap (λ (m : ℕ). window Dist f (4096 + m * n) m) per) v on b kind bits (omega arith) h;
        redist = λ cells v h.
            spared_word s cells Redist base _ redist-at f 0 32 (ap (λ (m : ℕ). window Redist f (m * 0) m) per) v on b kind bits
            (omega arith)
            (λ x l mine. h x l (let e : x ≡ 0 + x = omega arith in ap (λ (m : ℕ). owned (cells (own m))) e ∙ mine));
        redist_extended = λ cells n v l h.
            spared_word s cells Redist (base + 4 + 4 * n) _ (own_at n l) f (1056 + 32 * n) 32
            (ap (λ (m : ℕ). window Redist f (1024 + m * (n + 1)) m) per
            ∙ (let e : 1024 + 32 * (n + 1) ≡ 1056 + 32 * n = omega arith in ap (λ (m : ℕ). window Redist f m 32) e))
            v on b kind bits (omega arith) h;
      }

isenabler : (s : Shape) → SetOrClear s 0x100 0x1200
unfolding listed in_column row_of
isenabler s =
    set_or_clear s Isenabler true Enable refl refl refl 0x100 0x1200
    (column Dist 0x100 32 (place.Word Dist Isenabler) refl (omega arith) refl)
    (column Dist 0x1200 32 (place.Extended Dist Isenabler) refl (omega arith) refl)
    (column Redist 0x100 1 (place.Word Redist Isenabler) refl (omega arith) refl 0 (omega arith))
    (column Redist 0x104 2 (λ n. place.Extended Redist Isenabler (n + 1)) refl (omega arith) refl)

icenabler : (s : Shape) → SetOrClear s 0x180 0x1400
unfolding listed in_column row_of
icenabler s =
    set_or_clear s Icenabler false Enable refl refl refl 0x180 0x1400
    (column Dist 0x180 32 (place.Word Dist Icenabler) refl (omega arith) refl)
    (column Dist 0x1400 32 (place.Extended Dist Icenabler) refl (omega arith) refl)
    (column Redist 0x180 1 (place.Word Redist Icenabler) refl (omega arith) refl 0 (omega arith))
    (column Redist 0x184 2 (λ n. place.Extended Redist Icenabler (n + 1)) refl (omega arith) refl)

ispendr : (s : Shape) → SetOrClear s 0x200 0x1600
unfolding listed in_column row_of
ispendr s =
    set_or_clear s Ispendr true Pending refl refl refl 0x200 0x1600
    (column Dist 0x200 32 (place.Word Dist Ispendr) refl (omega arith) refl)
    (column Dist 0x1600 32 (place.Extended Dist Ispendr) refl (omega arith) refl)
    (column Redist 0x200 1 (place.Word Redist Ispendr) refl (omega arith) refl 0 (omega arith))
    (column Redist 0x204 2 (λ n. place.Extended Redist Ispendr (n + 1)) refl (omega arith) refl)

icpendr : (s : Shape) → SetOrClear s 0x280 0x1800
unfolding listed in_column row_of
icpendr s =
    set_or_clear s Icpendr false Pending refl refl refl 0x280 0x1800
    (column Dist 0x280 32 (place.Word Dist Icpendr) refl (omega arith) refl)
    (column Dist 0x1800 32 (place.Extended Dist Icpendr) refl (omega arith) refl)
    (column Redist 0x280 1 (place.Word Redist Icpendr) refl (omega arith) refl 0 (omega arith))
    (column Redist 0x284 2 (λ n. place.Extended Redist Icpendr (n + 1)) refl (omega arith) refl)

isactiver : (s : Shape) → SetOrClear s 0x300 0x1A00
unfolding listed in_column row_of
isactiver s =
    set_or_clear s Isactiver true Active refl refl refl 0x300 0x1A00
    (column Dist 0x300 32 (place.Word Dist Isactiver) refl (omega arith) refl)
    (column Dist 0x1A00 32 (place.Extended Dist Isactiver) refl (omega arith) refl)
    (column Redist 0x300 1 (place.Word Redist Isactiver) refl (omega arith) refl 0 (omega arith))
    (column Redist 0x304 2 (λ n. place.Extended Redist Isactiver (n + 1)) refl (omega arith) refl)

icactiver : (s : Shape) → SetOrClear s 0x380 0x1C00
unfolding listed in_column row_of
icactiver s =
    set_or_clear s Icactiver false Active refl refl refl 0x380 0x1C00
    (column Dist 0x380 32 (place.Word Dist Icactiver) refl (omega arith) refl)
    (column Dist 0x1C00 32 (place.Extended Dist Icactiver) refl (omega arith) refl)
    (column Redist 0x380 1 (place.Word Redist Icactiver) refl (omega arith) refl 0 (omega arith))
    (column Redist 0x384 2 (λ n. place.Extended Redist Icactiver (n + 1)) refl (omega arith) refl)

-- THE FIELDS
icfgr : (s : Shape) → FieldWrites s
unfolding listed in_column row_of target_of
icfgr s =
    record {
      dist = λ cells n v l h.
          secure_word s cells Dist (0xC00 + 4 * n) _ (column Dist 0xC00 64 (place.Word Dist Icfgr) refl (omega arith) refl n l) Icfgr
          (16 * n) (cond (low (16 * n)) 0 16) refl v refl (low_fields n) h;
      dist_extended = λ cells n v l h.
          secure_word s cells Dist (0x3000 + 4 * n) _ (column Dist 0x3000 64 (place.Extended Dist Icfgr) refl (omega arith) refl n l) Icfgr
          (4096 + 16 * n) 16 refl v refl (omega arith) h;
      redist = λ cells n v l h.
          secure_word s cells Redist (0xC00 + 4 * n) _ (column Redist 0xC00 2 (place.Word Redist Icfgr) refl (omega arith) refl n l) Icfgr
          (16 * n) 16 refl v refl (omega arith) h;
      redist_extended = λ cells n v l h.
          secure_word s cells Redist (0xC08 + 4 * n) _
          (column Redist 0xC08 4 (λ k. place.Extended Redist Icfgr (k + 2)) refl (omega arith) refl n l) Icfgr (1056 + 16 * n) 16
          (let e : 1024 + 16 * (n + 2) ≡ 1056 + 16 * n = omega arith in ap (λ (m : ℕ). window Redist Icfgr m 16) e)
          v refl (omega arith) h;
    }
  where
    low_fields : (n : ℕ) → cond (low (16 * n)) 0 16 ≤ 16
    low_fields n = by (low (16 * n))
      where
        by : (x : Bool) → cond x 0 16 ≤ 16
        by true = omega arith
        by false = omega arith

-- THE MESSAGES
message_writes : (s : Shape) (g : Message) (o : ℕ)
    → ((v : ℕ) → place_of (record { frame = Dist; side = Secure; way = Write; width = 4; offset = o; value = v }) ≡ Ok (place.Message g))
    → ((v : ℕ) → place_of (record { frame = Dist; side = Secure; way = Write; width = 2; offset = o; value = v }) ≡ Ok (place.Message g))
    → MessageWrites s o
unfolding target_of written_value
message_writes s g o wide narrow =
    record {
      word = λ cells v h. message s cells _ g v (secure_deed _ (place.Message g) refl refl (wide v)) h;
      half = λ cells v h.
          let e : v % 65536 % 8192 ≡ v % 8192 = omega arith in
          message s cells _ g (v % 65536) (secure_deed _ (place.Message g) refl refl (narrow v))
          (ap (λ (m : ℕ). owned (cells (shared m))) e ∙ h);
    }

-- THE LIST
pub private_list : (s : Shape) → PrivateList s
unfolding place_of listed in_column in_messages row_of
private_list s =
    record {
      isenabler = isenabler s;
      icenabler = icenabler s;
      ispendr = ispendr s;
      icpendr = icpendr s;
      isactiver = isactiver s;
      icactiver = icactiver s;
      icfgr = icfgr s;
      setspi_nsr = message_writes s SetspiNsr 0x040 (λ v. refl) (λ v. refl);
      clrspi_nsr = message_writes s ClrspiNsr 0x048 (λ v. refl) (λ v. refl);
      setspi_sr = message_writes s SetspiSr 0x050 (λ v. refl) (λ v. refl);
      clrspi_sr = message_writes s ClrspiSr 0x058 (λ v. refl) (λ v. refl);
      wire = λ cells m level h. event_private s cells (Wire level) m h;
      activation = λ cells m h. event_private s cells (Activate Secure) m h;
      deactivation = λ cells m h. event_private s cells (Deactivate Secure) m h;
      reads = λ cells a h. a_read s cells a h;
      refused = λ cells q r h. refused_step s cells q r h;
      typer = λ cells v. typer_write s cells _ refl;
      unchanging = λ cells q h. unchanging s cells q h;
    }
