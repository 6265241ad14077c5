-- K1 to K12 hold of the rule, for every interrupt: by computing at the interrupt that a step names, and elsewhere because it aims at none.
--   all_hold    the whole table, for every start of K10 and K11, every value of K10 and both sides
use mathlib.Core.Path.{◌≡◌, refl, sym, ap, subst, ◌∙◌}
use mathlib.Core.Bool.{Bool, true, false, cond}
use mathlib.Core.List.{[], ◌∷◌}
use Prim.Native.Nat.{ℕ, ◌≤◌, ◌<◌}
use native.Mathlib.Omega.{arith}
use borrow.Author.Tests.{le-ltb}
use Rattle.lists.specs.Word.{digit_at, row}
use Rattle.lists.proofs.Bools.{clash}
use Rattle.types.specs.declared.Frame.TheVariants.{Dist, Redist}
use Rattle.types.specs.declared.Side.{Side}
use Rattle.types.specs.declared.Side.TheVariants.{NonSecure}
use Rattle.types.specs.declared.Switch.TheVariants as switch
use Rattle.types.specs.declared.Family.TheVariants.{Ispendr, Icpendr, Icactiver}
use Rattle.types.specs.declared.Message.{Message}
use Rattle.types.specs.declared.Message.TheVariants.{SetspiNsr, ClrspiNsr}
use Rattle.types.specs.declared.Event.{Event}
use Rattle.types.specs.declared.Event.TheVariants.{Wire, Activate}
use Rattle.types.specs.declared.Window.{Window}
use Rattle.meaning.specs.Interrupt.{Interrupt, shared, own, intid, same, named, frame_of, sgi}
use Rattle.meaning.specs.Cell.{Cell, get, put, decode, non_secure, edge_of, pending}
use Rattle.meaning.specs.Layout.{in_range}
use Rattle.meaning.specs.Registers.{row_of, in_column, in_messages, listed, place_of, written_value, target_of, names}
use Rattle.meaning.specs.Rule.{Step, happens, write, send, happen, deed_of, sees, may_touch, reaches, switched, update}
use Rattle.meaning.specs.Rule.{shows, visible, addresses, may_send, sent, event_answer, happened, aims, admits, effect, performed, act}
use Rattle.meaning.specs.Step.{answer, word_read, read, typer}
use Rattle.meaning.specs.Cases.{bench, Records, present, naming, ◌is◌, from, writes, cases, Hold}
use Rattle.meaning.proofs.Choices.{no_true}
use Rattle.meaning.proofs.Homes.{between_above}
use Rattle.meaning.proofs.Gates.{missing_left}
use Rattle.meaning.proofs.Aims.{same_true, same_self, unaimed_left, named_here, named_low, named_high, addressed, bit_quiet}

-- every interrupt but k is unchanged
abbrev Only : Step → ℕ → Type 0
Only q k = (i : Interrupt) → same (named k) i ≡ false → (c : Cell) → act bench q i c ≡ c

-- a row that names one record
after_one : (q : Step) (k b : ℕ) (r : Records) → Only q k
    → act bench q (named k) (present r (named k)) ≡ decode (in_range bench (named k)) b
    → (i : Interrupt) → act bench q i (present r i) ≡ present (naming (k is b ∷ []) r) i
unfolding present naming
after_one q k b r only at i = by (same (named k) i) refl
  where
    by : (x : Bool) → same (named k) i ≡ x → act bench q i (present r i) ≡ decode (in_range bench i) (cond x b (r i))
    by true e = subst (λ (j : Interrupt). act bench q j (present r j) ≡ decode (in_range bench j) b) (same_true (named k) i e) at
    by false e = only i e (present r i)

-- a row that names none
after_none : (q : Step) (k : ℕ) (r : Records) → Only q k → act bench q (named k) (present r (named k)) ≡ present r (named k)
    → (i : Interrupt) → act bench q i (present r i) ≡ present (naming [] r) i
unfolding present naming
after_none q k r only at i = by (same (named k) i) refl
  where
    by : (x : Bool) → same (named k) i ≡ x → act bench q i (present r i) ≡ present r i
    by true e = subst (λ (j : Interrupt). act bench q j (present r j) ≡ present r j) (same_true (named k) i e) at
    by false e = only i e (present r i)

-- a write of one bit of a set or clear family
set_only : Only (writes NonSecure Dist 0x224 0x1000) 300
unfolding act deed_of place_of listed in_column row_of written_value target_of digit_at named frame_of
set_only i ne c =
    bit_quiet bench NonSecure (record { frame = Dist; family = Ispendr; first = 288; count = 32 }) 0x1000 12 i c true switch.Pending
    refl refl refl refl ne

clear_only : Only (writes NonSecure Dist 0x2A4 0x1000) 300
unfolding act deed_of place_of listed in_column row_of written_value target_of digit_at named frame_of
clear_only i ne c =
    bit_quiet bench NonSecure (record { frame = Dist; family = Icpendr; first = 288; count = 32 }) 0x1000 12 i c false switch.Pending
    refl refl refl refl ne

extended_only : Only (writes NonSecure Dist 0x1804 8) 4131
unfolding act deed_of place_of listed in_column row_of written_value target_of digit_at named frame_of
extended_only i ne c =
    bit_quiet bench NonSecure (record { frame = Dist; family = Icpendr; first = 4128; count = 32 }) 8 3 i c false switch.Pending
    refl refl refl refl ne

active_only : Only (writes NonSecure Dist 0x1C04 8) 4131
unfolding act deed_of place_of listed in_column row_of written_value target_of digit_at named frame_of
active_only i ne c =
    bit_quiet bench NonSecure (record { frame = Dist; family = Icactiver; first = 4128; count = 32 }) 8 3 i c false switch.Active
    refl refl refl refl ne

redist_only : Only (writes NonSecure Redist 0x204 1) 1056
unfolding act deed_of place_of listed in_column row_of written_value target_of digit_at named frame_of
redist_only i ne c =
    bit_quiet bench NonSecure (record { frame = Redist; family = Ispendr; first = 1056; count = 32 }) 1 0 i c true switch.Pending
    refl refl refl refl ne

-- a message, an event
message_only : (g : Message) (i : Interrupt) (c : Cell) → same (shared 300) i ≡ false → performed bench (send NonSecure g 300) i c ≡ c
unfolding aims
message_only g i c ne =
    unaimed_left bench (send NonSecure g 300) i c
    (no_true (addresses bench 300 i)
    (λ t. clash (ap (same (shared 300)) (addressed bench 300 i t) ∙ same_self (shared 300)) ne))

send_only : Only (writes NonSecure Dist 0x40 300) 300
unfolding act deed_of place_of listed in_column in_messages row_of written_value target_of named frame_of
send_only i ne c = message_only SetspiNsr i c ne

take_only : Only (writes NonSecure Dist 0x48 300) 300
unfolding act deed_of place_of listed in_column in_messages row_of written_value target_of named frame_of
take_only i ne c = message_only ClrspiNsr i c ne

event_only : (e : Event) → Only (happens e 300) 300
unfolding act deed_of aims
event_only e i ne c = unaimed_left bench (happen e 300) i c ne

-- K2 names a second record, which stays as it was
abbrev two : Records
two = from (300 is 0x62 ∷ 44 is 0x22 ∷ [])

spare_kept : (i : Interrupt) → naming (300 is 0x60 ∷ 44 is 0x22 ∷ []) two i ≡ naming (300 is 0x60 ∷ []) two i
unfolding naming
spare_kept i = by (same (named 300) i) (same (named 44) i)
  where
    by : (a b : Bool) → ◌≡◌ {A = ℕ} (cond a 0x60 (cond b 0x22 (cond a 0x62 (cond b 0x22 0)))) (cond a 0x60 (cond a 0x62 (cond b 0x22 0)))
    by true b = refl
    by false true = refl
    by false false = refl

two_named : (i : Interrupt)
    → act bench (writes NonSecure Dist 0x48 300) i (present two i) ≡ present (naming (300 is 0x60 ∷ 44 is 0x22 ∷ []) two) i
unfolding act deed_of place_of listed in_column in_messages row_of written_value target_of names same named frame_of sgi in_range present
    naming decode get put non_secure edge_of pending sees addresses may_send sent aims admits effect performed
two_named i =
    after_one (writes NonSecure Dist 0x48 300) 300 0x60 two take_only refl i ∙ ap (decode (in_range bench i)) (sym (spare_kept i))

-- K10: Redistributor word 2 is past eppi, so the bench has none of its interrupts
none_past : (m : ℕ) → 1088 ≤ m → m < 1120 → in_range bench (own m) ≡ false
unfolding in_range
none_past m lo hi = rw (le-ltb m 32 (omega arith), between_above 1056 1088 m (omega arith) (omega arith)) refl

present_range : (r : Records) (i : Interrupt) → (present r i).implemented ≡ in_range bench i
unfolding present decode
present_range r i = refl

abbrev word2 : Window
word2 = record { frame = Redist; family = Ispendr; first = 1088; count = 32 }

past_eppi : (side : Side) (v : ℕ) (r : Records) (i : Interrupt) → performed bench (write side word2 v) i (present r i) ≡ present r i
unfolding aims
past_eppi side v r i = by (names word2 i) refl
  where
    missing : names word2 i ≡ true → in_range bench i ≡ false
    missing t =
        ap (in_range bench) (sym (named_here word2 i t)) ∙ none_past (intid i) (named_low word2 i t) (named_high word2 i t)

    by : (x : Bool) → names word2 i ≡ x → performed bench (write side word2 v) i (present r i) ≡ present r i
    by true t = missing_left bench i (present r i) (write side word2 v) refl (present_range r i ∙ missing t)
    by false t = unaimed_left bench (write side word2 v) i (present r i) t

-- the records between the rows of K4, K5 and K12
abbrev raised : Records
raised = naming (300 is 0x46 ∷ []) (from (300 is 0x44 ∷ []))

abbrev messaged : Records
messaged = naming (300 is 0x48 ∷ []) (from (300 is 0x40 ∷ []))

abbrev taken : Records
taken = naming (300 is 0x71 ∷ []) (from (300 is 0x63 ∷ []))

abbrev take300 : Event
take300 = Activate NonSecure

-- THE CASES

pub all_hold : (r : Records) (v : ℕ) (side : Side) → Hold (cases r v side)
unfolding act answer deed_of place_of listed in_column in_messages row_of written_value target_of names same named frame_of sgi in_range
    present
    naming decode get put non_secure edge_of pending digit_at row sees may_touch reaches switched update shows visible addresses
    may_send sent event_answer happened aims admits effect performed word_read read typer
all_hold r v side = (
  (
    (refl, refl),
    after_one (writes NonSecure Dist 0x224 0x1000) 300 0x62 (from (300 is 0x60 ∷ [])) set_only refl,
    ((refl, refl), λ i. refl, ((refl, refl), λ i. refl, ((refl, refl), λ i. refl, ((refl, refl), λ i. refl, tt)))),
  ),
  (
    ((refl, refl), two_named, tt),
    (
      (
        (refl, refl),
        after_one (writes NonSecure Dist 0x2A4 0x1000) 300 0x44 (from (300 is 0x44 ∷ [])) clear_only refl,
        ((refl, refl), λ i. refl, tt),
      ),
      (
        (
          (refl, refl),
          after_one (writes NonSecure Dist 0x224 0x1000) 300 0x46 (from (300 is 0x44 ∷ [])) set_only refl,
          ((refl, refl), after_one (happens (Wire false) 300) 300 0x42 raised (event_only (Wire false)) refl, tt),
        ),
        (
          (
            (refl, refl),
            after_one (writes NonSecure Dist 0x40 300) 300 0x48 (from (300 is 0x40 ∷ [])) send_only refl,
            (
              (refl, refl),
              after_one (writes NonSecure Dist 0x2A4 0x1000) 300 0x48 messaged clear_only refl,
              ((refl, refl), after_one (writes NonSecure Dist 0x48 300) 300 0x40 (naming (300 is 0x48 ∷ []) messaged) take_only refl, tt),
            ),
          ),
          (
            ((refl, refl), after_one (writes NonSecure Dist 0x1804 8) 4131 0x60 (from (4131 is 0x62 ∷ [])) extended_only refl, tt),
            (
              ((refl, refl), after_one (writes NonSecure Dist 0x1C04 8) 4131 0x60 (from (4131 is 0x70 ∷ [])) active_only refl, tt),
              (
                ((refl, refl), after_one (writes NonSecure Redist 0x204 1) 1056 0x62 (from (1056 is 0x60 ∷ [])) redist_only refl, tt),
                (
                  ((refl, refl), λ i. refl, ((refl, refl), λ i. refl, tt)),
                  (
                    ((refl, refl), past_eppi side v r, ((refl, refl), λ i. refl, tt)),
                    (
                      ((refl, refl), λ i. refl, tt),
                      (
                        (
                          (refl, refl),
                          after_one (happens take300 300) 300 0x71 (from (300 is 0x63 ∷ [])) (event_only take300) refl,
                          ((refl, refl), after_none (happens take300 300) 300 taken (event_only take300) refl, tt),
                        ),
                        tt,
                      ),
                    ),
                  ),
                ),
              ),
            ),
          ),
        ),
      ),
    ),
  ),
)
