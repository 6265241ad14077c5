-- ONE INTERRUPT of a bank: what the engine does with a message, an event and a reset is the rule at every slot.
--   message_meant    the Distributor's bank after a message
--   event_meant      the bank after an event on one of its interrupts, and the answer
--   reset_meant      a bank of zeros
use Rattle.std.specs.Prelude.{Err}
use mathlib.Core.Path.{◌≡◌, refl, sym, ap, ap₂, ◌∙◌}
use mathlib.Core.Bool.{Bool, true, false, cond, ◌&&◌}
use mathlib.Core.List.{List}
use Prim.Native.Nat.{ℕ, ◌%◌, ◌<◌}
use native.Mathlib.Omega.{arith}
use native.Mathlib.Decide.{dec_lt}
use lib.Dec.{eqb, ltb}
use borrow.Author.Tests.{eq-eqb, lt-ltb, le-ltb}
use Rattle.lists.specs.Map.{map_from}
use Rattle.lists.proofs.Maps.{map_from_cong}
use Rattle.types.specs.declared.Frame.{Frame}
use Rattle.types.specs.declared.Frame.TheVariants.{Dist}
use Rattle.types.specs.declared.Side.{Side}
use Rattle.types.specs.declared.Shape.{Shape}
use Rattle.types.specs.declared.Message.{Message}
use Rattle.types.specs.declared.Event.{Event}
use Rattle.types.specs.declared.Refusal.TheVariants as refusal
use Rattle.meaning.specs.Interrupt.{Interrupt, shared, own, same, interrupt, named}
use Rattle.meaning.specs.Cell.{Cell, decode, encode}
use Rattle.meaning.specs.Layout.{Tables, records_of, lengths_fit, interrupt_at, cell_of}
use Rattle.meaning.specs.Rule.{send, happen, clear, addresses, may_send, sent, sees_by, ready, event_answer, is_done, happened}
use Rattle.meaning.specs.Rule.{aims, admits, effect, performed}
use Rattle.meaning.specs.Step.{column}
use Rattle.meaning.proofs.Choices.{cond_true, cond_false}
use Rattle.meaning.proofs.Bytes.{encode-decode}
use Rattle.meaning.proofs.Aims.{same_true, same_self, addressed}
use Rattle.record_messages.specs.Delivered.{delivered}
use Rattle.table_spans.specs.declared.Span.{Span}
use Rattle.table_spans.proofs.Spanned.{Spanned}
use Rattle.engine.specs.Bank.{on_slot, sent_in, eventful, answer_in, zeroed}
use Rattle.engine.proofs.Banks.{after, unaimed_bank, cell_here, missing_here, one_meant}

-- the same done at every cell is the same done at the slot
same_on_slot : (g h : Cell → Cell) → ((c : Cell) → g c ≡ h c) → (p : Span) (xs : List ℕ) → on_slot g p xs ≡ on_slot h p xs
same_on_slot g h e p xs = ap (λ (k : Cell → Cell). on_slot k p xs) (λ z c. e c z)

-- A MESSAGE
module _ (s : Shape) (side : Side) (g : Message) (v : ℕ) where
  abbrev I : Interrupt
  I = shared (v % 8192)

  message_named : s.mbis ≡ true → aims s (send side g v) I ≡ true
  unfolding aims addresses
  message_named h = ap₂ (λ (a b : Bool). a && b) h (eq-eqb (v % 8192) (v % 8192) refl)

  delivered_here : s.mbis ≡ true → (c : Cell) → delivered s side g I c ≡ performed s (send side g v) I c
  unfolding delivered performed admits effect
  delivered_here h c =
      sym (ap (λ (b : Bool). cond (b && (c.implemented && may_send side g I c)) (sent s g I c) c) (message_named h))

  none_named : s.mbis ≡ false → (i : Interrupt) → aims s (send side g v) i ≡ false
  unfolding aims addresses
  none_named h (shared m) = ap (λ (b : Bool). b && eqb m (v % 8192)) h
  none_named h (own m) = refl

  pub message_meant : (t : Tables) → lengths_fit t ≡ true → (p : Span) → Spanned s t Dist (v % 8192) 1 p
      → sent_in s side g I p t.dist ≡ after s (send side g v) t Dist
  unfolding sent_in aims
  message_meant t fit p sp = by s.mbis refl
    where
      by : (b : Bool) → s.mbis ≡ b → cond b (on_slot (delivered s side g I) p t.dist) t.dist ≡ after s (send side g v) t Dist
      by true h =
          same_on_slot (delivered s side g I) (performed s (send side g v) I) (delivered_here h) p t.dist
          ∙ one_meant s t fit Dist (v % 8192) p sp (send side g v) refl (addressed s v)
      by false h = sym (unaimed_bank s t fit Dist (send side g v) (λ k. none_named h (interrupt_at Dist k)))

-- AN EVENT on an interrupt of the bank f
missing_refused : (s : Shape) (e : Event) (i : Interrupt) (c : Cell) → c.implemented ≡ false → event_answer s e i c ≡ Err refusal.Intid
unfolding event_answer
missing_refused s e i c h = ap (λ (b : Bool). cond (b && sees_by e c) (ready s e i c) (Err refusal.Intid)) h

module _ (s : Shape) (t : Tables) (fit : lengths_fit t ≡ true) (f : Frame) (m : ℕ) (e : Event) (here : named m ≡ interrupt f m) (p : Span)
    (sp : Spanned s t f m 1 p) where
  eventful_here : (c : Cell) → eventful s e (interrupt f m) c ≡ performed s (happen e m) (interrupt f m) c
  unfolding eventful performed aims admits effect
  eventful_here c =
      sym (ap (λ (b : Bool). cond (b && is_done (event_answer s e (interrupt f m) c)) (happened s e (interrupt f m) c) c)
      (ap (λ (i : Interrupt). same i (interrupt f m)) here ∙ same_self (interrupt f m)))

  only_here : (i : Interrupt) → aims s (happen e m) i ≡ true → i ≡ interrupt f m
  unfolding aims
  only_here i h = sym (same_true (named m) i h) ∙ here

  pub event_meant : on_slot (eventful s e (interrupt f m)) p (records_of f t) ≡ after s (happen e m) t f
  event_meant =
      same_on_slot (eventful s e (interrupt f m)) (performed s (happen e m) (interrupt f m)) eventful_here p (records_of f t)
      ∙ one_meant s t fit f m p sp (happen e m) refl only_here

  pub event_answer_lem : answer_in s e (interrupt f m) p (records_of f t) ≡ event_answer s e (interrupt f m) (cell_of s t (interrupt f m))
  unfolding answer_in
  event_answer_lem = by (dec_lt p.start p.end)
    where
      by : Dec (p.start < p.end)
          → answer_in s e (interrupt f m) p (records_of f t) ≡ event_answer s e (interrupt f m) (cell_of s t (interrupt f m))
      by (yes l) =
          cond_true (ltb p.start p.end) _ _ (lt-ltb p.start p.end l)
          ∙ ap (event_answer s e (interrupt f m)) (sym (cell_here s t fit f m p sp l))
      by (no l) =
          cond_false (ltb p.start p.end) _ _ (le-ltb p.start p.end (omega arith))
          ∙ sym (missing_refused s e (interrupt f m) (cell_of s t (interrupt f m)) (missing_here s t fit f m p sp (omega arith)))

-- RESET
pub reset_meant : (s : Shape) (t : Tables) (f : Frame) → map_from 0 zeroed (records_of f t) ≡ after s clear t f
unfolding column performed aims admits effect
reset_meant s t f =
    map_from_cong zeroed (λ k old. encode (decode (cell_of s t (interrupt_at f k)).implemented 0)) (records_of f t)
    (λ k l. sym (encode-decode (cell_of s t (interrupt_at f k)).implemented 0))
