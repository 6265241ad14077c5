-- What is done in a bank, slot by slot: the bank's own terms, in which no interrupt has a name.
use Rattle.std.specs.Prelude.{◌≡◌, cond, List, ◌++◌, ℕ, ◌-◌, ◌%◌, eqb, ltb, get_or, take, drop, set, Err}
use Rattle.types.specs.declared.Side.{Side}
use Rattle.types.specs.declared.Shape.{Shape}
use Rattle.types.specs.declared.Message.{Message}
use Rattle.types.specs.declared.Event.{Event}
use Rattle.types.specs.declared.Window.{Window}
use Rattle.types.specs.declared.Refusal.TheVariants as refusal
use Rattle.meaning.specs.Answers.{Answer}
use Rattle.meaning.specs.Interrupt.{Interrupt}
use Rattle.meaning.specs.Cell.{Cell, decode, encode}
use Rattle.meaning.specs.Rule.{event_answer, is_done, happened}
use Rattle.record_messages.specs.Delivered.{delivered}
use Rattle.table_words.specs.declared.Word.{Word}
use Rattle.table_words.specs.Part.{Numbered, gathered, stored}
use Rattle.table_spans.specs.declared.Span.{Span}
use Rattle.table_spans.specs.Span.{span_of}

-- the part of the records that a span has, and the records with that part put back as g leaves it
abbrev pub part : Span → List ℕ → List ℕ
part p xs = take (p.end - p.start) (drop p.start xs)

abbrev pub within : Span → (List ℕ → List ℕ) → List ℕ → List ℕ
within p g xs = take p.start xs ++ (g (part p xs) ++ drop (p.end - p.start) (drop p.start xs))

-- A WORD: its window's span. `at` names the window's interrupts; a fact of whichever these may be holds of each such `at`.
abbrev pub OfWindow : Window → ((ℕ → Interrupt) → Type 0) → Type 0
OfWindow w P = (at : ℕ → Interrupt) → Numbered w.count w.first at → P at

abbrev pub window_span : Shape → List ℕ → Window → Span
window_span s ps w = span_of s ps w.frame w.first w.count

abbrev pub word_of : Side → Window → Span → Word
word_of side w p = record { side = side; family = w.family; first = w.first; implemented = p.implemented }

unfoldable pub read_in : Shape → (ℕ → Interrupt) → Side → Window → Span → List ℕ → ℕ
read_in s at side w p xs = gathered s at (word_of side w p) (part p xs)

unfoldable pub written_in : Shape → (ℕ → Interrupt) → Side → Window → ℕ → Span → List ℕ → List ℕ
written_in s at side w v p xs = within p (stored s at (word_of side w p) v) xs

-- ONE INTERRUPT i, at the slot that the span of its INTID has, if it has one
abbrev pub cell_in : Span → List ℕ → Cell
cell_in p xs = decode (eqb (p.implemented % 2) 1) (get_or xs p.start 0)

unfoldable pub on_slot : (Cell → Cell) → Span → List ℕ → List ℕ
on_slot g p xs = cond (ltb p.start p.end) (set xs p.start (encode (g (cell_in p xs)))) xs

-- a message, where the shape has any
unfoldable pub sent_in : Shape → Side → Message → Interrupt → Span → List ℕ → List ℕ
sent_in s side g i p xs = cond s.mbis (on_slot (delivered s side g i) p xs) xs

-- an event: what it leaves of the interrupt, the answer, and the records
unfoldable pub eventful : Shape → Event → Interrupt → Cell → Cell
eventful s e i c = cond (is_done (event_answer s e i c)) (happened s e i c) c

unfoldable pub answer_in : Shape → Event → Interrupt → Span → List ℕ → Answer
answer_in s e i p xs = cond (ltb p.start p.end) (event_answer s e i (cell_in p xs)) (Err refusal.Intid)

pub record Happened (s : Shape) (e : Event) (i : Interrupt) (p : Span) (xs : List ℕ) (a : Answer) (ys : List ℕ) : Type 0 where
  pub answered : a ≡ answer_in s e i p xs
  pub records : ys ≡ on_slot (eventful s e i) p xs

-- reset: every record is 0
abbrev pub zeroed : ℕ → ℕ → ℕ
zeroed k n = 0
