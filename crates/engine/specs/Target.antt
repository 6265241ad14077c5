-- A decoded access in the banks: what a read of its target shows, and the records of both frames after a write to it.
use Rattle.std.specs.Prelude.{◌≡◌, false, List, [], ℕ, ◌%◌, length, Ok}
use Rattle.types.specs.declared.Frame.{Frame}
use Rattle.types.specs.declared.Frame.TheVariants.{Dist, Redist}
use Rattle.types.specs.declared.Side.{Side}
use Rattle.types.specs.declared.Shape.{Shape}
use Rattle.types.specs.declared.Way.TheVariants.{Read, Write}
use Rattle.types.specs.declared.Access.{Access}
use Rattle.types.specs.declared.Target.{Target}
use Rattle.types.specs.declared.Target.TheVariants.{Digits, Typer, Message}
use Rattle.meaning.specs.Answers.{Answer}
use Rattle.meaning.specs.Interrupt.{Interrupt, sgi}
use Rattle.meaning.specs.Layout.{lent, records_of, slots}
use Rattle.meaning.specs.Registers.{written_value}
use Rattle.meaning.specs.Step.{typer}
use Rattle.register_families.specs.Fits.{Fits}
use Rattle.table_words.specs.Part.{Numbered}
use Rattle.table_spans.specs.declared.Bank.{Bank}
use Rattle.table_spans.specs.Span.{span_of}
use Rattle.engine.specs.Bank.{window_span, read_in, written_in, sent_in}

-- the frame whose bank a target is in
abbrev pub frame_at : Target → Frame
frame_at (Digits w) = w.frame
frame_at Typer = Dist
frame_at (Message g) = Dist

abbrev pub FitsAt : Target → Type 0
FitsAt (Digits w) = Fits w
FitsAt Typer = Unit
FitsAt (Message g) = Unit

-- the record tables whole, and the bank of the target's frame
pub record Room (x : Target) (b : Bank) (dist redist : List ℕ) : Type 0 where
  pub dist_lent : length dist ≡ slots Dist
  pub redist_lent : length redist ≡ slots Redist
  pub frame : b.frame ≡ frame_at x
  pub fits : FitsAt x

-- `at` names the window's interrupts
abbrev pub NumberedAt : Target → (ℕ → Interrupt) → Type 0
NumberedAt (Digits w) at = Numbered w.count w.first at
NumberedAt Typer at = Unit
NumberedAt (Message g) at = Unit

-- A fact of whichever interrupts it may be: those of the target's window, and with them the one that a message names, which is no SGI.
abbrev pub OfTarget : Target → ((ℕ → Interrupt) → Type 0) → Type 0
OfTarget x P = (at : ℕ → Interrupt) → NumberedAt x at → P at

abbrev pub OfMessage : Target → ((ℕ → Interrupt) → Interrupt → Type 0) → Type 0
OfMessage x P = (at : ℕ → Interrupt) (i : Interrupt) → NumberedAt x at → sgi i ≡ false → P at i

unfoldable pub read_at : Shape → (ℕ → Interrupt) → Side → Target → List ℕ → List ℕ → List ℕ → ℕ
read_at s at side (Digits w) ps d r = read_in s at side w (window_span s ps w) (records_of w.frame (lent d r [] []))
read_at s at side Typer ps d r = typer s
read_at s at side (Message g) ps d r = 0

-- the records xs of the frame f after g was done in the frame `in`
abbrev pub in_bank : Frame → Frame → (List ℕ → List ℕ) → List ℕ → List ℕ
in_bank Dist Dist g xs = g xs
in_bank Dist Redist g xs = xs
in_bank Redist Dist g xs = xs
in_bank Redist Redist g xs = g xs

-- i is the interrupt that a message names
unfoldable pub written_at : Shape → (ℕ → Interrupt) → Interrupt → Side → Target → ℕ → List ℕ → Frame → List ℕ → List ℕ
written_at s at i side (Digits w) v ps f xs = in_bank w.frame f (written_in s at side w v (window_span s ps w)) xs
written_at s at i side Typer v ps f xs = xs
written_at s at i side (Message g) v ps f xs = in_bank Dist f (sent_in s side g i (span_of s ps Dist (v % 8192) 1)) xs

-- both tables after a write
pub record Written (s : Shape) (side : Side) (x : Target) (v : ℕ) (ps d r d' r' : List ℕ) (at : ℕ → Interrupt) (i : Interrupt)
    : Type 0 where
  pub dist_written : d' ≡ written_at s at i side x v ps Dist d
  pub redist_written : r' ≡ written_at s at i side x v ps Redist r

-- an access: a read shows and leaves every record, a write leaves what is written
pub record Served (s : Shape) (a : Access) (x : Target) (ps d r : List ℕ) (y : Answer) (d' r' : List ℕ) (at : ℕ → Interrupt)
    (i : Interrupt) : Type 0 where
  pub reading : a.way ≡ Read → (y ≡ Ok (read_at s at a.side x ps d r)) × ((d' ≡ d) × (r' ≡ r))
  pub writing : a.way ≡ Write → (y ≡ Ok 0) × Written s a.side x (written_value a) ps d r d' r' at i
