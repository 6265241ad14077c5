-- A DECODED ACCESS in the banks is what the meaning says of it.
--   read_target     what a read shows
--   write_target    the records of each frame after a write
use mathlib.Core.Path.{◌≡◌, refl, sym, ap, subst, ◌∙◌}
use mathlib.Core.Bool.{Bool, true, false, ◌&&◌}
use mathlib.Core.List.{List, []}
use Prim.Native.Nat.{ℕ, ◌+◌, ◌%◌}
use native.Mathlib.Omega.{arith}
use Rattle.types.specs.declared.Frame.{Frame}
use Rattle.types.specs.declared.Frame.TheVariants.{Dist, Redist}
use Rattle.types.specs.declared.Side.{Side}
use Rattle.types.specs.declared.Shape.{Shape}
use Rattle.types.specs.declared.Window.{Window}
use Rattle.types.specs.declared.Target.{Target}
use Rattle.types.specs.declared.Target.TheVariants.{Digits, Typer, Message}
use Rattle.meaning.specs.Interrupt.{Interrupt, shared, intid, interrupt, in_frame, between}
use Rattle.meaning.specs.Layout.{Tables, lent, records_of, presence_of, lengths_fit, well_formed, interrupt_at, cell_of}
use Rattle.meaning.specs.Registers.{names}
use Rattle.meaning.specs.Rule.{write, send, write_to, addresses, aims}
use Rattle.meaning.specs.Step.{read}
use Rattle.meaning.proofs.After.{well_shape, well_lengths}
use Rattle.register_families.specs.Fits.{Fits}
use Rattle.table_spans.specs.Span.{span_of}
use Rattle.table_spans.proofs.Spanned.{Spanned, spanned}
use Rattle.engine.specs.Bank.{window_span, read_in, written_in}
use Rattle.engine.specs.Target.{frame_at, FitsAt, read_at, in_bank, written_at}
use Rattle.engine.proofs.Banks.{after, unaimed_bank, idle_bank}
use Rattle.engine.proofs.Words.{write_meant, read_meant}
use Rattle.engine.proofs.Ones.{message_meant}

-- the interrupts that a target's digits stand for, and the one that a message names
abbrev pub interrupts_of : Target → ℕ → Interrupt
interrupts_of (Digits w) x = interrupt w.frame (w.first + x)
interrupts_of Typer x = shared 0
interrupts_of (Message g) x = shared 0

picked : (f : Frame) (t : Tables) → records_of f (lent t.dist t.redist [] []) ≡ records_of f t
picked Dist t = refl
picked Redist t = refl

module _ (s : Shape) (t : Tables) (well : well_formed s t ≡ true) where
  fit : lengths_fit t ≡ true
  fit = well_lengths s t well

  window_spanned : (w : Window) → Fits w → Spanned s t w.frame w.first w.count (window_span s (presence_of w.frame t) w)
  window_spanned w room = spanned s t (well_shape s t well) w.frame w.first w.count room.block

  -- READS
  pub read_target : (side : Side) (x : Target) → FitsAt x
      → read_at s (interrupts_of x) side x (presence_of (frame_at x) t) t.dist t.redist ≡ read s side x (cell_of s t)
  unfolding read_at read
  read_target side (Digits w) room =
      ap (read_in s (interrupts_of (Digits w)) side w (window_span s (presence_of w.frame t) w)) (picked w.frame t)
      ∙ read_meant s t fit side w (window_span s (presence_of w.frame t) w) (window_spanned w room)
  read_target side Typer room = refl
  read_target side (Message g) room = refl

  -- WRITES to a register word: the rule in its frame, and the other frame is unchanged
  module _ (side : Side) (w : Window) (v : ℕ) (room : Fits w) where
    abbrev G : List ℕ → List ℕ
    G xs = written_in s (interrupts_of (Digits w)) side w v (window_span s (presence_of w.frame t) w) xs

    own_frame : (f : Frame) → w.frame ≡ f → G (records_of f t) ≡ after s (write side w v) t f
    own_frame f e =
        subst (λ (h : Frame). G (records_of h t) ≡ after s (write side w v) t h) e
        (write_meant s t fit side w (window_span s (presence_of w.frame t) w) (window_spanned w room) v)

    other_frame : (f : Frame) → ((k : ℕ) → in_frame w.frame (interrupt_at f k) ≡ false) → records_of f t ≡ after s (write side w v) t f
    unfolding aims names
    other_frame f h =
        sym
        (unaimed_bank s t fit f (write side w v)
        (λ k. ap (λ (b : Bool). b && between w.first (w.first + w.count) (intid (interrupt_at f k))) (h k)))

    digits_written : (g f : Frame) → w.frame ≡ g → in_bank g f G (records_of f t) ≡ after s (write side w v) t f
    digits_written Dist Dist e = own_frame Dist e
    digits_written Dist Redist e = other_frame Redist (λ k. ap (λ (g : Frame). in_frame g (interrupt_at Redist k)) e)
    digits_written Redist Dist e = other_frame Dist (λ k. ap (λ (g : Frame). in_frame g (interrupt_at Dist k)) e)
    digits_written Redist Redist e = own_frame Redist e

  pub write_target : (side : Side) (x : Target) (v : ℕ) → FitsAt x → (f : Frame)
      → written_at s (interrupts_of x) (shared (v % 8192)) side x v (presence_of (frame_at x) t) f (records_of f t)
      ≡ after s (write_to side v x) t f
  unfolding written_at aims addresses
  write_target side (Digits w) v room f = digits_written side w v room w.frame f refl
  write_target side Typer v room f = sym (idle_bank s t fit f)
  write_target side (Message g) v room Dist =
      message_meant s side g v t fit (span_of s t.dist_presence Dist (v % 8192) 1)
      (spanned s t (well_shape s t well) Dist (v % 8192) 1 (omega arith))
  write_target side (Message g) v room Redist = sym (unaimed_bank s t fit Redist (send side g v) (λ k. refl))
