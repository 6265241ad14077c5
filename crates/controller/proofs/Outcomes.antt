-- THE MACHINE'S OUTCOME, from what the banks have after a deed.
--   ill               refusal 1
--   access_refused    refusals 2 to 6
--   access_served     an access at a place
--   event_happened    an event on an interrupt of a frame
--   event_banked      an event on an interrupt of a bank
--   all_cleared       reset
use Rattle.std.specs.Prelude.{Ok, Err}
use mathlib.Core.Path.{◌≡◌, refl, sym, ap, subst, ◌∙◌}
use mathlib.Core.Bool.{Bool, true, false, cond, ◌||◌}
use mathlib.Core.List.{List}
use Prim.Native.Nat.{ℕ, ◌%◌, ◌<◌}
use native.Mathlib.Omega.{arith}
use lib.Dec.{ltb}
use borrow.Author.Tests.{ltb-true, lt-ltb}
use Rattle.lists.specs.Map.{map_from}
use Rattle.types.specs.declared.Frame.{Frame}
use Rattle.types.specs.declared.Frame.TheVariants.{Dist, Redist}
use Rattle.types.specs.declared.Shape.{Shape}
use Rattle.types.specs.declared.Way.{Way}
use Rattle.types.specs.declared.Way.TheVariants.{Read, Write}
use Rattle.types.specs.declared.Access.{Access}
use Rattle.types.specs.declared.Event.{Event}
use Rattle.types.specs.declared.Place.{Place}
use Rattle.types.specs.declared.Target.{Target}
use Rattle.types.specs.declared.Refusal.{Refusal}
use Rattle.types.specs.declared.Refusal.TheVariants as refusal
use Rattle.meaning.specs.Answers.{Answer, Decoded}
use Rattle.meaning.specs.Interrupt.{Interrupt, shared, same, interrupt, frame_of, named, sgi, between}
use Rattle.meaning.specs.Layout.{Tables, lent, records_of, presence_of, well_formed, interrupt_at, cell_of}
use Rattle.meaning.specs.Registers.{place_of, written_value, target_of}
use Rattle.meaning.specs.Rule.{Step, access, happens, reset, Deed, idle, happen, clear, write_to, accessed, deed_of, event_answer, act}
use Rattle.meaning.specs.Rule.{aims}
use Rattle.meaning.specs.Step.{read, access_answer, answer, tables_where, stepped}
use Rattle.meaning.proofs.Choices.{cond_true, cond_false}
use Rattle.meaning.proofs.After.{well_shape, well_lengths}
use Rattle.table_spans.specs.declared.Bank.{Bank}
use Rattle.table_spans.specs.Span.{span_of}
use Rattle.table_spans.specs.Bank.{bank_span}
use Rattle.table_spans.proofs.Spanned.{Spanned, spanned}
use Rattle.engine.specs.Bank.{Happened, zeroed}
use Rattle.engine.specs.Target.{frame_at, NumberedAt, read_at, in_bank, written_at, Served}
use Rattle.engine.proofs.Banks.{after, unaimed_bank, idle_bank}
use Rattle.engine.proofs.Targets.{interrupts_of, read_target, write_target}
use Rattle.controller.proofs.Places.{target_frame, target_fits, target_numbered}
use Rattle.engine.proofs.Ones.{event_meant, event_answer_lem, reset_meant}

low_own : (m : ℕ) → m < 32 → frame_of m ≡ Redist
unfolding frame_of
low_own m l = ap (λ (b : Bool). cond (b || between 1056 1120 m) Redist Dist) (lt-ltb m 32 l)

-- the frame of an INTID
named_in : (m : ℕ) (f : Frame) → frame_of m ≡ f → named m ≡ interrupt f m
unfolding named
named_in m f e = ap (λ (g : Frame). interrupt g m) e

-- which of the bank's interrupts are SGIs
sgi_below : (m : ℕ) (f : Frame) → frame_of m ≡ f → sgi (interrupt f m) ≡ ltb m 16
unfolding sgi
sgi_below m Redist e = refl
sgi_below m Dist e = by (ltb m 16) refl
  where
    low : ltb m 16 ≡ true → frame_of m ≡ Redist
    low h = let l = ltb-true m 16 h in low_own m (omega arith)

    by : (b : Bool) → ltb m 16 ≡ b → false ≡ b
    by false h = refl
    by true h = let z : Dist ≡ Redist = sym e ∙ low h in cc

pub ill : (s : Shape) (q : Step) (t : Tables) → well_formed s t ≡ false
    → record { answered = Err refusal.Shape; tables = t } ≡ stepped s q t
unfolding stepped
ill s q t h = sym (cond_false (well_formed s t) _ _ h)

module _ (s : Shape) (t : Tables) (well : well_formed s t ≡ true) where
  -- THE OUTCOME of a step, by its deed
  by_deed : (q : Step) (d : Deed) (x : Answer) (dist redist : List ℕ) → deed_of q ≡ d → x ≡ answer s q (cell_of s t)
      → dist ≡ after s d t Dist → redist ≡ after s d t Redist
      → record { answered = x; tables = lent dist redist t.dist_presence t.redist_presence } ≡ stepped s q t
  unfolding stepped tables_where act
  by_deed q d x dist redist e a h k =
      (λ z. record { answered = a z; tables = lent (h z) (k z) t.dist_presence t.redist_presence })
      ∙ (ap (λ (c : Deed). record { answered = answer s q (cell_of s t); tables = by c }) (sym e)
      ∙ sym (cond_true (well_formed s t) _ _ well))
    where
      by : Deed → Tables
      by c = lent (after s c t Dist) (after s c t Redist) t.dist_presence t.redist_presence

  left : (f : Frame) → records_of f t ≡ after s idle t f
  left f = sym (idle_bank s t (well_lengths s t well) f)

  -- AN ACCESS
  module _ (a : Access) where
    pub access_refused : (r : Refusal) → place_of a ≡ Err r
        → record { answered = Err r; tables = t } ≡ stepped s (access a) t
    unfolding deed_of answer
    access_refused r e =
        by_deed (access a) idle (Err r) t.dist t.redist (ap (accessed a) e)
        (sym (ap (λ (d : Decoded). access_answer s a d (cell_of s t)) e)) (left Dist) (left Redist)

    module _ (p : Place) (e : place_of a ≡ Ok p) where
      deed_by : (w : Way) → a.way ≡ w
          → deed_of (access a) ≡ elim w as (λ z. Deed) [ Read ↦ idle | Write ↦ write_to a.side (written_value a) (target_of p) ]
      unfolding deed_of
      deed_by w h =
          ap (accessed a) e
          ∙ ap (λ (y : Way). elim y as (λ z. Deed) [ Read ↦ idle | Write ↦ write_to a.side (written_value a) (target_of p) ]) h

      answer_by : (w : Way) → a.way ≡ w
          → answer s (access a) (cell_of s t)
          ≡ elim w as (λ z. Answer) [ Read ↦ Ok (read s a.side (target_of p) (cell_of s t)) | Write ↦ Ok 0 ]
      unfolding answer
      answer_by w h =
          ap (λ (d : Decoded). access_answer s a d (cell_of s t)) e
          ∙ ap (λ (y : Way). elim y as (λ z. Answer) [ Read ↦ Ok (read s a.side (target_of p) (cell_of s t)) | Write ↦ Ok 0 ]) h

      access_read : a.way ≡ Read → (v : ℕ) → v ≡ read s a.side (target_of p) (cell_of s t)
          → record { answered = Ok v; tables = t } ≡ stepped s (access a) t
      access_read h v r =
          by_deed (access a) idle (Ok v) t.dist t.redist (deed_by Read h) (ap Ok r ∙ sym (answer_by Read h)) (left Dist)
          (left Redist)

      abbrev written : Deed
      written = write_to a.side (written_value a) (target_of p)

      access_written : a.way ≡ Write → (dist redist : List ℕ) → dist ≡ after s written t Dist → redist ≡ after s written t Redist
          → record { answered = Ok 0; tables = lent dist redist t.dist_presence t.redist_presence } ≡ stepped s (access a) t
      access_written h dist redist k l =
          by_deed (access a) written (Ok 0) dist redist (deed_by Write h) (sym (answer_by Write h)) k l

  -- an access at a place, from what the engine promises of its target x
  module _ (a : Access) (p : Place) (e : place_of a ≡ Ok p) (x : Target) (aim : x ≡ target_of p) (ps : List ℕ)
      (words : ps ≡ presence_of a.frame t) where
    here : ps ≡ presence_of (frame_at (target_of p)) t
    here = words ∙ ap (λ (f : Frame). presence_of f t) (sym (target_frame s t well a p e))

    abbrev ats : ℕ → Interrupt
    ats = interrupts_of (target_of p)

    abbrev named_by : Interrupt
    named_by = shared (written_value a % 8192)

    module _ (y : Answer) (dist redist : List ℕ) (h : Served s a x ps t.dist t.redist y dist redist ats named_by) where
      shown : read_at s ats a.side x ps t.dist t.redist ≡ read s a.side (target_of p) (cell_of s t)
      shown =
          (λ z. read_at s ats a.side (aim z) (here z) t.dist t.redist)
          ∙ read_target s t well a.side (target_of p) (target_fits s t well a p e)

      stored : (f : Frame)
          → written_at s ats named_by a.side x (written_value a) ps f (records_of f t)
          ≡ after s (write_to a.side (written_value a) (target_of p)) t f
      stored f =
          (λ z. written_at s ats named_by a.side (aim z) (written_value a) (here z) f (records_of f t))
          ∙ write_target s t well a.side (target_of p) (written_value a) (target_fits s t well a p e) f

      by_way : (w : Way) → a.way ≡ w
          → record { answered = y; tables = lent dist redist t.dist_presence t.redist_presence } ≡ stepped s (access a) t
      by_way Read w =
          let r = h.reading w in
          (λ z. record { answered = r.0 z; tables = lent (r.1.0 z) (r.1.1 z) t.dist_presence t.redist_presence })
          ∙ access_read a p e w _ shown
      by_way Write w =
          let r = h.writing w in
          ap (λ (z : Answer). record { answered = z; tables = lent dist redist t.dist_presence t.redist_presence }) r.0
          ∙ access_written a p e w dist redist (r.1.dist_written ∙ stored Dist) (r.1.redist_written ∙ stored Redist)

    pub access_served : (y : Answer) (dist redist : List ℕ)
        → ((at : ℕ → Interrupt) (i : Interrupt) → NumberedAt x at → sgi i ≡ false
        → Served s a x ps t.dist t.redist y dist redist at i)
        → record { answered = y; tables = lent dist redist t.dist_presence t.redist_presence } ≡ stepped s (access a) t
    unfolding sgi
    access_served y dist redist h =
        by_way y dist redist
        (h ats named_by (subst (λ (z : Target). NumberedAt z ats) (sym aim) (target_numbered s t well a p e)) refl) a.way refl

  -- AN EVENT on the INTID m of the frame f: that bank is the rule's, the other is unchanged
  module _ (e : Event) (m : ℕ) (f : Frame) (here : named m ≡ interrupt f m) where
    apart : (g : Frame) → ((k : ℕ) → same (interrupt f m) (interrupt_at g k) ≡ false) → records_of g t ≡ after s (happen e m) t g
    unfolding aims
    apart g h =
        sym
        (unaimed_bank s t (well_lengths s t well) g (happen e m) (λ k. ap (λ (i : Interrupt). same i (interrupt_at g k)) here ∙ h k))

    answer_named : answer s (happens e m) (cell_of s t) ≡ event_answer s e (interrupt f m) (cell_of s t (interrupt f m))
    unfolding answer
    answer_named = ap (λ (i : Interrupt). event_answer s e i (cell_of s t i)) here

    module _ (x : Answer) (ys : List ℕ) (h : Happened s e (interrupt f m) (span_of s (presence_of f t) f m 1) (records_of f t) x ys) where
      sp : Spanned s t f m 1 (span_of s (presence_of f t) f m 1)
      sp = spanned s t (well_shape s t well) f m 1 (omega arith)

      answered : x ≡ answer s (happens e m) (cell_of s t)
      answered =
          h.answered ∙ (event_answer_lem s t (well_lengths s t well) f m e here (span_of s (presence_of f t) f m 1) sp ∙ sym answer_named)

      meant : ys ≡ after s (happen e m) t f
      meant = h.records ∙ event_meant s t (well_lengths s t well) f m e here (span_of s (presence_of f t) f m 1) sp

  event_in : (e : Event) (m : ℕ) (f : Frame) → named m ≡ interrupt f m → (x : Answer) (ys : List ℕ)
      → Happened s e (interrupt f m) (span_of s (presence_of f t) f m 1) (records_of f t) x ys
      → record {
        answered = x;
        tables = lent (in_bank f Dist (λ z. ys) t.dist) (in_bank f Redist (λ z. ys) t.redist) t.dist_presence t.redist_presence;
      }
      ≡ stepped s (happens e m) t
  unfolding deed_of same
  event_in e m Dist here x ys h =
      by_deed (happens e m) (happen e m) x _ _ refl (answered e m Dist here x ys h) (meant e m Dist here x ys h)
      (apart e m Dist here Redist (λ k. refl))
  event_in e m Redist here x ys h =
      by_deed (happens e m) (happen e m) x _ _ refl (answered e m Redist here x ys h) (apart e m Redist here Dist (λ k. refl))
      (meant e m Redist here x ys h)

  pub event_happened : (e : Event) (m : ℕ) (f : Frame) → frame_of m ≡ f → (x : Answer) (ys : List ℕ)
      → ((i : Interrupt) → sgi i ≡ ltb m 16 → Happened s e i (span_of s (presence_of f t) f m 1) (records_of f t) x ys)
      → record {
        answered = x;
        tables = lent (in_bank f Dist (λ z. ys) t.dist) (in_bank f Redist (λ z. ys) t.redist) t.dist_presence t.redist_presence;
      }
      ≡ stepped s (happens e m) t
  event_happened e m f at x ys h = event_in e m f (named_in m f at) x ys (h (interrupt f m) (sgi_below m f at))

  -- the same of what was done in a bank b
  pub event_banked : (e : Event) (m : ℕ) (f : Frame) → frame_of m ≡ f → (b : Bank) → b.frame ≡ f → b.shape ≡ s
      → b.presence.now ≡ presence_of f t → (x : Answer) (ys : List ℕ)
      → ((i : Interrupt) → sgi i ≡ ltb m 16 → Happened b.shape e i (bank_span b m 1) (records_of f t) x ys)
      → record {
        answered = x;
        tables = lent (in_bank f Dist (λ z. ys) t.dist) (in_bank f Redist (λ z. ys) t.redist) t.dist_presence t.redist_presence;
      }
      ≡ stepped s (happens e m) t
  event_banked e m f at b frame shape words x ys h =
      event_happened e m f at x ys
      (λ i g.
      subst (λ (k : Frame). Happened s e i (span_of s (presence_of f t) k m 1) (records_of f t) x ys) frame
      (subst (λ (ps : List ℕ). Happened s e i (span_of s ps b.frame m 1) (records_of f t) x ys) words
      (subst (λ (o : Shape). Happened o e i (span_of o b.presence.now b.frame m 1) (records_of f t) x ys) shape (h i g))))

  -- RESET
  pub all_cleared : (dist redist : List ℕ) → dist ≡ map_from 0 zeroed t.dist → redist ≡ map_from 0 zeroed t.redist
      → record { answered = Ok 0; tables = lent dist redist t.dist_presence t.redist_presence } ≡ stepped s reset t
  unfolding deed_of answer
  all_cleared dist redist h k =
      by_deed reset clear (Ok 0) dist redist refl refl (h ∙ reset_meant s t Dist) (k ∙ reset_meant s t Redist)
