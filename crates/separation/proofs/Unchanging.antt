-- STEPS THAT CAN CHANGE NO RECORD are private, whatever they name.
--   unchanging     a step that leaves every interrupt
--   refused_step   refused for whatever reason: a Secure activation refused 9 is one
--   a_read, typer_write, res0_write, sgi_fields   reads; writes to TYPER, to a res0 word, to the SGIs' fields
--   no_messages, missing_message, no_spi   messages without mbis; those that name a missing interrupt, or a number that is no SPI's
use Rattle.std.specs.Prelude.{Ok, Err}
use mathlib.Core.Path.{◌≡◌, refl, ap, ◌∙◌}
use mathlib.Core.Bool.{Bool, true, false, ◌&&◌, ◌||◌, and-false}
use Prim.Native.Nat.{ℕ, ◌*◌, ◌%◌, ◌<◌}
use native.Mathlib.Omega.{arith}
use lib.Dec.{eqb}
use borrow.Author.Tests.{lt-ltb}
use Rattle.lists.proofs.Bools.{and_left}
use Rattle.types.specs.declared.Shape.{Shape}
use Rattle.types.specs.declared.Frame.TheVariants.{Dist, Redist}
use Rattle.types.specs.declared.Kind.TheVariants.{Trigger}
use Rattle.types.specs.declared.Family.{Family}
use Rattle.types.specs.declared.Family.TheVariants.{Icfgr}
use Rattle.types.specs.declared.Side.{Side}
use Rattle.types.specs.declared.Way.TheVariants.{Read, Write}
use Rattle.types.specs.declared.Access.{Access}
use Rattle.types.specs.declared.Place.{Place}
use Rattle.types.specs.declared.Place.TheVariants as place
use Rattle.types.specs.declared.Message.{Message}
use Rattle.types.specs.declared.Refusal.{Refusal}
use Rattle.meaning.specs.Interrupt.{Interrupt, shared, own, intid, sgi, between}
use Rattle.meaning.specs.Cell.{Cell}
use Rattle.meaning.specs.Layout.{Tables, in_range, Home, nowhere, home_of, present_at, implemented, cell_of}
use Rattle.meaning.specs.Registers.{row_of, per_word, place_of, written_value, target_of, names}
use Rattle.meaning.specs.Rule.{Step, access, Deed, send, write_to, reaches, addresses}
use Rattle.meaning.specs.Rule.{aims, admits, effect, performed, act}
use Rattle.meaning.specs.Step.{Cells, answer}
use Rattle.meaning.proofs.Choices.{cond_keeps}
use Rattle.meaning.proofs.Homes.{between_high}
use Rattle.meaning.proofs.Gates.{missing_left}
use Rattle.meaning.proofs.Aims.{unaimed_left, addressed}
use Rattle.meaning.proofs.Effects.{field_ignored}
use Rattle.meaning.proofs.Listed.{res0_left}
use Rattle.meaning.proofs.After.{cell_present}
use Rattle.promises.proofs.Deeds.{by_access, by_place, idle_left}
use Rattle.promises.proofs.Refused.{step_left}
use Rattle.separation.specs.Steps.{glimpse, PrivateStep}

-- without messages, none is named
none_addressed : (s : Shape) (v : ℕ) (i : Interrupt) → s.mbis ≡ false → addresses s v i ≡ false
unfolding addresses
none_addressed s v (shared m) h = ap (λ (b : Bool). b && eqb m (v % 8192)) h
none_addressed s v (own m) h = refl

-- the SGIs' fields ignore writes
sgi_word : (s : Shape) (side : Side) (v : ℕ) (i : Interrupt) (c : Cell)
    → performed s (write_to side v (target_of (place.Word Redist Icfgr 0))) i c ≡ c
unfolding performed aims admits effect names target_of row_of sgi
sgi_word s side v (shared m) c = refl
sgi_word s side v (own m) c =
    cond_keeps (λ (z : Cell). z) (between 0 16 m && reaches s side Write Trigger (own m) c) _ c
    (λ t.
    let low = lt-ltb m 16 (between_high 0 16 m (and_left (between 0 16 m) _ t)) in
    field_ignored s side (own m) c _ (ap (λ (b : Bool). b || c.enabled) low))

module _ (s : Shape) (cells : Cells) where
  pub unchanging : (q : Step) → ((i : Interrupt) → act s q i (cells i) ≡ cells i) → PrivateStep s cells q
  unchanging q h i = ap glimpse (h i)

  -- refused steps, for whatever reason: a Secure activation refused 9 is one
  pub refused_step : (q : Step) (r : Refusal) → answer s q cells ≡ Err r → PrivateStep s cells q
  refused_step q r h = unchanging q (λ i. step_left s q cells r i h)

  module _ (a : Access) where
    abbrev Leaves : Interrupt → Deed → Type 0
    Leaves i d = performed s d i (cells i) ≡ cells i

    -- reads
    pub a_read : a.way ≡ Read → PrivateStep s cells (access a)
    unfolding act
    a_read h =
        unchanging (access a)
        (λ i. by_access (Leaves i) a (idle_left s i (cells i)) (λ p e w. absurd (let z : ◌≡◌ {A = ℕ} 0 1 = cc in omega arith)))

    -- writes to a place that changes nothing
    write_left : (p : Place) → place_of a ≡ Ok p → ((i : Interrupt) → Leaves i (write_to a.side (written_value a) (target_of p)))
        → PrivateStep s cells (access a)
    unfolding act
    write_left p e h = unchanging (access a) (λ i. by_place (Leaves i) a (idle_left s i (cells i)) p e (λ w. h i))

    pub typer_write : place_of a ≡ Ok place.Typer → PrivateStep s cells (access a)
    unfolding target_of
    typer_write e = write_left place.Typer e (λ i. idle_left s i (cells i))

    -- a res0 word: one of the Distributor that begins with an INTID below 32
    pub res0_write : (f : Family) (n : ℕ) → per_word f * n < 32 → place_of a ≡ Ok (place.Word Dist f n) → PrivateStep s cells (access a)
    res0_write f n l e =
        write_left (place.Word Dist f n) e (λ i. res0_left s a.side f n (lt-ltb (per_word f * n) 32 l) (written_value a) i (cells i))

    -- Redistributor ICFGR word 0
    pub sgi_fields : place_of a ≡ Ok (place.Word Redist Icfgr 0) → PrivateStep s cells (access a)
    sgi_fields e = write_left (place.Word Redist Icfgr 0) e (λ i. sgi_word s a.side (written_value a) i (cells i))

    -- a message register with mbis no ..
    pub no_messages : (g : Message) → place_of a ≡ Ok (place.Message g) → s.mbis ≡ false → PrivateStep s cells (access a)
    unfolding target_of aims
    no_messages g e h =
        write_left (place.Message g) e
        (λ i. unaimed_left s (send a.side g (written_value a)) i (cells i) (none_addressed s (written_value a) i h))

    -- .. or a message that names a missing interrupt
    pub missing_message : (g : Message) → place_of a ≡ Ok (place.Message g) → (cells (shared (written_value a % 8192))).implemented ≡ false
        → PrivateStep s cells (access a)
    unfolding target_of aims
    missing_message g e h = write_left (place.Message g) e (λ i. by i (addresses s (written_value a) i) refl)
      where
        by : (i : Interrupt) (b : Bool) → addresses s (written_value a) i ≡ b → Leaves i (send a.side g (written_value a))
        by i true t =
            missing_left s i (cells i) (send a.side g (written_value a)) refl
            (ap (λ (j : Interrupt). (cells j).implemented) (addressed s (written_value a) i t) ∙ h)
        by i false t = unaimed_left s (send a.side g (written_value a)) i (cells i) t

-- on the lent tables a number that is no SPI's and no extended SPI's names a missing interrupt
pub no_spi : (s : Shape) (t : Tables) (a : Access) (g : Message) → place_of a ≡ Ok (place.Message g)
    → home_of (shared (written_value a % 8192)) ≡ nowhere → PrivateStep s (cell_of s t) (access a)
unfolding implemented
no_spi s t a g e h =
    let i = shared (written_value a % 8192) in
    missing_message s (cell_of s t) a g e
    (cell_present s t i ∙ (ap (λ (z : Home). in_range s i && present_at t (intid i % 32) z) h ∙ and-false (in_range s i)))
