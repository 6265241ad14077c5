-- What an access at a place asks of the engine, from well-formed tables.
--   target_room       the tables, and the bank of the target's frame
--   target_numbered   the SGIs among its interrupts
--   records_lent      the lengths of the record tables
use Rattle.std.specs.Prelude.{Ok}
use mathlib.Core.Path.{◌≡◌, sym, ap, subst, ◌∙◌}
use mathlib.Core.Bool.{true}
use lib.ListN.{length}
use Rattle.types.specs.declared.Frame.{Frame}
use Rattle.types.specs.declared.Frame.TheVariants.{Dist, Redist}
use Rattle.types.specs.declared.Shape.{Shape}
use Rattle.types.specs.declared.Access.{Access}
use Rattle.types.specs.declared.Place.{Place}
use Rattle.types.specs.declared.Target.{Target}
use Rattle.types.specs.declared.Target.TheVariants.{Digits, Typer, Message}
use Rattle.meaning.specs.Layout.{Tables, records_of, slots, well_formed}
use Rattle.meaning.specs.Registers.{place_of, target_of}
use Rattle.meaning.proofs.After.{well_lengths, records_length}
use Rattle.register_decoder.proofs.Windows.{Aimed, placed_aimed}
use Rattle.table_spans.specs.declared.Bank.{Bank}
use Rattle.engine.specs.Target.{frame_at, FitsAt, Room, NumberedAt}
use Rattle.engine.proofs.Targets.{interrupts_of}

frame_of_target : (r : Frame) (x : Target) → Aimed r x → frame_at x ≡ r
frame_of_target r (Digits w) h = h.frame_is
frame_of_target r Typer h = sym h
frame_of_target r (Message g) h = sym h

fits_target : (r : Frame) (x : Target) → Aimed r x → FitsAt x
fits_target r (Digits w) h = h.fits
fits_target r Typer h = tt
fits_target r (Message g) h = tt

numbered : (r : Frame) (x : Target) → Aimed r x → NumberedAt x (interrupts_of x)
numbered r (Digits w) h = h.sgis
numbered r Typer h = tt
numbered r (Message g) h = tt

module _ (s : Shape) (t : Tables) (well : well_formed s t ≡ true) where
  records_lent : (f : Frame) → length (records_of f t) ≡ slots f
  records_lent f = records_length t (well_lengths s t well) f

  module _ (a : Access) (p : Place) (e : place_of a ≡ Ok p) where
    pub target_frame : frame_at (target_of p) ≡ a.frame
    target_frame = frame_of_target a.frame (target_of p) (placed_aimed a p e)

    pub target_fits : FitsAt (target_of p)
    target_fits = fits_target a.frame (target_of p) (placed_aimed a p e)

    pub target_numbered : NumberedAt (target_of p) (interrupts_of (target_of p))
    target_numbered = numbered a.frame (target_of p) (placed_aimed a p e)

    pub target_room : (x : Target) → x ≡ target_of p → (b : Bank) → b.frame ≡ a.frame → Room x b t.dist t.redist
    target_room x aim b here =
        record {
          dist_lent = records_lent Dist;
          redist_lent = records_lent Redist;
          frame = here ∙ sym (ap frame_at aim ∙ target_frame);
          fits = subst FitsAt (sym aim) target_fits;
        }
