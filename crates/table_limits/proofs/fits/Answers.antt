-- `fits` is `well_formed` of the tables that are lent, and where that is true their lengths and the shape's numbers are known.
use mathlib.Core.Path.{◌≡◌, refl, sym, ◌∙◌}
use mathlib.Core.Bool.{true}
use Rattle.types.specs.declared.Frame.TheVariants.{Dist, Redist}
use Rattle.meaning.specs.Layout.{Tables, lent, well_formed}
use Rattle.meaning.proofs.After.{well_shape, well_lengths, records_length, presence_length}
use Rattle.table_limits.proofs.fits.Goals as goal

pub returns-clause-judged : goal.returns-clause-judged
returns-clause-judged c = c.well_formed-2.ensures _ refl refl refl refl

pub returns-clause-sizes : goal.returns-clause-sizes
returns-clause-sizes c h =
    let a = c.args in
    let t : Tables = lent a.dist.now a.redist.now a.dist_presence.now a.redist_presence.now in
    let well : well_formed a.shape t ≡ true = sym (c.well_formed-2.ensures t refl refl refl refl) ∙ h in
    let lengths = well_lengths a.shape t well in
    record {
      shape = well_shape a.shape t well;
      dist = records_length t lengths Dist;
      redist = records_length t lengths Redist;
      dist_presence = presence_length t lengths Dist;
      redist_presence = presence_length t lengths Redist;
    }
