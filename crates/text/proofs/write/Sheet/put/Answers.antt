-- `Sheet::put` puts a text. One way out.
use Rattle.std.proofs.Common.{rules, refl}
use Rattle.std.proofs.lemmas.Slice.{overwrites}
use Rattle.text.proofs.write.Sheet.put.Goals as goal

pub returns : goal.returns
returns c =
    record {
      put = record { is = search (rules, overwrites); kept = search (rules, overwrites); end = refl };
      same = refl;
      long = search (rules, overwrites);
    }
