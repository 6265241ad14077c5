-- `Record::put` is the record with one bit of its cell put.
use Rattle.record_bits.proofs.Puts.{decode-put}
use Rattle.record.proofs.Record.put.Goals as goal

pub returns : goal.returns
returns c =
    let r = c.self.inside in
    rw (← c.self.view_is, c.put.ensures r.implemented, decode-put)
