use Rattle.std.proofs.Common.{rules}
use Rattle.pe_io.proofs.Bytes.{appends_more}
use Rattle.pe_io.proofs.traits.write_whole.Goals as goal

pub loop-rest-preserved : goal.loop-rest-preserved
loop-rest-preserved g c =
    let (done, split, appended) = c.loop-rest.invariant.split in
    record {
      kept = search (rules, c.in_ok-count.ensures.faults);
      split = appends_more _ _ _ _ done _ c.in_ok-count.count split appended c.in_ok-count.ensures.bytes;
    }
