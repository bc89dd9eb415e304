use Rattle.pe_changes.proofs.Counted.{counted, entry-is}
use Rattle.pe_changes.proofs.Stored.{stored-is}
use Rattle.pe_changes.proofs.Stores.{start, quiet, set-regular, counts-is, embargo-is, dismissed, unnamed, ended, ended-below}
use Rattle.pe_changes.proofs.steps.store_steps.Goals as goal

pub returns : goal.returns
returns c = let laws = c.history_laws.ensures in record {
  start = start;
  stored = stored-is laws;
  there = entry-is laws;
  unnamed = unnamed laws;
  counts = counts-is laws;
  embargo = embargo-is laws;
  counted = counted laws c.same_pairs_are_one.ensures;
  quiet = quiet laws;
  set = set-regular laws c.same_pairs_are_one.ensures;
  dismissed = dismissed laws c.same_pairs_are_one.ensures;
  ended = ended laws;
  ended_below = ended-below laws;
}
