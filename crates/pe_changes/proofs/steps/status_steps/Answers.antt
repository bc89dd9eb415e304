use Rattle.pe_changes.proofs.Registered.{start, counted, there, below, quiet, made, dropped, ended}
use Rattle.pe_changes.proofs.steps.status_steps.Goals as goal

pub returns : goal.returns
returns c = let laws = c.history_laws.ensures in record {
  start = start laws;
  counted = counted laws;
  there = there;
  below = below laws;
  quiet = quiet laws;
  made = made laws;
  dropped = dropped laws;
  ended = ended laws;
}
