use Rattle.pe_laws.proofs.SecondStamps.{second-start, second-step, second-newest, second-beyond, second-unmade, active-by-stamps}
use Rattle.pe_laws.proofs.activation.history_activation_laws.Goals as goal

pub returns : goal.returns
returns c = record {
  second_stamp_start = second-start;
  second_stamp_step = second-step;
  second_stamp_newest = second-newest;
  second_stamp_beyond = second-beyond;
  second_stamp_unmade = second-unmade;
  active_by_stamps = active-by-stamps;
}
