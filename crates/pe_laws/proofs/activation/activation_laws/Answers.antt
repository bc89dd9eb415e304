use Rattle.pe_laws.proofs.Stamps.{activates-current, activates-within, stamp-start, stamp-step, stamp-newest, stamp-beyond, stamp-unmade, sticky-by-stamp, transient-by-stamp}
use Rattle.pe_laws.proofs.StampTimes.{stamp-time}
use Rattle.pe_laws.proofs.Activated.{activated-in-frames}
use Rattle.pe_laws.proofs.activation.activation_laws.Goals as goal

pub returns : goal.returns
returns c = record {
  activates_current = activates-current;
  activates_within = activates-within;
  stamp_start = stamp-start;
  stamp_step = stamp-step;
  stamp_newest = stamp-newest;
  stamp_beyond = stamp-beyond;
  stamp_unmade = stamp-unmade;
  sticky_by_stamp = sticky-by-stamp;
  transient_by_stamp = transient-by-stamp;
  stamp_time = stamp-time;
  activated_in_frames = activated-in-frames;
}
