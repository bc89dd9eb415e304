use Rattle.std.proofs.Common.{length}
use Rattle.pe_frames.specs.Forest.{path_of}
use Rattle.pe_activation.proofs.Notified.{IsActivatedUpTo}
use Rattle.pe_activation.proofs.notification.activate_upward.Given as goal

abbrev pub invariant-loop-parent : goal.invariant-loop-parent
invariant-loop-parent g l = IsActivatedUpTo g.D.Activatable.with_stamp l.now l.fn.frames l.frames l.fn.h l.at l.count l.fn.steps l.steps

abbrev pub decreases-loop-parent : goal.decreases-loop-parent
decreases-loop-parent g l = length (path_of l.fn.frames.entries l.at)
