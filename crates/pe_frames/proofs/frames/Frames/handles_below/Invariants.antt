use Rattle.std.proofs.Common.{length, ◌-◌}
use Rattle.pe_frames.specs.Order.{handles_under}
use Rattle.pe_frames.proofs.Climbing.{IsListed}
use Rattle.pe_frames.proofs.frames.Frames.handles_below.Given as goal

abbrev pub decreases-loop-next : goal.decreases-loop-next
decreases-loop-next g l = length (handles_under l.self.entries l.h) - length l.below.items

abbrev pub invariant-loop-next : goal.invariant-loop-next
invariant-loop-next g l = IsListed l.self.entries l.h l.at l.below.items
