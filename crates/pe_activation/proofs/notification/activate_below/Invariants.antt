use Rattle.std.proofs.Common.{◌≡◌}
use Rattle.pe_arena.specs.declared.handle.Handle.{Handle}
use Rattle.pe_frames.specs.Forest.{entry_of}
use Rattle.pe_frames.specs.Order.{after, handles_under}
use Rattle.pe_activation.specs.Notifying.{is_same_as}
use Rattle.pe_activation.proofs.Following.{left}
use Rattle.pe_activation.proofs.Notified.{IsActivatedTo}
use Rattle.pe_activation.proofs.notification.activate_below.Given as goal

abbrev pub invariant-loop-following : goal.invariant-loop-following
invariant-loop-following g l = record {
  at : Handle;
  walked : IsActivatedTo g.D.Activatable.with_stamp l.now (is_same_as g.D.Activatable.is_same_origin (entry_of l.fn.frames.entries l.root)) l.fn.frames l.frames l.root at l.count l.fn.steps l.steps;
  following : after at (handles_under l.fn.frames.entries l.root) ≡ l.following;
}

abbrev pub decreases-loop-following : goal.decreases-loop-following
decreases-loop-following g l = left l.following (handles_under l.fn.frames.entries l.root)
