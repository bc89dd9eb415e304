use Rattle.std.proofs.Common.{◌≡◌}
use Rattle.pe_arena.specs.declared.handle.Handle.{Handle}
use Rattle.pe_frames.specs.Order.{after, handles_under}
use Rattle.pe_activation.specs.Consuming.{leaves, IsChangedTo}
use Rattle.pe_activation.proofs.Following.{left}
use Rattle.pe_activation.proofs.consumption.consume_under.Given as goal

abbrev pub invariant-loop-following : goal.invariant-loop-following
invariant-loop-following g l = record {
  at : Handle;
  walked : IsChangedTo (leaves g.D.Activatable.stamp_of g.D.Activatable.with_stamp g.D.Activatable.with_second l.what) l.fn.frames l.frames l.root at l.fn.steps l.steps;
  following : after at (handles_under l.fn.frames.entries l.root) ≡ l.following;
}

abbrev pub decreases-loop-following : goal.decreases-loop-following
decreases-loop-following g l = left l.following (handles_under l.fn.frames.entries l.root)
