use Rattle.std.proofs.Common.{length, IsSome}
use Rattle.pe_frames.specs.Forest.{path_of, entry_of}
use Rattle.pe_frames.proofs.Climbing.{IsWithin}
use Rattle.pe_frames.proofs.frames.Frames.climbs_to.Given as goal

abbrev pub decreases-loop-root : goal.decreases-loop-root
decreases-loop-root g l = length (path_of l.self.entries l.up)

abbrev pub invariant-loop-root : goal.invariant-loop-root
invariant-loop-root g l = record {
  live : IsSome (entry_of l.self.entries l.up);
  down : IsWithin l.self.entries l.root l.up → IsWithin l.self.entries l.root l.fn.at;
  up : IsWithin l.self.entries l.root l.fn.at → IsWithin l.self.entries l.root l.up;
}
