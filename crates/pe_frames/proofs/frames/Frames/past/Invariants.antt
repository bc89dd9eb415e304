use Rattle.std.proofs.Common.{◌≡◌, Some, length}
use Rattle.std.specs.Option.{option_map}
use Rattle.pe_frames.specs.Forest.{entry_of, path_of}
use Rattle.pe_frames.specs.Kept.{position_of, standing_in}
use Rattle.pe_frames.proofs.Climbing.{IsWithin, past_of}
use Rattle.pe_frames.proofs.frames.Frames.past.Given as goal

abbrev pub decreases-loop-here : goal.decreases-loop-here
decreases-loop-here g l = length (path_of l.self.entries l.up)

abbrev pub invariant-loop-here : goal.invariant-loop-here
invariant-loop-here g l = record {
  below : IsWithin l.self.entries l.root l.up;
  stands : option_map (standing_in l.self.entries l.up) (entry_of l.self.entries l.up) ≡ Some (position_of l.here);
  same : past_of l.self.entries l.root l.up ≡ past_of l.self.entries l.root l.fn.at;
}
