use Rattle.std.proofs.Common.{◌∙◌, ap}
use Rattle.pe_frames.specs.Kept.{forest_in}
use Rattle.pe_frames.proofs.Nodes.{nothing, forest-none, IsForest-none, IsSwept-none}
use Rattle.pe_frames.proofs.frames.Frames.new.Goals as goal

pub invariant_of-result : goal.invariant_of-result
invariant_of-result g c = rw (c.new.ensures, c.new-2.ensures.items) (record { forest = IsForest-none; swept = IsSwept-none })

pub returns : goal.returns
returns g c = ap (λ s. forest_in s c.new-2.result.items) c.new.ensures ∙ ap (λ hs. forest_in nothing hs) c.new-2.ensures.items ∙ forest-none
