use Rattle.std.proofs.Common.{◌≡◌, length}
use Rattle.pe_generator.specs.Summary.{behind_space}
use Rattle.pe_generator.proofs.summary.behind_space.Given as goal

-- the space stands in what is left
abbrev pub invariant-loop-rest : goal.invariant-loop-rest
invariant-loop-rest l = behind_space l.rest ≡ behind_space l.line

abbrev pub decreases-loop-rest : goal.decreases-loop-rest
decreases-loop-rest l = length l.rest
