use Rattle.std.proofs.Common.{◌≡◌, ◌++◌, length}
use Rattle.pe_lines.specs.Steps.{without_escapes}
use Rattle.pe_lines.proofs.span.without_escapes.Given as goal

abbrev pub invariant-loop-place : goal.invariant-loop-place
invariant-loop-place l = l.out.items ++ without_escapes l.rest ≡ without_escapes l.bytes

abbrev pub decreases-loop-place : goal.decreases-loop-place
decreases-loop-place l = length l.rest
