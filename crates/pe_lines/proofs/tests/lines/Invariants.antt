use Rattle.std.proofs.Common.{◌≡◌, false}
use Rattle.pe_lines.proofs.tests.lines.Given as goal

abbrev pub invariant-pieces : goal.invariant-pieces
invariant-pieces g l = l.cutter.finished ≡ false
