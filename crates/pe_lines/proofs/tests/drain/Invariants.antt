use Rattle.std.proofs.Common.{◌≡◌}
use Rattle.pe_lines.proofs.tests.drain.Given as goal

abbrev pub invariant-lines : goal.invariant-lines
invariant-lines l = l.cutter.finished ≡ l.fn.cutter.finished
