use Rattle.std.proofs.Common.{◌≡◌}
use Rattle.pe_bench.proofs.cutter.lines_whole.Given as goal

abbrev pub invariant-lines : goal.invariant-lines
invariant-lines l = l.cutter.finished ≡ l.fn.cutter.finished
