use Rattle.std.proofs.Common.{◌≡◌, false}
use Rattle.pe_bench.proofs.cutter.lines_cut.Given as goal

abbrev pub invariant-texts : goal.invariant-texts
invariant-texts l = l.cutter.finished ≡ false
