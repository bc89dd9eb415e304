use Rattle.std.proofs.Common.{◌≡◌, false}
use Rattle.pe_bench.proofs.cutter.lines_fed.Given as goal

abbrev pub invariant-pieces : goal.invariant-pieces
invariant-pieces l = l.cutter.finished ≡ false
