-- Each turn takes an entry out.
use Rattle.std.proofs.Common.{length}
use Rattle.pe_bench.proofs.store.lapse_all.Given as goal

abbrev pub decreases-loop-lapsed : goal.decreases-loop-lapsed
decreases-loop-lapsed l = length l.store.entries
