use Rattle.std.proofs.Common.{rules, ap, ℕ, Option}
use Rattle.std.specs.Option.{unwrap_or}
use Rattle.pe_store.specs.Entries.{dismissals_of}
use Rattle.pe_store.specs.Numbers.{HoldsNone}
use Rattle.pe_store.proofs.Dismissals.{below-none}
use Rattle.pe_store.proofs.store.Store.new.Goals as goal

pub invariant_of-result : goal.invariant_of-result
invariant_of-result c = (search rules, below-none c.new-2.result c.new-2.ensures)

pub returns-clause-dismissals : goal.returns-clause-dismissals
unfolding dismissals_of HoldsNone
returns-clause-dismissals c = λ pair. ap (λ (o : Option ℕ). unwrap_or o 0) (c.new-2.ensures pair)
