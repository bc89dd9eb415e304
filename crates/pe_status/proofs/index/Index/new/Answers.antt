use Rattle.pe_store.specs.Numbers.{HoldsNone}
use Rattle.pe_status.proofs.Placing.{value-empty, taken-empty}
use Rattle.pe_status.proofs.index.Index.new.Goals as goal

pub returns-clause-rows : goal.returns-clause-rows
returns-clause-rows c = value-empty c.new.result c.new.ensures.empty

pub returns-clause-pairs : goal.returns-clause-pairs
unfolding HoldsNone
returns-clause-pairs c = c.new-2.ensures

pub returns-clause-owned : goal.returns-clause-owned
returns-clause-owned c = taken-empty c.new-3.result c.new-3.ensures.empty
