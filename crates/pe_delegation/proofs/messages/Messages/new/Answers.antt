use Rattle.pe_counts.specs.Counts.{count_of}
use Rattle.pe_delegation.proofs.Keeping.{nothing-kept}
use Rattle.pe_delegation.proofs.messages.Messages.new.Goals as goal

pub invariant_of-result : goal.invariant_of-result
invariant_of-result c = nothing-kept c.new.result.items c.new-2.result.items (count_of c.new-3.result) c.new.ensures.items c.new-2.ensures.items c.new-3.ensures
