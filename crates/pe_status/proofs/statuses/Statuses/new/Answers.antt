use Rattle.pe_status.proofs.Seen.{empty-index}
use Rattle.pe_status.proofs.statuses.Statuses.new.Goals as goal

pub invariant_of-result : goal.invariant_of-result
invariant_of-result c = empty-index c.new.result.items c.new-2.result c.new.ensures.items c.new-2.ensures.rows c.new-2.ensures.pairs c.new-2.ensures.owned c.new-2.ensures.pages
