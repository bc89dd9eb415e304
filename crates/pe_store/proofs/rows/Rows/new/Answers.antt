use Rattle.pe_store.proofs.RowChanges.{rows-empty}
use Rattle.pe_store.proofs.rows.Rows.new.Goals as goal

pub invariant_of-result : goal.invariant_of-result
invariant_of-result c =
    rows-empty c.new.result.entries c.new-2.result c.new-3.result.moments.keys c.new-3.result.pages.keys c.new.ensures.empty c.new.ensures.ordered c.new-2.ensures c.new-3.ensures.moments c.new-3.ensures.pages
