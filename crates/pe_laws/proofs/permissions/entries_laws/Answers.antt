use Rattle.pe_laws.proofs.Entries.{entries-once, entries-as-many}
use Rattle.pe_laws.proofs.permissions.entries_laws.Goals as goal

pub returns : goal.returns
returns c = record { entries_once = entries-once c.same_pairs_are_one.ensures; entries_as_many = entries-as-many c.same_pairs_are_one.ensures }
