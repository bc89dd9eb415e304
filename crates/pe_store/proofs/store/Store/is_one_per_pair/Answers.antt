use Rattle.std.proofs.Common.{subst}
use Rattle.pe_store.specs.Entries.{StoreValue, IsOnePerPair}
use Rattle.pe_store.proofs.store.Store.is_one_per_pair.Goals as goal

pub returns : goal.returns
returns c = subst (λ (v : StoreValue). IsOnePerPair v.entries) c.self.view_is c.is_one_per_pair.ensures
