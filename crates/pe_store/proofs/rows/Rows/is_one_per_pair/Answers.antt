use Rattle.std.proofs.Common.{subst}
use Rattle.std.specs.Map.{values_of}
use Rattle.pe_store.specs.Entries.{IsOnePerPair}
use Rattle.pe_store.specs.Places.{PlacedEntries}
use Rattle.pe_store.proofs.OnePerPair.{one-per-pair}
use Rattle.pe_store.proofs.rows.Rows.is_one_per_pair.Goals as goal

pub returns : goal.returns
returns c =
    subst (λ (rs : PlacedEntries). IsOnePerPair (values_of rs)) c.self.view_is
    (one-per-pair c.same_pairs_are_one.ensures c.self.inside.map.entries c.self.inside.serials c.self.inside.endings.moments.keys c.self.inside.endings.pages.keys c.self.inside.next c.self.invariant)
