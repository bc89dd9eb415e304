use Rattle.std.proofs.Common.{◌≡◌, drop}
use Rattle.pe_store.specs.Entries.{without_all}
use Rattle.pe_store.proofs.store.Store.clear_all.Given as goal

abbrev pub invariant-loop-feature : goal.invariant-loop-feature
invariant-loop-feature l =
    (without_all (drop l.feature-index l.pairs) l.self.entries ≡ without_all l.pairs l.initial.self.entries) × (l.self.dismissals ≡ l.initial.self.dismissals)
