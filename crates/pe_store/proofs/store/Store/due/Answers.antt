use Rattle.std.proofs.Common.{subst, Some}
use Rattle.pe_store.specs.Due.{IsDue}
use Rattle.pe_store.specs.Entries.{StoreValue}
use Rattle.pe_store.proofs.DueFirst.{due-first}
use Rattle.pe_store.proofs.store.Store.due.Goals as goal

pub returns : goal.returns
returns c =
    let first = c.in_ok-first.first in
    let is = c.in_ok-first.ensures.some in
    subst (λ (v : StoreValue). IsDue v.entries c.args.upto (Some (first.by, c.index_of.result))) c.self.view_is
    (due-first c.self.inside.rows first is c.args.upto c.index_of.result c.in_ok-first.ensures.low (c.index_of.ensures is.place is.entry is.there))
