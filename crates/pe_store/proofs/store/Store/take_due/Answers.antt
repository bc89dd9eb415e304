use Rattle.std.proofs.Common.{◌∙◌, sym, ap, subst, cond, List, None}
use Rattle.std.specs.Map.{values_of}
use Rattle.pe_store.specs.declared.entry.Entry.{Entry}
use Rattle.pe_store.specs.Due.{IsDueEntry}
use Rattle.pe_store.specs.Entries.{StoreValue, pair_of, entry_of}
use Rattle.pe_store.specs.Pairs.{is_same_pair}
use Rattle.pe_store.proofs.Lists.{found-without}
use Rattle.pe_store.proofs.DueFirst.{due-entry}
use Rattle.pe_store.proofs.store.Store.take_due.Goals as goal

pub returns-clause-due : goal.returns-clause-due
returns-clause-due c =
    let first = c.in_ok-first.first in
    let entry = c.in_ok-entry.entry in
    subst (λ (v : StoreValue). IsDueEntry v.entries c.args.upto first.by entry) c.self.view_is
    (due-entry c.self.inside.rows first entry c.in_ok-first.ensures.some c.args.upto c.in_ok-first.ensures.low (sym c.in_ok-entry.ensures.value))

pub returns-clause-found : goal.returns-clause-found
returns-clause-found c pair =
    let q = pair_of c.in_ok-entry.entry in
    ap (λ (es : List Entry). entry_of es pair) c.in_ok-entry.ensures.list ∙ found-without c.same_pairs_are_one.ensures q pair (values_of c.self.inside.rows)
    ∙ ap (λ (v : StoreValue). cond (is_same_pair q pair) None (entry_of v.entries pair)) c.self.view_is
