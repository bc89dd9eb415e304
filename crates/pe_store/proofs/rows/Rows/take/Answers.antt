use Rattle.std.proofs.Common.{◌≡◌, ◌∙◌, sym, ap, subst, Some}
use Rattle.std.specs.Map.{values_of}
use Rattle.pe_store.specs.Entries.{pair_of, entry_of, without}
use Rattle.pe_store.specs.Places.{PlacedEntries}
use Rattle.pe_store.proofs.RowChanges.{rows-taken, list-taken, found-at}
use Rattle.pe_store.proofs.rows.Rows.take.Goals as goal

pub invariant_of-self-2 : goal.invariant_of-self-2
invariant_of-self-2 c =
    rows-taken c.same_pairs_are_one.ensures c.self.inside.map.entries c.self.inside.serials c.self.inside.endings.moments.keys c.self.inside.endings.pages.keys c.self.inside.next c.self.invariant
    c.args.place c.in_ok-entry.entry (sym c.in_ok-entry.ensures.value) c.remove.new.self.entries c.forget.new.serials c.forget.new.endings.moments.keys c.forget.new.endings.pages.keys
    c.remove.ensures.ordered c.remove.ensures.updates.0 c.forget.ensures.serials c.forget.ensures.moments c.forget.ensures.pages

pub returns-clause-list : goal.returns-clause-list
returns-clause-list c =
    ap values_of c.remove.ensures.entries
    ∙ list-taken c.same_pairs_are_one.ensures c.self.inside.map.entries c.self.inside.serials c.self.inside.endings.moments.keys c.self.inside.endings.pages.keys c.self.inside.next c.self.invariant
    c.args.place c.in_ok-entry.entry (sym c.in_ok-entry.ensures.value)
    ∙ ap (λ (rows : PlacedEntries). without (pair_of c.in_ok-entry.entry) (values_of rows)) c.self.view_is

pub returns-clause-own : goal.returns-clause-own
returns-clause-own c =
    subst (λ (rows : PlacedEntries). entry_of (values_of rows) (pair_of c.in_ok-entry.entry) ≡ Some c.in_ok-entry.entry) c.self.view_is
    (found-at c.same_pairs_are_one.ensures c.self.inside.map.entries c.self.inside.serials c.self.inside.endings.moments.keys c.self.inside.endings.pages.keys c.self.inside.next c.self.invariant
    c.args.place c.in_ok-entry.entry (sym c.in_ok-entry.ensures.value))
