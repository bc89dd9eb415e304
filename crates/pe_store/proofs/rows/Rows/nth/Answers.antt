use Rattle.std.proofs.Common.{◌≡◌, ℕ, ◌∙◌, sym, ap, subst, slice_get, None, Some, IfSome, Option, Bor}
use Rattle.std.proofs.lemmas.Iterator.Consumers.{nth_from_yields_List, YieldsList-from_rest}
use Rattle.std.specs.Map.{values_of}
use Rattle.std.specs.Option.{option_copied}
use Rattle.pe_store.specs.declared.entry.Entry.{Entry}
use Rattle.pe_store.specs.Entries.{pair_of, entry_of}
use Rattle.pe_store.specs.Places.{PlacedEntries}
use Rattle.pe_store.proofs.DueFirst.{row-of-value, row-at-index}
use Rattle.pe_store.proofs.RowChanges.{found-at}
use Rattle.pe_store.proofs.rows.Rows.nth.Goals as goal

own : (rows : PlacedEntries) (i : ℕ) (r : Option (Bor Entry)) → ((e : Entry) → slice_get (values_of rows) i ≡ Some e → entry_of (values_of rows) (pair_of e) ≡ Some e) → option_copied r ≡ slice_get (values_of rows) i
    → IfSome r (λ e. entry_of (values_of rows) (pair_of e.now) ≡ Some e.now)
own rows i None each is = tt
own rows i (Some e) each is = each e.now (sym is)

pub returns-clause-value : goal.returns-clause-value
returns-clause-value c =
    nth_from_yields_List c.nth.result c.nth.new.self c.args.index c.nth.ensures.ran (YieldsList-from_rest _ c.values.ensures.rest)
    ∙ ap (λ (rows : PlacedEntries). slice_get (values_of rows) c.args.index) c.self.view_is

pub returns-clause-own : goal.returns-clause-own
returns-clause-own c =
    let rows = c.self.inside.map.entries in
    let is : option_copied c.nth.result ≡ slice_get (values_of rows) c.args.index = nth_from_yields_List c.nth.result c.nth.new.self c.args.index c.nth.ensures.ran (YieldsList-from_rest _ c.values.ensures.rest) in
    subst (λ (rs : PlacedEntries). IfSome c.nth.result (λ e. entry_of (values_of rs) (pair_of e.now) ≡ Some e.now)) c.self.view_is
    (own rows c.args.index c.nth.result
    (λ e at.
    let row = row-of-value rows c.args.index e at in
    found-at c.same_pairs_are_one.ensures rows c.self.inside.serials c.self.inside.endings.moments.keys c.self.inside.endings.pages.keys c.self.inside.next c.self.invariant row.0 e
    (row-at-index rows c.args.index row.0 e c.self.invariant.ordered row.1))
    is)
