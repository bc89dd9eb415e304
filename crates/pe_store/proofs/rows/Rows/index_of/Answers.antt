use Rattle.std.proofs.Common.{◌≡◌, ◌∙◌, sym, subst, slice_get, Some}
use Rattle.std.proofs.lemmas.Iterator.Consumers.{count_from_yields_List, YieldsList-from_rest}
use Rattle.pe_store.specs.Places.{PlacedEntries}
use Rattle.pe_store.proofs.DueFirst.{count-before}
use Rattle.pe_store.proofs.rows.Rows.index_of.Goals as goal

pub returns : goal.returns
returns c i e there =
    let within = subst (λ (rows : PlacedEntries). slice_get rows i ≡ Some (c.args.place, e)) (sym c.self.view_is) there in
    count_from_yields_List c.range.result c.count.result c.count.ensures.ran (YieldsList-from_rest _ (c.range.ensures.between tt))
    ∙ count-before c.self.inside.map.entries i c.args.place e c.self.invariant.ordered within
