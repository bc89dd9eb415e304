use Rattle.std.proofs.Common.{◌≡◌, ◌∙◌, sym, ap, subst, cond, List, None}
use Rattle.std.specs.Map.{values_of}
use Rattle.pe_store.specs.declared.entry.Entry.{Entry}
use Rattle.pe_store.specs.Entries.{StoreValue, entry_of}
use Rattle.pe_store.specs.Pairs.{Pair, is_same_pair}
use Rattle.pe_store.proofs.Lists.{found-without, without-none, list-cleared}
use Rattle.pe_store.proofs.store.Store.clear.Goals as goal

pub returns-in-Some-clause-found : goal.returns-in-Some-clause-found
returns-in-Some-clause-found c pair =
    let q : Pair = (c.args.feature, c.args.key.now) in
    let list = list-cleared c.same_pairs_are_one.ensures q c.self.inside.rows c.take.new.self c.in-Some.place c.take.result c.in-Some.ensures.some c.take.ensures.value c.take.ensures.list in
    ap (λ (es : List Entry). entry_of es pair) list ∙ found-without c.same_pairs_are_one.ensures q pair (values_of c.self.inside.rows)
    ∙ ap (λ (v : StoreValue). cond (is_same_pair q pair) None (entry_of v.entries pair)) c.self.view_is

pub returns-in-None-clause-list : goal.returns-in-None-clause-list
returns-in-None-clause-list c =
    let q : Pair = (c.args.feature, c.args.key.now) in
    let none : entry_of c.args.self.now.entries q ≡ None = subst (λ (v : StoreValue). entry_of v.entries q ≡ None) c.self.view_is c.in-None.ensures.none in
    sym (without-none c.same_pairs_are_one.ensures q c.args.self.now.entries none)
