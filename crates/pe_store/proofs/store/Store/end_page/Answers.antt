use Rattle.std.proofs.Common.{◌≡◌, ◌∙◌, sym, ap, subst, List}
use Rattle.pe_store.specs.declared.entry.Entry.{Entry}
use Rattle.pe_store.specs.Entries.{StoreValue, entry_of, without_all, IsOnePerPair}
use Rattle.pe_store.specs.Pages.{pairs_of_page, is_listed, AreApart}
use Rattle.pe_store.specs.Pairs.{Pair}
use Rattle.pe_store.proofs.PageEntries.{apart-pages, listed-pages, found-pages, pages-taken}
use Rattle.pe_store.proofs.store.Store.end_page.Goals as goal

pub returns-clause-apart : goal.returns-clause-apart
returns-clause-apart c =
    let es = c.args.self.now.entries in
    let one : IsOnePerPair es = subst (λ (v : StoreValue). IsOnePerPair v.entries) c.self.view_is c.in_ok-pairs.ensures.one_per_pair in
    let is : c.in_ok-pairs.pairs.items ≡ pairs_of_page c.args.doc es = c.in_ok-pairs.ensures.pairs ∙ ap (λ (v : StoreValue). pairs_of_page c.args.doc v.entries) c.self.view_is in
    subst AreApart (sym is) (apart-pages c.same_pairs_are_one.ensures c.args.doc es one)

pub returns-clause-listed : goal.returns-clause-listed
returns-clause-listed c pair =
    let es = c.args.self.now.entries in
    let one : IsOnePerPair es = subst (λ (v : StoreValue). IsOnePerPair v.entries) c.self.view_is c.in_ok-pairs.ensures.one_per_pair in
    let is : c.in_ok-pairs.pairs.items ≡ pairs_of_page c.args.doc es = c.in_ok-pairs.ensures.pairs ∙ ap (λ (v : StoreValue). pairs_of_page c.args.doc v.entries) c.self.view_is in
    ap (is_listed pair) is ∙ listed-pages c.same_pairs_are_one.ensures c.args.doc es pair one

pub returns-clause-list : goal.returns-clause-list
returns-clause-list c =
    let es = c.args.self.now.entries in
    let one : IsOnePerPair es = subst (λ (v : StoreValue). IsOnePerPair v.entries) c.self.view_is c.in_ok-pairs.ensures.one_per_pair in
    let is : c.in_ok-pairs.pairs.items ≡ pairs_of_page c.args.doc es = c.in_ok-pairs.ensures.pairs ∙ ap (λ (v : StoreValue). pairs_of_page c.args.doc v.entries) c.self.view_is in
    c.clear_all.ensures.list ∙ ap (λ (ps : List Pair). without_all ps es) (c.deref.ensures.value ∙ is) ∙ pages-taken c.same_pairs_are_one.ensures c.args.doc es one

pub returns-clause-found : goal.returns-clause-found
returns-clause-found c pair =
    let es = c.args.self.now.entries in
    let one : IsOnePerPair es = subst (λ (v : StoreValue). IsOnePerPair v.entries) c.self.view_is c.in_ok-pairs.ensures.one_per_pair in
    let is : c.in_ok-pairs.pairs.items ≡ pairs_of_page c.args.doc es = c.in_ok-pairs.ensures.pairs ∙ ap (λ (v : StoreValue). pairs_of_page c.args.doc v.entries) c.self.view_is in
    let list = c.clear_all.ensures.list ∙ ap (λ (ps : List Pair). without_all ps es) (c.deref.ensures.value ∙ is) ∙ pages-taken c.same_pairs_are_one.ensures c.args.doc es one in
    ap (λ (xs : List Entry). entry_of xs pair) list ∙ found-pages c.same_pairs_are_one.ensures c.args.doc es pair one
