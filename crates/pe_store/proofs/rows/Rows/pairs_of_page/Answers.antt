use Rattle.std.proofs.Common.{◌≡◌, ◌+◌, ◌∙◌, sym, ap, subst, List, [], ◌∷◌, ◌++◌, append_assoc, append-nil, flat_map, filter, map, option_to_list, ℕ}
use Rattle.std.specs.BTreeMap.Range.{range_contains}
use Rattle.std.specs.Map.{values_of}
use Rattle.std.specs.declared.ops.Bound.TheVariants.{Included, Excluded}
use Rattle.pe_store.specs.declared.place.Ending.{Ending}
use Rattle.pe_store.specs.Entries.{pair_of, IsOnePerPair}
use Rattle.pe_store.specs.Pages.{pairs_of_page}
use Rattle.pe_store.specs.Pairs.{Pair}
use Rattle.pe_store.specs.Places.{PlacedEntries, ending_cmp, row_at}
use Rattle.pe_store.proofs.OnePerPair.{one-per-pair}
use Rattle.pe_store.proofs.PageRows.{first_by, pages-read}
use Rattle.pe_store.proofs.rows.Rows.pairs_of_page.Goals as goal

grown : {X A : Type 0} (f : X → List A) (old new : List A) (x : X) (before after : List X) (whole : List A) → new ≡ old ++ f x → before ≡ x ∷ after → old ++ flat_map f before ≡ whole → new ++ flat_map f after ≡ whole
grown f old new x before after whole is first h =
    ap (λ xs. xs ++ flat_map f after) is ∙ append_assoc old (f x) (flat_map f after) ∙ ap (λ xs. old ++ flat_map f xs) (sym first) ∙ h

done : {X A : Type 0} (f : X → List A) (old : List A) (before : List X) (whole : List A) → before ≡ [] → old ++ flat_map f before ≡ whole → old ≡ whole
done f old before whole none h = sym (append-nil old) ∙ ap (λ xs. old ++ flat_map f xs) (sym none) ∙ h

pub loop-ending-init : goal.loop-ending-init
loop-ending-init c =
    let rows = c.self.inside.map.entries in
    let pages = c.self.inside.endings.pages.keys in
    let by : c.from-by.result ≡ c.args.doc = c.from-by.ensures ∙ c.get.ensures.value in
    let low : c.first_by.result ≡ first_by c.args.doc = c.first_by.ensures ∙ ap first_by by in
    let high : c.first_by-2.result ≡ first_by (c.args.doc + 1) = c.first_by-2.ensures ∙ ap (λ (n : ℕ). first_by (n + 1)) by in
    let list : c.into_iter-ending-iterator.result ≡ filter (range_contains ending_cmp (Included (first_by c.args.doc)) (Excluded (first_by (c.args.doc + 1)))) pages =
    c.into_iter-ending-iterator.ensures.into_iter_gives ∙ c.range-ending-items.ensures.between tt
    ∙ ap (λ (x : Ending). filter (range_contains ending_cmp (Included x) (Excluded c.first_by-2.result)) pages) low
    ∙ ap (λ (x : Ending). filter (range_contains ending_cmp (Included (first_by c.args.doc)) (Excluded x)) pages) high in
    let read =
    subst
    (λ (rs : PlacedEntries).
    flat_map (λ (x : Ending). map pair_of (option_to_list (row_at rs x.place))) c.into_iter-ending-iterator.result ≡ pairs_of_page c.args.doc (values_of rs))
    c.self.view_is
    (ap (flat_map (λ (x : Ending). map pair_of (option_to_list (row_at rows x.place)))) list
    ∙ pages-read c.args.doc rows pages c.self.invariant.ordered c.self.invariant.paged c.range-ending-items.ensures.ordered) in
    ap (λ (ps : List Pair). ps ++ flat_map (λ (x : Ending). map pair_of (option_to_list (row_at c.args.self.now x.place))) c.into_iter-ending-iterator.result) c.new-pairs.ensures.items ∙ read

pub loop-ending-preserved : goal.loop-ending-preserved
loop-ending-preserved c =
    let f : Ending → List Pair = λ (x : Ending). map pair_of (option_to_list (row_at c.args.self.now x.place)) in
    let read = c.in_ok-put_pair.ensures ∙ ap (λ o. c.loop-ending.pairs.items ++ map pair_of (option_to_list o)) c.at.ensures.value in
    grown f c.loop-ending.pairs.items c.put_pair.new.pairs.items c.in-Some.ending.now c.loop-ending.ending-iterator c.next.new.self (pairs_of_page c.args.doc (values_of c.args.self.now)) read c.in-Some.ensures.steps
    c.loop-ending.invariant

pub returns-clause-pairs : goal.returns-clause-pairs
returns-clause-pairs c =
    done (λ (x : Ending). map pair_of (option_to_list (row_at c.args.self.now x.place))) c.loop-ending.pairs.items c.loop-ending.ending-iterator (pairs_of_page c.args.doc (values_of c.args.self.now)) c.in-None.ensures.steps.0
    c.loop-ending.invariant

pub returns-clause-one_per_pair : goal.returns-clause-one_per_pair
returns-clause-one_per_pair c =
    subst (λ (rs : PlacedEntries). IsOnePerPair (values_of rs)) c.self.view_is
    (one-per-pair c.same_pairs_are_one.ensures c.self.inside.map.entries c.self.inside.serials c.self.inside.endings.moments.keys c.self.inside.endings.pages.keys c.self.inside.next c.self.invariant)
