use Rattle.std.proofs.Common.{◌≡◌, ◌∙◌, refl, sym, ap, Some, IsSome, subst}
use Rattle.std.specs.BTreeMap.{is_at}
use Rattle.std.specs.Map.{values_of}
use Rattle.std.proofs.lemmas.Map.Steps.{set_value_same}
use Rattle.pe_store.specs.declared.entry.Entry.{Entry}
use Rattle.pe_store.specs.declared.key.Life.{Life}
use Rattle.pe_store.specs.Entries.{pair_of, put_entry, stored}
use Rattle.pe_store.specs.Pairs.{Pair}
use Rattle.pe_store.specs.Places.{PlacedEntries, place_cmp, row_at, is_moment_of, is_page_of, ChangesEnd}
use Rattle.pe_store.proofs.Results.{on-err}
use Rattle.pe_store.proofs.RowChanges.{rows-replaced, list-replaced, replaced-pair}
use Rattle.pe_store.proofs.rows.Rows.change.Goals as goal

pub invariant_of-self-in_err-change_end : goal.invariant_of-self-in_err-change_end
invariant_of-self-in_err-change_end c =
    let e : Entry = c.in-Some.entry.now in
    let there : row_at c.self.inside.map.entries c.args.place ≡ Some e = sym c.in-Some.ensures.value in
    let same = (c.get_mut.follows.holds e).0 ∙ set_value_same (is_at (place_cmp c.args.place)) c.self.inside.map.entries e there in
    rw (same, c.in_err-change_end.ensures.moments_kept, c.in_err-change_end.ensures.pages_kept) c.self.invariant

pub returns-in_err-change_end-clause-err : goal.returns-in_err-change_end-clause-err
returns-in_err-change_end-clause-err c =
    let e : Entry = c.in-Some.entry.now in
    let there : row_at c.self.inside.map.entries c.args.place ≡ Some e = sym c.in-Some.ensures.value in
    on-err c.from_residual.result ((c.get_mut.follows.holds e).0 ∙ set_value_same (is_at (place_cmp c.args.place)) c.self.inside.map.entries e there ∙ c.self.view_is)

pub invariant_of-self-2 : goal.invariant_of-self-2
invariant_of-self-2 c =
    let s = c.self.inside in
    let e : Entry = c.in-Some.entry.now in
    let n : Entry = c.write.new.entry in
    let there : row_at s.map.entries c.args.place ≡ Some e = sym c.in-Some.ensures.value in
    let written = c.get_mut.follows.holds n in
    let life : c.args.life ≡ n.life = sym (ap (λ (x : Entry). x.life) c.write.ensures) in
    rows-replaced c.same_pairs_are_one.ensures s.map.entries s.serials s.endings.moments.keys s.endings.pages.keys s.next c.self.invariant c.args.place n e there (sym (ap pair_of c.write.ensures))
    (c.get_mut.follows.lender n).entries c.change_end.new.endings.moments.keys c.change_end.new.endings.pages.keys written.4 (written.3 (subst IsSome (sym there) refl)).0
    (subst (λ (l : Life). ChangesEnd is_moment_of e.life l c.args.place s.endings.moments.keys c.change_end.new.endings.moments.keys) life c.in_ok-change_end.ensures.moments)
    (subst (λ (l : Life). ChangesEnd is_page_of e.life l c.args.place s.endings.pages.keys c.change_end.new.endings.pages.keys) life c.in_ok-change_end.ensures.pages)

pub returns-clause-list : goal.returns-clause-list
returns-clause-list c = λ q row.
    let s = c.self.inside in
    let e : Entry = c.in-Some.entry.now in
    let n : Entry = c.write.new.entry in
    let there : row_at s.map.entries c.args.place ≡ Some e = sym c.in-Some.ensures.value in
    let pair : pair_of e ≡ q = replaced-pair s.map.entries c.args.self.now c.args.place q e c.self.view_is row there in
    ap values_of (c.get_mut.follows.holds n).0
    ∙ list-replaced c.same_pairs_are_one.ensures s.map.entries s.serials s.endings.moments.keys s.endings.pages.keys s.next c.self.invariant c.args.place n e there (sym (ap pair_of c.write.ensures))
    ∙ ap (λ (rows : PlacedEntries). put_entry n (values_of rows)) c.self.view_is
    ∙ ap (λ (x : Entry). put_entry x (values_of c.args.self.now)) c.write.ensures
    ∙ ap (λ (x : Pair). put_entry (stored x c.args.state c.args.life) (values_of c.args.self.now)) pair
