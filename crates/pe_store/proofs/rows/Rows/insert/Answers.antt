use Rattle.std.proofs.Common.{◌≡◌, ◌+◌, ◌∙◌, sym, ap, subst, refl, None, arith, length}
use Rattle.std.specs.Map.{values_of}
use Rattle.pe_features.specs.Features.{feature_number}
use Rattle.pe_store.specs.declared.entry.Entry.{Entry}
use Rattle.pe_store.specs.declared.place.Place.{Place}
use Rattle.pe_store.specs.Entries.{pair_of, entry_of, put_entry}
use Rattle.pe_store.specs.Numbers.{IsChangedFor}
use Rattle.pe_store.specs.Places.{PlacedEntries, DropsEnd, is_moment_of, is_page_of}
use Rattle.pe_store.proofs.Numbered.{place-parts}
use Rattle.pe_store.proofs.RowChanges.{absent-number, rows-refused, rows-added-at, rows-undone, list-added-at, none-at}
use Rattle.pe_store.proofs.rows.Rows.insert.Goals as goal

pub invariant_of-self : goal.invariant_of-self
invariant_of-self c =
    let s = c.self.inside in
    let none : entry_of (values_of s.map.entries) (pair_of c.args.entry) ≡ None = subst (λ (rows : PlacedEntries). entry_of (values_of rows) (pair_of c.args.entry) ≡ None) (sym c.self.view_is) c.requires.absent in
    let absent = absent-number c.same_pairs_are_one.ensures s.map.entries s.serials s.endings.moments.keys s.endings.pages.keys s.next c.self.invariant (pair_of c.args.entry) none in
    let place : Place = record { feature = c.index.result; serial = s.next } in
    let at = place-parts place (record { feature = feature_number c.args.entry.feature; serial = s.next }) c.index.ensures.number refl in
    rows-refused c.same_pairs_are_one.ensures s.map.entries s.serials s.endings.moments.keys s.endings.pages.keys s.next c.self.invariant c.args.entry absent place at
    c.note.new.serials c.note.new.endings.moments.keys c.note.new.endings.pages.keys c.in_err-note.ensures.serials_kept c.in_err-note.ensures.moments_kept c.in_err-note.ensures.pages_kept

pub invariant_of-self-in-Ok : goal.invariant_of-self-in-Ok
invariant_of-self-in-Ok c =
    let s = c.self.inside in
    let none : entry_of (values_of s.map.entries) (pair_of c.args.entry) ≡ None = subst (λ (rows : PlacedEntries). entry_of (values_of rows) (pair_of c.args.entry) ≡ None) (sym c.self.view_is) c.requires.absent in
    let absent = absent-number c.same_pairs_are_one.ensures s.map.entries s.serials s.endings.moments.keys s.endings.pages.keys s.next c.self.invariant (pair_of c.args.entry) none in
    let place : Place = record { feature = c.index.result; serial = s.next } in
    let at = place-parts place (record { feature = feature_number c.args.entry.feature; serial = s.next }) c.index.ensures.number refl in
    let more : c.in-Some.next ≡ s.next + 1 = omega (arith, c.in-Some.ensures) in
    rows-added-at c.same_pairs_are_one.ensures s.map.entries s.serials s.endings.moments.keys s.endings.pages.keys s.next c.self.invariant c.args.entry absent place at
    c.put_row.new.map.entries c.note.new.serials c.note.new.endings.moments.keys c.note.new.endings.pages.keys c.in-Some.next c.put_row.ensures.ordered c.in-Ok.ensures.rows
    c.in_ok-note.ensures.serials c.in_ok-note.ensures.moments c.in_ok-note.ensures.pages more

pub invariant_of-self-in-Err : goal.invariant_of-self-in-Err
invariant_of-self-in-Err c =
    let s = c.self.inside in
    let none : entry_of (values_of s.map.entries) (pair_of c.args.entry) ≡ None = subst (λ (rows : PlacedEntries). entry_of (values_of rows) (pair_of c.args.entry) ≡ None) (sym c.self.view_is) c.requires.absent in
    let absent = absent-number c.same_pairs_are_one.ensures s.map.entries s.serials s.endings.moments.keys s.endings.pages.keys s.next c.self.invariant (pair_of c.args.entry) none in
    let place : Place = record { feature = c.index.result; serial = s.next } in
    let at = place-parts place (record { feature = feature_number c.args.entry.feature; serial = s.next }) c.index.ensures.number refl in
    let back : c.in-Err.entry ≡ c.args.entry = c.in-Err.ensures.given_back in
    rows-undone c.same_pairs_are_one.ensures s.map.entries s.serials s.endings.moments.keys s.endings.pages.keys s.next c.self.invariant c.args.entry absent place at
    c.put_row.new.map.entries c.note.new.serials c.forget_all.new.serials c.note.new.endings.moments.keys c.forget_all.new.endings.moments.keys c.note.new.endings.pages.keys c.forget_all.new.endings.pages.keys
    c.in-Err.ensures.kept c.in_ok-note.ensures.serials c.in_ok-note.ensures.moments c.in_ok-note.ensures.pages
    (subst (λ (e : Entry). IsChangedFor (pair_of e) None c.note.new.serials c.forget_all.new.serials) back c.forget_all.ensures.serials)
    (subst (λ (e : Entry). DropsEnd is_moment_of e.life place c.note.new.endings.moments.keys c.forget_all.new.endings.moments.keys) back c.forget_all.ensures.moments)
    (subst (λ (e : Entry). DropsEnd is_page_of e.life place c.note.new.endings.pages.keys c.forget_all.new.endings.pages.keys) back c.forget_all.ensures.pages)

pub returns-in-Ok-clause-list : goal.returns-in-Ok-clause-list
returns-in-Ok-clause-list c =
    let s = c.self.inside in
    let none : entry_of (values_of s.map.entries) (pair_of c.args.entry) ≡ None = subst (λ (rows : PlacedEntries). entry_of (values_of rows) (pair_of c.args.entry) ≡ None) (sym c.self.view_is) c.requires.absent in
    let absent = absent-number c.same_pairs_are_one.ensures s.map.entries s.serials s.endings.moments.keys s.endings.pages.keys s.next c.self.invariant (pair_of c.args.entry) none in
    let place : Place = record { feature = c.index.result; serial = s.next } in
    let at = place-parts place (record { feature = feature_number c.args.entry.feature; serial = s.next }) c.index.ensures.number refl in
    ap values_of c.in-Ok.ensures.entries
    ∙ list-added-at c.same_pairs_are_one.ensures s.map.entries s.serials s.endings.moments.keys s.endings.pages.keys s.next c.self.invariant c.args.entry absent place at
    ∙ ap (λ (rows : PlacedEntries). put_entry c.args.entry (values_of rows)) c.self.view_is

pub returns-in-Ok-clause-len : goal.returns-in-Ok-clause-len
returns-in-Ok-clause-len c =
    let s = c.self.inside in
    let none : entry_of (values_of s.map.entries) (pair_of c.args.entry) ≡ None = subst (λ (rows : PlacedEntries). entry_of (values_of rows) (pair_of c.args.entry) ≡ None) (sym c.self.view_is) c.requires.absent in
    let absent = absent-number c.same_pairs_are_one.ensures s.map.entries s.serials s.endings.moments.keys s.endings.pages.keys s.next c.self.invariant (pair_of c.args.entry) none in
    let place : Place = record { feature = c.index.result; serial = s.next } in
    let at = place-parts place (record { feature = feature_number c.args.entry.feature; serial = s.next }) c.index.ensures.number refl in
    c.in-Ok.ensures.len (none-at c.same_pairs_are_one.ensures s.map.entries s.serials s.endings.moments.keys s.endings.pages.keys s.next c.self.invariant c.args.entry absent place at)
    ∙ ap (λ (rows : PlacedEntries). length rows + 1) c.self.view_is
