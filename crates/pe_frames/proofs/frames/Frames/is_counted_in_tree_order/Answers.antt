use Rattle.std.proofs.Common.{◌≡◌, sym, subst}
use Rattle.std.specs.Prelude.{IsSomeAnd}
use Rattle.pe_frames.specs.Forest.{Entry, entry_of, top_of}
use Rattle.pe_frames.proofs.Under.{tree-seen}
use Rattle.pe_frames.proofs.Laws.{laws-forest}
use Rattle.pe_frames.proofs.Bounds.{bounds-forest}
use Rattle.pe_frames.proofs.Lemmas.{if_each}
use Rattle.pe_frames.proofs.Counted.{counted, counted-all, counted-page, counted-size, top-live, page-under, under-few}
use Rattle.pe_frames.proofs.frames.Frames.is_counted_in_tree_order.Goals as goal

pub returns-clause-counted : goal.returns-clause-counted
returns-clause-counted g c =
    let es = c.args.self.now.entries in
    let are = (laws-forest c.self.inside.rows c.self.inside.order.items c.self.inside.pages c.self.invariant.forest c.args.self.now c.self.view_is).frames in
    let tree = (tree-seen c.self.inside.rows c.self.inside.order.items c.self.inside.pages c.self.invariant.forest c.args.self.now c.self.view_is) in
    λ root. λ keep. counted es are tree root keep

pub returns-clause-all : goal.returns-clause-all
returns-clause-all g c =
    let es = c.args.self.now.entries in
    let are = (laws-forest c.self.inside.rows c.self.inside.order.items c.self.inside.pages c.self.invariant.forest c.args.self.now c.self.view_is).frames in
    let tree = (tree-seen c.self.inside.rows c.self.inside.order.items c.self.inside.pages c.self.invariant.forest c.args.self.now c.self.view_is) in
    λ root. counted-all es are tree root

pub returns-clause-few : goal.returns-clause-few
returns-clause-few g c =
    let es = c.args.self.now.entries in
    let are = (laws-forest c.self.inside.rows c.self.inside.order.items c.self.inside.pages c.self.invariant.forest c.args.self.now c.self.view_is).frames in
    let tree = (tree-seen c.self.inside.rows c.self.inside.order.items c.self.inside.pages c.self.invariant.forest c.args.self.now c.self.view_is) in
    λ root. under-few es are tree (bounds-forest c.self.inside.rows c.self.inside.order.items c.self.inside.pages c.self.invariant.forest c.args.self.now c.self.view_is).sizes root

pub returns-clause-top : goal.returns-clause-top
returns-clause-top g c =
    let es = c.args.self.now.entries in
    let are = (laws-forest c.self.inside.rows c.self.inside.order.items c.self.inside.pages c.self.invariant.forest c.args.self.now c.self.view_is).frames in
    let tree = (tree-seen c.self.inside.rows c.self.inside.order.items c.self.inside.pages c.self.invariant.forest c.args.self.now c.self.view_is) in
    λ h. if_each _ (entry_of es h) (λ e f. let t = top-live es are tree h e f in subst (λ o. IsSomeAnd o (λ (x : Entry _). top_of x ≡ top_of e)) (sym t.found) t.own)

pub returns-clause-page : goal.returns-clause-page
returns-clause-page g c =
    let es = c.args.self.now.entries in
    let are = (laws-forest c.self.inside.rows c.self.inside.order.items c.self.inside.pages c.self.invariant.forest c.args.self.now c.self.view_is).frames in
    let tree = (tree-seen c.self.inside.rows c.self.inside.order.items c.self.inside.pages c.self.invariant.forest c.args.self.now c.self.view_is) in
    λ h. λ k. if_each _ (entry_of es h) (λ e f. if_each _ (entry_of es k) (λ x u. page-under es are tree h k e x f u))

pub returns-clause-paged : goal.returns-clause-paged
returns-clause-paged g c =
    let es = c.args.self.now.entries in
    let are = (laws-forest c.self.inside.rows c.self.inside.order.items c.self.inside.pages c.self.invariant.forest c.args.self.now c.self.view_is).frames in
    let tree = (tree-seen c.self.inside.rows c.self.inside.order.items c.self.inside.pages c.self.invariant.forest c.args.self.now c.self.view_is) in
    λ h. λ keep. if_each _ (entry_of es h) (λ e f. counted-page es are tree h e f keep)

pub returns-clause-size : goal.returns-clause-size
returns-clause-size g c =
    let es = c.args.self.now.entries in
    let are = (laws-forest c.self.inside.rows c.self.inside.order.items c.self.inside.pages c.self.invariant.forest c.args.self.now c.self.view_is).frames in
    let tree = (tree-seen c.self.inside.rows c.self.inside.order.items c.self.inside.pages c.self.invariant.forest c.args.self.now c.self.view_is) in
    λ h. if_each _ (entry_of es h) (λ e f. counted-size es are tree h e f)
