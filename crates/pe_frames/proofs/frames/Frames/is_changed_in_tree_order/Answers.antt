use Rattle.pe_frames.specs.Forest.{entry_of}
use Rattle.pe_frames.proofs.Laws.{laws-forest}
use Rattle.pe_frames.proofs.Under.{tree-seen}
use Rattle.pe_frames.proofs.Lemmas.{if_each}
use Rattle.pe_frames.proofs.Changed.{changed-first, changed-next, same-unvisited, skipped-next, changed-last, changed-pages, written-one}
use Rattle.pe_frames.proofs.frames.Frames.is_changed_in_tree_order.Goals as goal

pub returns-clause-first : goal.returns-clause-first
returns-clause-first g c =
    let es = c.args.self.now.entries in
    let are = (laws-forest c.self.inside.rows c.self.inside.order.items c.self.inside.pages c.self.invariant.forest c.args.self.now c.self.view_is).frames in
    let tree = (tree-seen c.self.inside.rows c.self.inside.order.items c.self.inside.pages c.self.invariant.forest c.args.self.now c.self.view_is) in
    λ change. λ root. if_each _ (entry_of es root) (λ e f. changed-first es are tree change root e f)

pub returns-clause-unvisited : goal.returns-clause-unvisited
returns-clause-unvisited g c =
    let es = c.args.self.now.entries in
    let are = (laws-forest c.self.inside.rows c.self.inside.order.items c.self.inside.pages c.self.invariant.forest c.args.self.now c.self.view_is).frames in
    let tree = (tree-seen c.self.inside.rows c.self.inside.order.items c.self.inside.pages c.self.invariant.forest c.args.self.now c.self.view_is) in
    λ change. λ root. λ h. λ next. λ q. same-unvisited es are tree change root h next q

pub returns-clause-next : goal.returns-clause-next
returns-clause-next g c =
    let es = c.args.self.now.entries in
    let are = (laws-forest c.self.inside.rows c.self.inside.order.items c.self.inside.pages c.self.invariant.forest c.args.self.now c.self.view_is).frames in
    let tree = (tree-seen c.self.inside.rows c.self.inside.order.items c.self.inside.pages c.self.invariant.forest c.args.self.now c.self.view_is) in
    λ change. λ root. λ h. λ next. λ q. if_each _ (entry_of es next) (λ e f. changed-next es are tree change root h next q e f)

pub returns-clause-skipped : goal.returns-clause-skipped
returns-clause-skipped g c =
    let es = c.args.self.now.entries in
    let are = (laws-forest c.self.inside.rows c.self.inside.order.items c.self.inside.pages c.self.invariant.forest c.args.self.now c.self.view_is).frames in
    let tree = (tree-seen c.self.inside.rows c.self.inside.order.items c.self.inside.pages c.self.invariant.forest c.args.self.now c.self.view_is) in
    λ change. λ root. λ h. λ next. λ q. if_each _ (entry_of es next) (λ e f. skipped-next es are tree change root h next q e f)

pub returns-clause-last : goal.returns-clause-last
returns-clause-last g c =
    let es = c.args.self.now.entries in
    let are = (laws-forest c.self.inside.rows c.self.inside.order.items c.self.inside.pages c.self.invariant.forest c.args.self.now c.self.view_is).frames in
    let tree = (tree-seen c.self.inside.rows c.self.inside.order.items c.self.inside.pages c.self.invariant.forest c.args.self.now c.self.view_is) in
    λ change. λ root. λ h. λ t. λ q. changed-last es are tree change root h t q

pub returns-clause-page : goal.returns-clause-page
returns-clause-page g c =
    let es = c.args.self.now.entries in
    let are = (laws-forest c.self.inside.rows c.self.inside.order.items c.self.inside.pages c.self.invariant.forest c.args.self.now c.self.view_is).frames in
    let tree = (tree-seen c.self.inside.rows c.self.inside.order.items c.self.inside.pages c.self.invariant.forest c.args.self.now c.self.view_is) in
    λ change. λ h. if_each _ (entry_of es h) (λ e f. changed-pages es are tree change h e f)

pub returns-clause-one : goal.returns-clause-one
returns-clause-one g c =
    let es = c.args.self.now.entries in
    let are = (laws-forest c.self.inside.rows c.self.inside.order.items c.self.inside.pages c.self.invariant.forest c.args.self.now c.self.view_is).frames in
    λ passes. λ change. λ k. if_each _ (entry_of es k) (λ e f. written-one es are passes change k e f)
