use Rattle.pe_frames.specs.Forest.{entry_of}
use Rattle.pe_frames.proofs.Under.{tree-seen}
use Rattle.pe_frames.proofs.Laws.{laws-forest}
use Rattle.pe_frames.proofs.Lemmas.{if_each}
use Rattle.pe_frames.proofs.Climbing.{parent-lives}
use Rattle.pe_frames.proofs.Climbed.{path-up, top-up, top-alone, path-short}
use Rattle.pe_frames.proofs.Related.{related-counted}
use Rattle.pe_frames.proofs.frames.Frames.is_climbed_by_parents.Goals as goal

pub returns-clause-live : goal.returns-clause-live
returns-clause-live g c =
    let es = c.args.self.now.entries in
    let tree = (tree-seen c.self.inside.rows c.self.inside.order.items c.self.inside.pages c.self.invariant.forest c.args.self.now c.self.view_is) in
    λ h. λ p. λ q. parent-lives es tree h p q

pub returns-clause-path : goal.returns-clause-path
returns-clause-path g c =
    let es = c.args.self.now.entries in
    let tree = (tree-seen c.self.inside.rows c.self.inside.order.items c.self.inside.pages c.self.invariant.forest c.args.self.now c.self.view_is) in
    λ h. λ p. λ q. path-up es tree h p q

pub returns-clause-page : goal.returns-clause-page
returns-clause-page g c =
    let es = c.args.self.now.entries in
    let tree = (tree-seen c.self.inside.rows c.self.inside.order.items c.self.inside.pages c.self.invariant.forest c.args.self.now c.self.view_is) in
    λ h. λ p. λ q. top-up es tree h p q

pub returns-clause-top : goal.returns-clause-top
returns-clause-top g c =
    let es = c.args.self.now.entries in
    let tree = (tree-seen c.self.inside.rows c.self.inside.order.items c.self.inside.pages c.self.invariant.forest c.args.self.now c.self.view_is) in
    λ h. if_each _ (entry_of es h) (λ e f q. top-alone es tree h e f q)

pub returns-clause-related : goal.returns-clause-related
returns-clause-related g c =
    let es = c.args.self.now.entries in
    let are = (laws-forest c.self.inside.rows c.self.inside.order.items c.self.inside.pages c.self.invariant.forest c.args.self.now c.self.view_is).frames in
    λ h. λ keep. if_each _ (entry_of es h) (λ e f. related-counted es are h e f keep)

pub returns-clause-depth : goal.returns-clause-depth
returns-clause-depth g c =
    let es = c.args.self.now.entries in
    let are = (laws-forest c.self.inside.rows c.self.inside.order.items c.self.inside.pages c.self.invariant.forest c.args.self.now c.self.view_is).frames in
    λ h. if_each _ (entry_of es h) (λ e f. path-short es are h e f)
