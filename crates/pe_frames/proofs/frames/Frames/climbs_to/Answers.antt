use Rattle.std.proofs.Common.{sym, ◌∙◌, refl, true≢false}
use Rattle.pe_frames.specs.Forest.{same_handle}
use Rattle.pe_frames.proofs.Handles.{same_handle-Decides}
use Rattle.pe_frames.proofs.Under.{tree-seen}
use Rattle.pe_frames.proofs.Climbing.{differ, agree, within-root, within-top, within-up, within-down, parent-lives, parent-shorter}
use Rattle.pe_frames.proofs.frames.Frames.climbs_to.Goals as goal

pub returns-in_default : goal.returns-in_default
returns-in_default g c =
    let es = c.args.self.now.entries in
    let up = c.loop-root.up in
    let other = differ c.ne.result (same_handle up c.args.root) c.ne.ensures c.loop-root-test.true in
    let top = sym c.parent.ensures ∙ c.in_default.is in (
      λ t. absurd (true≢false (sym t)),
      λ w. absurd (within-top es c.args.root up other top (c.loop-root.invariant.up w)),
    )

pub loop-root-smaller : goal.loop-root-smaller
loop-root-smaller g c =
    let tree = tree-seen c.self.inside.rows c.self.inside.order.items c.self.inside.pages c.self.invariant.forest c.args.self.now c.self.view_is in
    parent-shorter c.args.self.now.entries tree c.loop-root.up c.in-Some.parent (sym c.parent.ensures ∙ c.in-Some.is)

pub loop-root-preserved : goal.loop-root-preserved
loop-root-preserved g c =
    let es = c.args.self.now.entries in
    let tree = tree-seen c.self.inside.rows c.self.inside.order.items c.self.inside.pages c.self.invariant.forest c.args.self.now c.self.view_is in
    let up = c.loop-root.up in
    let parent = sym c.parent.ensures ∙ c.in-Some.is in
    let other = differ c.ne.result (same_handle up c.args.root) c.ne.ensures c.loop-root-test.true in
    record {
      live = parent-lives es tree up c.in-Some.parent parent;
      down = λ w. c.loop-root.invariant.down (within-down es tree c.args.root up c.in-Some.parent other parent w);
      up = λ w. within-up es tree c.args.root up c.in-Some.parent other parent (c.loop-root.invariant.up w);
    }

pub returns : goal.returns
returns g c =
    let up = c.loop-root.up in
    let same = (same_handle-Decides up c.args.root).0 (agree c.ne.result (same_handle up c.args.root) c.ne.ensures c.loop-root-test.false) in (
      λ t. c.loop-root.invariant.down (within-root c.args.self.now.entries c.args.root up c.loop-root.invariant.live same),
      λ w. refl,
    )
