use Rattle.std.proofs.Common.{sym, subst}
use Rattle.pe_frames.proofs.Under.{tree-seen}
use Rattle.pe_frames.proofs.Climbing.{IsListed, listed-root, listed-here, listed-next, listed-all}
use Rattle.pe_frames.proofs.frames.Frames.handles_below.Goals as goal

pub loop-next-init : goal.loop-next-init
loop-next-init g c =
    let es = c.args.self.now.entries in
    let tree = tree-seen c.self.inside.rows c.self.inside.order.items c.self.inside.pages c.self.invariant.forest c.args.self.now c.self.view_is in
    subst (λ ks. IsListed es c.args.h c.args.h ks) (sym c.new-below.ensures.items) (listed-root es tree c.args.h c.requires)

pub preorder_following-requires : goal.preorder_following-requires
preorder_following-requires g c =
    let tree = tree-seen c.self.inside.rows c.self.inside.order.items c.self.inside.pages c.self.invariant.forest c.args.self.now c.self.view_is in
    record { under = listed-here c.args.self.now.entries tree c.args.h c.loop-next.at c.loop-next.below.items c.loop-next.invariant }

pub loop-next-preserved : goal.loop-next-preserved
loop-next-preserved g c =
    let es = c.args.self.now.entries in
    let tree = tree-seen c.self.inside.rows c.self.inside.order.items c.self.inside.pages c.self.invariant.forest c.args.self.now c.self.view_is in
    rw (c.push_reserved.ensures.items, c.reserve.ensures.items)
    (listed-next es tree c.args.h c.loop-next.at c.loop-next.below.items c.loop-next.invariant c.preorder_following.result c.in-Some.next c.preorder_following.ensures.value c.in-Some.is)

pub returns : goal.returns
returns g c =
    let tree = tree-seen c.self.inside.rows c.self.inside.order.items c.self.inside.pages c.self.invariant.forest c.args.self.now c.self.view_is in
    listed-all c.args.self.now.entries tree c.args.h c.loop-next.at c.loop-next.below.items c.loop-next.invariant c.preorder_following.result c.preorder_following.ensures.value c.in_default.is
