use Rattle.std.proofs.Common.{Some, refl, sym, ◌∙◌}
use Rattle.pe_frames.specs.Forest.{entry_of, same_handle}
use Rattle.pe_frames.specs.Kept.{position_of}
use Rattle.pe_frames.proofs.Handles.{same_handle-Decides}
use Rattle.pe_frames.proofs.Standings.{some-unless, stands-at}
use Rattle.pe_frames.proofs.Under.{tree-seen}
use Rattle.pe_frames.proofs.Climbing.{differ, agree, within-top, within-up, parent-shorter, past-root, past-later, past-none, parent-stands, within-dead}
use Rattle.pe_frames.proofs.frames.Frames.past.Goals as goal

pub returns-then-is_some : goal.returns-then-is_some
returns-then-is_some g c =
    let es = c.args.self.now.entries in
    let up = c.loop-here.up in
    let place = position_of c.loop-here.here.now in
    let tree = tree-seen c.self.inside.rows c.self.inside.order.items c.self.inside.pages c.self.invariant.forest c.args.self.now c.self.view_is in
    let other = differ c.ne.result (same_handle up c.args.root) c.ne.ensures c.loop-here-test.true in
    let at = stands-at es up (Some place) place refl (sym c.loop-here.invariant.stands) in
    past-later es tree c.args.root up place c.loop-here.invariant.below other at (sym c.is_some.ensures ∙ c.if-is_some.true) ∙ c.loop-here.invariant.same

pub unwrap-up-requires : goal.unwrap-up-requires
unwrap-up-requires g c =
    let es = c.args.self.now.entries in
    let up = c.loop-here.up in
    let place = position_of c.loop-here.here.now in
    let other = differ c.ne.result (same_handle up c.args.root) c.ne.ensures c.loop-here-test.true in
    let at = stands-at es up (Some place) place refl (sym c.loop-here.invariant.stands) in
    some-unless place.parent (λ q. within-top es c.args.root up other (parent-stands es up place at ∙ q) c.loop-here.invariant.below)

pub row-here-requires : goal.row-here-requires
row-here-requires g c =
    let es = c.args.self.now.entries in
    let up = c.loop-here.up in
    let place = position_of c.loop-here.here.now in
    let tree = tree-seen c.self.inside.rows c.self.inside.order.items c.self.inside.pages c.self.invariant.forest c.args.self.now c.self.view_is in
    let other = differ c.ne.result (same_handle up c.args.root) c.ne.ensures c.loop-here-test.true in
    let at = stands-at es up (Some place) place refl (sym c.loop-here.invariant.stands) in
    let below = within-up es tree c.args.root up c.unwrap-up.result other (parent-stands es up place at ∙ c.unwrap-up.ensures) c.loop-here.invariant.below in
    some-unless (entry_of es c.unwrap-up.result) (within-dead es c.args.root c.unwrap-up.result below)

pub loop-here-smaller : goal.loop-here-smaller
loop-here-smaller g c =
    let es = c.args.self.now.entries in
    let up = c.loop-here.up in
    let place = position_of c.loop-here.here.now in
    let tree = tree-seen c.self.inside.rows c.self.inside.order.items c.self.inside.pages c.self.invariant.forest c.args.self.now c.self.view_is in
    let at = stands-at es up (Some place) place refl (sym c.loop-here.invariant.stands) in
    parent-shorter es tree up c.unwrap-up.result (parent-stands es up place at ∙ c.unwrap-up.ensures)

pub loop-here-preserved : goal.loop-here-preserved
loop-here-preserved g c =
    let es = c.args.self.now.entries in
    let up = c.loop-here.up in
    let place = position_of c.loop-here.here.now in
    let tree = tree-seen c.self.inside.rows c.self.inside.order.items c.self.inside.pages c.self.invariant.forest c.args.self.now c.self.view_is in
    let other = differ c.ne.result (same_handle up c.args.root) c.ne.ensures c.loop-here-test.true in
    let at = stands-at es up (Some place) place refl (sym c.loop-here.invariant.stands) in
    record {
      below = within-up es tree c.args.root up c.unwrap-up.result other (parent-stands es up place at ∙ c.unwrap-up.ensures) c.loop-here.invariant.below;
      stands = c.row-here.ensures;
      same = past-none es tree c.args.root up c.unwrap-up.result place c.loop-here.invariant.below other at (sym c.is_some.ensures ∙ c.if-is_some.false) c.unwrap-up.ensures ∙ c.loop-here.invariant.same;
    }

pub returns : goal.returns
returns g c =
    let es = c.args.self.now.entries in
    let up = c.loop-here.up in
    let tree = tree-seen c.self.inside.rows c.self.inside.order.items c.self.inside.pages c.self.invariant.forest c.args.self.now c.self.view_is in
    let same = (same_handle-Decides up c.args.root).0 (agree c.ne.result (same_handle up c.args.root) c.ne.ensures c.loop-here-test.false) in
    sym (past-root es tree c.args.root up c.loop-here.invariant.below same) ∙ c.loop-here.invariant.same
