use Rattle.std.proofs.Common.{sym, ◌∙◌, true≢false}
use Rattle.pe_frames.proofs.Under.{tree-seen}
use Rattle.pe_frames.proofs.Laws.{laws-forest}
use Rattle.pe_frames.proofs.Climbing.{after-outside}
use Rattle.pe_frames.proofs.frames.Frames.preorder_next.Goals as goal

pub returns-then-not-is_within-clause-value : goal.returns-then-not-is_within-clause-value
returns-then-not-is_within-clause-value g c =
    let tree = tree-seen c.self.inside.rows c.self.inside.order.items c.self.inside.pages c.self.invariant.forest c.args.self.now c.self.view_is in
    sym (after-outside c.args.self.now.entries tree c.args.root c.args.at (λ w. true≢false (sym (c.is_within.ensures.1 w) ∙ c.if-not-is_within.true)))

pub preorder_following-requires : goal.preorder_following-requires
preorder_following-requires g c =
    let laws = laws-forest c.self.inside.rows c.self.inside.order.items c.self.inside.pages c.self.invariant.forest c.args.self.now c.self.view_is in
    record { under = (laws.under c.args.root c.args.at).1 (c.is_within.ensures.0 c.if-not-is_within.false) }
