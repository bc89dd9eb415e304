use Rattle.std.proofs.Common.{◌++◌, None, List, flat_map, length, sym, ◌∙◌, ap, arith}
use Rattle.pe_base.specs.declared.state.State.TheVariants as state
use Rattle.pe_events.specs.declared.answer.Change.{Change}
use Rattle.pe_status.specs.declared.registered.Registered.{Registered}
use Rattle.pe_status.specs.Registry.{later_under}
use Rattle.pe_changes.specs.Gathered.{change_to}
use Rattle.pe_changes.specs.Parts.{is_silent}
use Rattle.pe_changes.proofs.End.{under-more, under-whole, more-under, whole-under}
use Rattle.pe_changes.proofs.ending.gather_ended.Goals as goal

pub loop-feature-preserved : goal.loop-feature-preserved
loop-feature-preserved g c =
    let f = change_to (is_silent g.D.Numbered.doc_no g.D.Governed.blocks_feature c.args.frames.now.entries) c.args.now state.Prompt in
    let was = c.loop-feature.invariant.1 in
    let walk = c.walk-walk.ensures.cost in
    let walked = c.in_ok-append_walked.ensures.cost in
    let many = ap length c.walk-walk.ensures.value in
    let more = more-under c.args.statuses.now.live c.args.ended.now c.loop-feature.feature-index c.loop-feature-item.result c.loop-feature-test.true c.loop-feature-item.is in (
      c.in_ok-append_walked.ensures.list
          ∙ ap (λ (rs : List Registered). c.loop-feature.changes.items ++ flat_map f rs) c.walk-walk.ensures.value
          ∙ ap (λ (xs : List Change). xs ++ flat_map f (later_under c.loop-feature-item.result None c.args.statuses.now.live)) c.loop-feature.invariant.0
          ∙ sym (under-more (λ p. flat_map f (later_under p None c.args.statuses.now.live)) c.args.ended.now c.loop-feature.feature-index c.loop-feature-item.result c.loop-feature-test.true c.loop-feature-item.is),
      omega (arith, was, walk, walked, many, more),
    )

pub returns-clause-list : goal.returns-clause-list
returns-clause-list g c =
    let f = change_to (is_silent g.D.Numbered.doc_no g.D.Governed.blocks_feature c.args.frames.now.entries) c.args.now state.Prompt in
    c.loop-feature.invariant.0
    ∙ under-whole (λ p. flat_map f (later_under p None c.args.statuses.now.live)) c.args.ended.now c.loop-feature.feature-index c.loop-feature-test.false

pub returns-clause-cost : goal.returns-clause-cost
returns-clause-cost g c =
    let was = c.loop-feature.invariant.1 in
    let most = c.loop-feature.auto.feature-index-end in
    let least = c.loop-feature-test.false in
    let whole = ap length (whole-under c.args.statuses.now.live c.args.ended.now c.loop-feature.feature-index c.loop-feature-test.false) in
    omega (arith, was, most, least, whole)
