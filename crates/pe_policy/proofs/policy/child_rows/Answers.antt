use Rattle.std.proofs.Common.{[], ap, ◌∙◌, arith, ◌≤◌}
use Rattle.pe_features.specs.declared.feature.Feature.{Feature}
use Rattle.pe_policy.specs.PolicyValue.{PolicyValue, allowed_row, row_of, child_row, failing_at_child, link_of}
use Rattle.pe_policy.proofs.FeatureTable.{feature_at, table-more, table-whole}
use Rattle.pe_policy.proofs.Stands.{child_row-same, row_of-same, uncontrolled-child}
use Rattle.pe_policy.proofs.policy.child_rows.Goals as goal

pub loop-i-preserved : goal.loop-i-preserved
loop-i-preserved c =
    table-more (λ (f : Feature). child_row (row_of c.args.parent.now f).denial (failing_at_child f (link_of 0 c.args.parent_origin.now c.args.parent.now.declared []) (link_of 0 c.args.origin.now c.args.declared.now c.args.container.now)) c.args.parent.now.document c.args.doc) allowed_row c.loop-i.rows c.loop-i.i c.at_child.result c.loop-i.invariant c.loop-i-test.true
    (c.at_child.ensures ∙ child_row-same _ _ _ _ _ _ c.args.doc c.why.ensures.row
    (c.failing_at_child-links.ensures c.args.parent_origin.now c.same_origin-is_same.ensures.value ∙ ap (λ (p : PolicyValue). failing_at_child (feature_at c.loop-i.i) (link_of 0 c.args.parent_origin.now p.declared []) (link_of 0 c.args.origin.now c.args.declared.now c.args.container.now)) c.parent.view_is)
    (ap (λ (p : PolicyValue). p.document) c.parent.view_is))

pub returns-clause-uncontrolled : goal.returns-clause-uncontrolled
returns-clause-uncontrolled c = λ f h.
    let whole : 16 ≤ c.loop-i.i = omega arith in
    uncontrolled-child f (row_of c.args.parent.now f) _ (link_of 0 c.args.parent_origin.now c.args.parent.now.declared []) (link_of 0 c.args.origin.now c.args.declared.now c.args.container.now) c.args.parent.now.document c.args.doc h (row_of-same _ c.args.parent.now f allowed_row (c.parent.invariant f h) c.parent.view_is)
    (table-whole (λ (f : Feature). child_row (row_of c.args.parent.now f).denial (failing_at_child f (link_of 0 c.args.parent_origin.now c.args.parent.now.declared []) (link_of 0 c.args.origin.now c.args.declared.now c.args.container.now)) c.args.parent.now.document c.args.doc) allowed_row c.loop-i.rows c.loop-i.i c.loop-i.invariant whole f)
