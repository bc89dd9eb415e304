use Rattle.std.proofs.Common.{[], ap, ◌∙◌}
use Rattle.pe_features.specs.declared.feature.Feature.{Feature}
use Rattle.pe_policy.specs.declared.row.Links.{Links}
use Rattle.pe_policy.specs.PolicyValue.{allowed_row, top_row, failing_at_top, link_of}
use Rattle.pe_policy.proofs.FeatureTable.{table-more}
use Rattle.pe_policy.proofs.policy.top_rows.Goals as goal

pub loop-i-preserved : goal.loop-i-preserved
loop-i-preserved c =
    table-more (λ (f : Feature). top_row (failing_at_top f (link_of 0 c.args.origin.now c.args.declared.now [])) c.args.doc) allowed_row c.loop-i.rows c.loop-i.i c.at_top.result c.loop-i.invariant c.loop-i-test.true
    (c.at_top.ensures ∙ ap (λ (links : Links). top_row links c.args.doc) c.failing_at_top.ensures)
