use Rattle.std.proofs.Common.{[]}
use Rattle.pe_features.specs.declared.feature.Feature.{Feature}
use Rattle.pe_policy.specs.PolicyValue.{allowed_row, row_of, child_row, failing_at_child, link_of}
use Rattle.pe_policy.proofs.FeatureTable.{IsTableUpTo}
use Rattle.pe_policy.proofs.policy.child_rows.Given as goal

abbrev pub invariant-loop-i : goal.invariant-loop-i
invariant-loop-i l =
    IsTableUpTo (λ (f : Feature). child_row (row_of l.parent f).denial (failing_at_child f (link_of 0 l.parent_origin l.parent.declared []) (link_of 0 l.origin l.declared l.container)) l.parent.document l.doc) allowed_row l.rows l.i
