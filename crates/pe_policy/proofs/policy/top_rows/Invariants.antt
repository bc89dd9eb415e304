use Rattle.std.proofs.Common.{[]}
use Rattle.pe_features.specs.declared.feature.Feature.{Feature}
use Rattle.pe_policy.specs.PolicyValue.{allowed_row, top_row, failing_at_top, link_of}
use Rattle.pe_policy.proofs.FeatureTable.{IsTableUpTo}
use Rattle.pe_policy.proofs.policy.top_rows.Given as goal

abbrev pub invariant-loop-i : goal.invariant-loop-i
invariant-loop-i l =
    IsTableUpTo (λ (f : Feature). top_row (failing_at_top f (link_of 0 l.origin l.declared [])) l.doc) allowed_row l.rows l.i
