use Rattle.std.proofs.Common.{ap, ◌∙◌}
use Rattle.pe_policy.specs.PolicyValue.{Row}
use Rattle.pe_policy.proofs.Stands.{denial-first, denial-by-value}
use Rattle.pe_policy.proofs.policy.Policy.why.Goals as goal

pub returns-clause-first : goal.returns-clause-first
returns-clause-first c = denial-first c.args.self.now c.args.feature c.denial.result (c.denial.ensures ∙ ap (λ (r : Row). r.denial) c.row.ensures.row)

pub returns-clause-value : goal.returns-clause-value
returns-clause-value c = denial-by-value c.args.self.now c.args.feature c.denial.result (c.denial.ensures ∙ ap (λ (r : Row). r.denial) c.row.ensures.row)
