use Rattle.std.proofs.Common.{ap, ◌∙◌}
use Rattle.pe_policy.specs.PolicyValue.{Row}
use Rattle.pe_policy.proofs.Stands.{links-exact}
use Rattle.pe_policy.proofs.policy.Policy.links.Goals as goal

pub returns-clause-exact : goal.returns-clause-exact
returns-clause-exact c = links-exact c.args.self.now c.args.feature c.links.result (c.links.ensures ∙ ap (λ (r : Row). r.links) c.row.ensures.row)
