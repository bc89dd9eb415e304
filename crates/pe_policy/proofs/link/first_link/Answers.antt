use Rattle.std.proofs.Common.{◌∙◌}
use Rattle.pe_policy.proofs.Stands.{pair-rule-same}
use Rattle.pe_policy.proofs.link.first_link.Goals as goal

pub returns : goal.returns
returns c = λ p e ho hd ko kd. c.first_rule.ensures ∙ pair-rule-same c.args.feature p e _ _ _ _ ho hd ko kd
