use Rattle.std.proofs.Common.{◌∙◌}
use Rattle.pe_policy.proofs.Stands.{own-rule-same}
use Rattle.pe_policy.proofs.link.own_link.Goals as goal

pub returns : goal.returns
returns c = λ l ho hd. c.own_rule.ensures ∙ own-rule-same c.args.feature l _ _ ho hd
