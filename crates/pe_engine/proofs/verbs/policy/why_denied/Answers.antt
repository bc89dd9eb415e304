use Rattle.std.proofs.Common.{sym, ◌∙◌, ap}
use Rattle.pe_rules.specs.Denials.{why_denied}
use Rattle.pe_policy.specs.Denials.{denial}
use Rattle.pe_engine.proofs.verbs.policy.why_denied.Goals as goal

pub returns : goal.returns
unfolding why_denied
returns c = λ T d has. c.why.ensures.first has.top has.rest has.stands ∙ ap (denial c.args.feature) (sym has.chained)
