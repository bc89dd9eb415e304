use Rattle.std.proofs.Common.{is_some, not, ap, sym, ◌∙◌}
use Rattle.pe_engine.proofs.VerbAnswers.{not-allowed, allowed-by}
use Rattle.pe_engine.proofs.verbs.policy.is_allowed.Goals as goal

pub returns-then-is_none : goal.returns-then-is_none
returns-then-is_none c = λ T d has. not-allowed T d c.args.feature (sym (ap is_some c.default_of.ensures) ∙ c.is_none.ensures ∙ ap not c.if-is_none.true)

pub returns : goal.returns
returns c = λ T d has.
    allowed-by T d c.args.feature c.why_denied.result c.is_none-2.result (sym (ap is_some c.default_of.ensures) ∙ c.is_none.ensures ∙ ap not c.if-is_none.false)
    (c.why_denied.ensures T d has) c.is_none-2.ensures
