use Rattle.std.proofs.Common.{sym, ◌∙◌}
use Rattle.pe_engine.proofs.NewRows.{is-document}
use Rattle.pe_engine.proofs.making.child_policy.Goals as goal

pub returns : goal.returns
returns c = λ top rest child stands same w contained.
    c.make_child.ensures.stands top rest child stands same (is-document child _ _ _ _ _ c.of-number.ensures c.in_ok-own.ensures w) (λ f. contained f ∙ sym (c.in_ok-container.ensures f))
