use Rattle.pe_engine.proofs.NewRows.{is-document}
use Rattle.pe_engine.proofs.making.top_policy.Goals as goal

pub returns : goal.returns
returns c = λ top w. c.make_top.ensures.stands top (is-document top _ _ _ _ _ c.of.ensures c.in_ok-declared.ensures w)
