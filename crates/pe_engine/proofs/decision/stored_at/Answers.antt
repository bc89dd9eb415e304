use Rattle.std.proofs.Common.{option_and_then, sym, ◌∙◌, ap}
use Rattle.std.specs.Option.{option_copied}
use Rattle.pe_engine.specs.Using.{state_at}
use Rattle.pe_engine.proofs.Stored.{stored-later}
use Rattle.pe_engine.proofs.decision.stored_at.Goals as goal

pub returns-in_err-entry-clause-entry : goal.returns-in_err-entry-clause-entry
returns-in_err-entry-clause-entry g c = c.from_residual.ensures ∙ ap (option_and_then (state_at c.args.now)) (sym (ap option_copied c.in_err-entry.was) ∙ c.get.ensures.value)

pub returns-in_err-entry-clause-stored : goal.returns-in_err-entry-clause-stored
returns-in_err-entry-clause-stored g c = λ T before late is.
    c.from_residual.ensures ∙ ap (option_and_then (state_at c.args.now)) (sym (ap option_copied c.in_err-entry.was) ∙ c.get.ensures.value)
    ∙ stored-later c.engine_laws.ensures.history T before c.args.now c.args.store.now (c.args.feature, c.args.key.now) late is

pub returns-clause-entry : goal.returns-clause-entry
returns-clause-entry g c = c.state_at.ensures ∙ ap (option_and_then (state_at c.args.now)) c.in_ok-entry.ensures.value

pub returns-clause-stored : goal.returns-clause-stored
returns-clause-stored g c = λ T before late is.
    c.state_at.ensures ∙ ap (option_and_then (state_at c.args.now)) c.in_ok-entry.ensures.value
    ∙ stored-later c.engine_laws.ensures.history T before c.args.now c.args.store.now (c.args.feature, c.args.key.now) late is
