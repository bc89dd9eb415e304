use Rattle.std.proofs.Common.{sym, ◌∙◌, ap}
use Rattle.pe_laws.specs.PermissionStateLaws.{state_from}
use Rattle.pe_engine.proofs.Deciding.{state-of-row}
use Rattle.pe_engine.proofs.verdict.permission_state.Goals as goal

pub returns-then-is_blocked : goal.returns-then-is_blocked
returns-then-is_blocked c = λ T now is kept.
    sym (state-of-row c.history_laws.ensures T now c.args.row.now c.args.feature c.args.stored is kept ∙ ap (λ b. state_from b c.args.stored) (sym c.is_blocked.ensures ∙ c.if-is_blocked.true))

pub returns : goal.returns
returns c = λ T now is kept.
    c.unwrap_or.ensures
    ∙ sym (state-of-row c.history_laws.ensures T now c.args.row.now c.args.feature c.args.stored is kept ∙ ap (λ b. state_from b c.args.stored) (sym c.is_blocked.ensures ∙ c.if-is_blocked.false))
