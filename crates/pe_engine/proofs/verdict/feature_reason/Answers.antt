use Rattle.std.proofs.Common.{sym, ◌∙◌, ap}
use Rattle.pe_rules.specs.Verdicts.{reason_of_state}
use Rattle.pe_engine.proofs.Deciding.{wanted-is, no-feature, no-permission, by-permission}
use Rattle.pe_engine.proofs.Kept.{flip}
use Rattle.pe_engine.proofs.verdict.feature_reason.Goals as goal

pub returns-in_default : goal.returns-in_default
returns-in_default c = λ T now is kept. sym (no-feature T now c.args.row.now.doc c.args.gate c.in_default.is)

pub returns-then-not-gate : goal.returns-then-not-gate
returns-then-not-gate c = λ T now is kept.
    let d = c.args.row.now.doc in
    sym (no-permission T now d c.args.gate c.in-Some.feature c.in-Some.is (sym (c.why_denied.ensures T d is.policy) ∙ c.in_default-why_denied.is) (flip c.args.gate.permission c.if-not-gate.true))

pub returns : goal.returns
returns c = λ T now is kept.
    let d = c.args.row.now.doc in
    let wanted = wanted-is c.args.gate.permission c.if-not-gate.false in
    c.reason_of_state.ensures ∙ ap reason_of_state (c.permission_state.ensures T now is (kept wanted c.in-Some.feature c.in-Some.is))
    ∙ sym (by-permission T now d c.args.gate c.in-Some.feature c.in-Some.is (sym (c.why_denied.ensures T d is.policy) ∙ c.in_default-why_denied.is) wanted)
