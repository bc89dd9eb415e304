use Rattle.std.proofs.Common.{not, ◌&&◌, sym, ◌∙◌, ap}
use Rattle.pe_engine.proofs.Deciding.{reason-insecure, reason-feature, reason-activation}
use Rattle.pe_engine.proofs.verdict.reason_denied.Goals as goal

pub returns-then-is_insecure : goal.returns-then-is_insecure
returns-then-is_insecure c = λ T f is kept.
    sym (reason-insecure c.args.duration T c.args.now c.args.row.now.doc c.args.gate (ap (λ b. c.args.gate.secure && not b) (sym is.settled.secure) ∙ sym c.is_insecure.ensures ∙ c.if-is_insecure.true))

pub returns-in-Some : goal.returns-in-Some
returns-in-Some c = λ T f is kept.
    sym (reason-feature c.args.duration T c.args.now c.args.row.now.doc c.args.gate c.in-Some.reason
    (ap (λ b. c.args.gate.secure && not b) (sym is.settled.secure) ∙ sym c.is_insecure.ensures ∙ c.if-is_insecure.false) (sym (c.feature_reason.ensures T c.args.now is.settled kept) ∙ c.in-Some.is))

pub returns : goal.returns
returns c = λ T f is kept.
    c.activation_reason.ensures
    ∙ sym (reason-activation c.history_laws.ensures c.args.duration T c.args.now f c.args.row.now c.args.gate is
    (ap (λ b. c.args.gate.secure && not b) (sym is.settled.secure) ∙ sym c.is_insecure.ensures ∙ c.if-is_insecure.false) (sym (c.feature_reason.ensures T c.args.now is.settled kept) ∙ c.in_default.is))
