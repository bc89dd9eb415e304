use Rattle.std.proofs.Common.{◌≡◌, true, false, sym, ◌∙◌, ap, subst}
use Rattle.pe_base.specs.Activation.{is_transient}
use Rattle.pe_rules.specs.Activation.{has_transient}
use Rattle.pe_rules.specs.Denials.{why_denied}
use Rattle.pe_rules.specs.Replies.{replied}
use Rattle.pe_engine.specs.Rows.{HasPolicy}
use Rattle.pe_engine.specs.StandsFor.{EngineValue}
use Rattle.pe_engine.proofs.Posting.{same-document, reason-policy, reason-transient, transient-at}
use Rattle.pe_engine.proofs.engine.Engine.lacks.Goals as goal

pub returns-in-Some : goal.returns-in-Some
returns-in-Some g c = λ H f d word name s at shown named.
    let e = c.args.self.now in
    let T = replied e.duration H in
    let x = c.row-row.result.now in
    let is = c.row-row.ensures.shown H f s at in
    let same : x.doc ≡ d = same-document T f d x is shown in
    let denied = c.why_denied.ensures T d (subst (λ k. HasPolicy T k x.policy) same is.row.settled.policy) ∙ ap (λ k. why_denied T k d) c.feature_of.ensures in
    reason-policy e.duration T c.args.now d word name c.args.capability c.in-Some.denial named (sym c.in-Some.is ∙ denied)

pub returns-then-not-transient : goal.returns-then-not-transient
returns-then-not-transient g c = λ H f d word name s at shown named.
    let e = c.args.self.now in
    let T = replied e.duration H in
    let x = c.row-row.result.now in
    let is = c.row-row.ensures.shown H f s at in
    let same : x.doc ≡ d = same-document T f d x is shown in
    let denied = c.why_denied.ensures T d (subst (λ k. HasPolicy T k x.policy) same is.row.settled.policy) ∙ ap (λ k. why_denied T k d) c.feature_of.ensures in
    let active : has_transient e.duration T c.args.now d ≡ c.transient.result = transient-at c.engine_laws.ensures.history e.duration T c.args.now f d x is.row same
    ∙ sym (c.transient.ensures ∙ ap (λ (v : EngineValue). is_transient v.duration c.args.now x.stamp) c.self.view_is) in
    sym (reason-transient e.duration T c.args.now d word name c.args.capability false named (sym c.in_default.is ∙ denied) (active ∙ c.if-not-transient.true))

pub returns : goal.returns
returns g c = λ H f d word name s at shown named.
    let e = c.args.self.now in
    let T = replied e.duration H in
    let x = c.row-row.result.now in
    let is = c.row-row.ensures.shown H f s at in
    let same : x.doc ≡ d = same-document T f d x is shown in
    let denied = c.why_denied.ensures T d (subst (λ k. HasPolicy T k x.policy) same is.row.settled.policy) ∙ ap (λ k. why_denied T k d) c.feature_of.ensures in
    let active : has_transient e.duration T c.args.now d ≡ c.transient.result = transient-at c.engine_laws.ensures.history e.duration T c.args.now f d x is.row same
    ∙ sym (c.transient.ensures ∙ ap (λ (v : EngineValue). is_transient v.duration c.args.now x.stamp) c.self.view_is) in
    sym (reason-transient e.duration T c.args.now d word name c.args.capability true named (sym c.in_default.is ∙ denied) (active ∙ c.if-not-transient.false))
