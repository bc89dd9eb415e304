use Rattle.std.proofs.Common.{◌≡◌, ◌≤◌, ◌&&◌, Some, None, is_none, nat_le, length, true, false, refl, sym, ◌∙◌, ap}
use Rattle.std.specs.Option.{option_or}
use Rattle.pe_base.specs.declared.limits.TheConstants.{PENDING_LIMIT}
use Rattle.pe_events.specs.declared.cause.Cause.TheVariants as cause
use Rattle.pe_events.specs.declared.event.Event.TheVariants as event
use Rattle.pe_rules.specs.History.{some_if}
use Rattle.pe_rules.specs.Causes.{exceeds_pending}
use Rattle.pe_rules.specs.Replies.{replied}
use Rattle.pe_engine.specs.StandsFor.{EngineValue}
use Rattle.pe_engine.proofs.Prompted.{feature-request, other-request, pending-is, request-told}
use Rattle.pe_engine.proofs.engine.Engine.request.Goals as goal

pub returns-in_default : goal.returns-in_default
returns-in_default g c = λ H s. record { first = c.in_ok-number.ensures.rest H _ s refl ∙ feature-request _ _ _ _ c.in_default.ensures.none; kept = refl }

pub returns-then-exceeds_pending : goal.returns-then-exceeds_pending
returns-then-exceeds_pending g c = λ H s.
    let e = c.args.self.now in
    let T = replied e.duration H in
    let f = c.args.frame in
    let a = c.in_ok-asking.asking in
    let at = c.in_ok-number.ensures.handle in
    let asks = c.in_ok-asking.ensures.asks H f c.args.name.now s at c.in-Some.ensures.named in
    let found = c.in_ok-asking.ensures.state H f s c.in_ok-number.ensures.late at in
    let full = pending-is c.engine_laws.ensures e H c.args.now f c.args.name.now a.state a.page a.feature a.key a.asker s asks found ∙ sym c.exceeds_pending.ensures ∙ c.if-exceeds_pending.true in
    record { first = c.in_ok-number.ensures.rest H _ s refl ∙ other-request T c.args.now f c.args.name.now c.in-Some.ensures.some ∙ ap (λ b. option_or (some_if b cause.LimitPending) None) full; kept = refl }

pub returns : goal.returns
returns g c = λ H s.
    let e = c.args.self.now in
    let T = replied e.duration H in
    let f = c.args.frame in
    let a = c.in_ok-asking.asking in
    let at = c.in_ok-number.ensures.handle in
    let asks = c.in_ok-asking.ensures.asks H f c.args.name.now s at c.in-Some.ensures.named in
    let found = c.in_ok-asking.ensures.state H f s c.in_ok-number.ensures.late at in
    let room = pending-is c.engine_laws.ensures e H c.args.now f c.args.name.now a.state a.page a.feature a.key a.asker s asks found ∙ sym c.exceeds_pending.ensures ∙ c.if-exceeds_pending.false in
    let none = c.in_ok-number.ensures.rest H _ s refl ∙ other-request T c.args.now f c.args.name.now c.in-Some.ensures.some ∙ ap (λ b. option_or (some_if b cause.LimitPending) None) room in
    request-told c.engine_laws.ensures e c.pass.new.self c.answer_request.new.self H c.args.now f c.args.name.now c.of.result a.state a.page a.feature a.key a.asker c.in_ok-answer.answer c.in_ok-before.before c.new.result
    s (c.in_ok-before.ensures.passed H s c.in_ok-number.ensures.late) c.in_ok-before.ensures.rest c.in_ok-answer.ensures none asks found (c.of.ensures ∙ c.in_ok-number.ensures.number) c.new.ensures.items
