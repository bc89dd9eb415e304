use Rattle.std.proofs.Common.{◌≡◌, ◌≤◌, ◌<◌, nat_le, true, false, refl, ◌∙◌, ap, arith}
use Rattle.std.proofs.lemmas.Bool.Decides.{nat_tests}
use Rattle.pe_status.specs.Registry.{count_of_page}
use Rattle.pe_rules.specs.Causes.{count_in_page, page_statuses}
use Rattle.pe_rules.specs.Replies.{replied}
use Rattle.pe_engine.specs.StandsFor.{EngineValue}
use Rattle.pe_engine.proofs.Queried.{feature-query, limit-query, other-query, statuses-counted, query-reply}
use Rattle.pe_engine.proofs.engine.Engine.query.Goals as goal

pub returns-in_default : goal.returns-in_default
returns-in_default g c = λ H s. record { first = c.in_ok-number.ensures.rest H _ s refl ∙ feature-query _ _ _ _ c.in_default.ensures.none; kept = refl }

pub returns-then-live-ge-STATUS_LIMIT : goal.returns-then-live-ge-STATUS_LIMIT
returns-then-live-ge-STATUS_LIMIT g c = λ H s.
    let e = c.args.self.now in
    let T = replied e.duration H in
    let f = c.args.frame in
    let counted = ap (λ (v : EngineValue). count_of_page c.page_of-page.result v.statuses.live) c.self.view_is ∙ statuses-counted c.engine_laws.ensures e H f c.page_of-page.result s (c.page_of-page.ensures H f s c.in_ok-number.ensures.handle) in
    let value = c.live.ensures.value in
    let many : 256 ≤ c.live.result = c.if-live-ge-STATUS_LIMIT.true in
    let full : nat_le 256 (count_in_page T f (page_statuses T)) ≡ true = grind (arith, nat_tests) in
    record { first = c.in_ok-number.ensures.rest H _ s refl ∙ limit-query T c.args.now f c.args.name.now c.in-Some.ensures.some full; kept = refl }

pub returns : goal.returns
returns g c = λ H s.
    let e = c.args.self.now in
    let T = replied e.duration H in
    let f = c.args.frame in
    let paged = c.page_of-page.ensures H f s c.in_ok-number.ensures.handle in
    let counted = ap (λ (v : EngineValue). count_of_page c.page_of-page.result v.statuses.live) c.self.view_is ∙ statuses-counted c.engine_laws.ensures e H f c.page_of-page.result s paged in
    let value = c.live.ensures.value in
    let few : c.live.result < 256 = c.if-live-ge-STATUS_LIMIT.false in
    let room : nat_le 256 (count_in_page T f (page_statuses T)) ≡ false = grind (arith, nat_tests) in
    query-reply c.engine_laws.ensures e c.pass.new.self c.note.new.self c.register.new.self H c.args.now f c.args.name.now c.of-status.result c.page_of-page.result c.in_ok-number.h c.in-Some.feature c.in_ok-state.state
    c.in_ok-before.before c.new.result s (c.in_ok-before.ensures.passed H s c.in_ok-number.ensures.late) c.in_ok-before.ensures.rest c.in_ok-note.ensures.ok c.in_ok-state.ensures
    (c.in_ok-number.ensures.rest H _ s refl ∙ other-query T c.args.now f c.args.name.now c.in-Some.ensures.some room) (c.of-status.ensures ∙ c.in_ok-number.ensures.number) c.in_ok-number.ensures.handle c.in-Some.ensures.named
    paged c.new.ensures.items
