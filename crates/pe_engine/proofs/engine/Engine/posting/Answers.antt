use Rattle.std.proofs.Common.{◌≡◌, true, false, ◌==◌, nat_le, sym, ◌∙◌, ap, arith}
use Rattle.std.proofs.lemmas.Bool.Decides.{nat_tests}
use Rattle.pe_base.specs.declared.limits.TheConstants.{MESSAGE_LIMIT}
use Rattle.pe_delegation.specs.Posted.{waiting_count}
use Rattle.pe_rules.specs.Replies.{replied}
use Rattle.pe_engine.specs.declared.verbs.message.Posting.{Posting}
use Rattle.pe_engine.specs.StandsFor.{EngineValue}
use Rattle.pe_engine.proofs.CausesParts.{first-time, then-named, then-other}
use Rattle.pe_engine.proofs.Posting.{origin-checked, url-post, capability-post, page-post, limit-post, other-post}
use Rattle.pe_engine.proofs.engine.Engine.posting.Goals as goal

pub returns-in-Err-clause-cause : goal.returns-in-Err-clause-cause
returns-in-Err-clause-cause g c = λ H s. first-time _ _ _ _ (c.in-Err.ensures.cause H s)

pub returns-in-Err-both-clause-cause : goal.returns-in-Err-both-clause-cause
returns-in-Err-both-clause-cause g c = λ H s. then-named _ _ _ _ (c.in-Ok.ensures.none H s) (c.in-Err-both.ensures.cause H c.args.named.now c.args.capability.now s)

pub returns-in-Err-origin_given-clause-cause : goal.returns-in-Err-origin_given-clause-cause
returns-in-Err-origin_given-clause-cause g c = λ H s.
    origin-checked Posting c.args.self.now H _ c.args.named.now c.in-Err-origin_given.refusal c.in-Err-origin_given.ensures
    (λ bad. then-other _ c.args.now _ (c.in-Ok.ensures.none H s) (c.in-Ok-both.ensures.none H c.args.named.now c.args.capability.now s)
    ∙ url-post (replied c.args.self.now.duration H) c.args.now c.args.sender c.args.target c.args.named.now c.args.capability.now bad)

pub returns-in_default-clause-cause : goal.returns-in_default-clause-cause
returns-in_default-clause-cause g c = λ H s.
    then-other _ c.args.now _ (c.in-Ok.ensures.none H s) (c.in-Ok-both.ensures.none H c.args.named.now c.args.capability.now s)
    ∙ capability-post (replied c.args.self.now.duration H) c.args.now c.args.sender c.args.target c.args.named.now c.args.capability.now c.in-Ok-origin_given.ensures.0 (sym c.by_name.ensures.table ∙ c.in_default.is)

pub returns-then-ne-clause-cause : goal.returns-then-ne-clause-cause
returns-then-ne-clause-cause g c = λ H s.
    let a = c.page_of-page.result in
    let b = c.page_of.result in
    let apart : (a == b) ≡ false = (let d = c.ne.ensures in let q = c.if-ne.true in grind (arith, nat_tests)) in
    then-other _ c.args.now _ (c.in-Ok.ensures.none H s) (c.in-Ok-both.ensures.none H c.args.named.now c.args.capability.now s)
    ∙ page-post (replied c.args.self.now.duration H) c.args.now c.args.sender c.args.target c.args.named.now c.args.capability.now c.in-Some.capability a b c.in-Ok-origin_given.ensures.0 (sym c.by_name.ensures.table ∙ c.in-Some.is)
    (c.page_of-page.ensures H c.args.sender s c.in-Ok-both.ensures.sender) (c.page_of.ensures H c.args.target s c.in-Ok-both.ensures.target) apart

pub returns-then-waiting-ge-MESSAGE_LIMIT-clause-cause : goal.returns-then-waiting-ge-MESSAGE_LIMIT-clause-cause
returns-then-waiting-ge-MESSAGE_LIMIT-clause-cause g c = λ H s.
    let e = c.args.self.now in
    let T = replied e.duration H in
    let a = c.page_of-page.result in
    let b = c.page_of.result in
    let same : (a == b) ≡ true = (let d = c.ne.ensures in let q = c.if-ne.false in grind (arith, nat_tests)) in
    let from = c.page_of-page.ensures H c.args.sender s c.in-Ok-both.ensures.sender in
    let count = c.waiting.ensures.value ∙ ap (λ (v : EngineValue). waiting_count a v.messages.waiting) c.self.view_is in
    let many : nat_le MESSAGE_LIMIT c.waiting.result ≡ true = (let q = c.if-waiting-ge-MESSAGE_LIMIT.true in grind (arith, nat_tests)) in
    then-other _ c.args.now _ (c.in-Ok.ensures.none H s) (c.in-Ok-both.ensures.none H c.args.named.now c.args.capability.now s)
    ∙ limit-post T c.args.now c.args.sender c.args.target c.args.named.now c.args.capability.now c.in-Some.capability a b c.in-Ok-origin_given.ensures.0 (sym c.by_name.ensures.table ∙ c.in-Some.is)
    from (c.page_of.ensures H c.args.target s c.in-Ok-both.ensures.target) same
    (c.engine_laws.ensures.messages.limit T e.messages c.args.now c.args.sender c.args.target a c.args.named.now c.args.capability.now s.steps.messages from ∙ ap (nat_le MESSAGE_LIMIT) (sym count) ∙ many)

pub returns-clause-cause : goal.returns-clause-cause
returns-clause-cause g c = λ H s.
    let e = c.args.self.now in
    let T = replied e.duration H in
    let a = c.page_of-page.result in
    let b = c.page_of.result in
    let same : (a == b) ≡ true = (let d = c.ne.ensures in let q = c.if-ne.false in grind (arith, nat_tests)) in
    let from = c.page_of-page.ensures H c.args.sender s c.in-Ok-both.ensures.sender in
    let count = c.waiting.ensures.value ∙ ap (λ (v : EngineValue). waiting_count a v.messages.waiting) c.self.view_is in
    let few : nat_le MESSAGE_LIMIT c.waiting.result ≡ false = (let q = c.if-waiting-ge-MESSAGE_LIMIT.false in grind (arith, nat_tests)) in
    then-other _ c.args.now _ (c.in-Ok.ensures.none H s) (c.in-Ok-both.ensures.none H c.args.named.now c.args.capability.now s)
    ∙ other-post T c.args.now c.args.sender c.args.target c.args.named.now c.args.capability.now c.in-Some.capability a b c.in-Ok-origin_given.ensures.0 (sym c.by_name.ensures.table ∙ c.in-Some.is)
    from (c.page_of.ensures H c.args.target s c.in-Ok-both.ensures.target) same
    (c.engine_laws.ensures.messages.limit T e.messages c.args.now c.args.sender c.args.target a c.args.named.now c.args.capability.now s.steps.messages from ∙ ap (nat_le MESSAGE_LIMIT) (sym count) ∙ few)
