use Rattle.std.proofs.Common.{◌≡◌, ◌+◌, true, Some, None, sym, ◌∙◌, ap, subst}
use Rattle.pe_base.specs.declared.limits.TheConstants.{EMBARGO_SPAN}
use Rattle.pe_base.specs.declared.state.State.TheVariants as state
use Rattle.pe_events.specs.Fitting.{is_life}
use Rattle.pe_prompts.specs.Pending.{pair_of}
use Rattle.pe_store.specs.declared.key.Life.TheVariants as lives
use Rattle.pe_rules.specs.Replies.{replied}
use Rattle.pe_rules.specs.Settings.{life_of_answer}
use Rattle.pe_engine.specs.Prompting.{IsDecided}
use Rattle.pe_engine.proofs.Prompted.{decided-allow, decided-block, decided-embargo, decided-none, life-fits}
use Rattle.pe_engine.proofs.engine.Engine.decided.Goals as goal

pub returns-in-Allow-clause-decided : goal.returns-in-Allow-clause-decided
returns-in-Allow-clause-decided g c = λ H k s late at.
    let e = c.args.self.now in
    let T = replied e.duration H in
    let p = c.args.asked.now in
    subst (λ o. IsDecided T c.args.now k o c.args.life (pair_of p) (Some (state.Granted, c.life_of_answer.result))) (sym c.in-Allow.is)
    (decided-allow c.engine_laws.ensures e H c.args.now k c.args.life p c.life_of_answer.result s at (subst (λ o. is_life o c.args.life ≡ true) c.in-Allow.is c.requires)
    (c.life_of_answer.ensures ∙ ap (life_of_answer c.args.now c.args.life) (c.top_document.ensures H s)))

pub returns-in-Block-clause-decided : goal.returns-in-Block-clause-decided
returns-in-Block-clause-decided g c = λ H k s late at.
    let e = c.args.self.now in
    let T = replied e.duration H in
    let p = c.args.asked.now in
    subst (λ o. IsDecided T c.args.now k o c.args.life (pair_of p) (Some (state.Denied, c.life_of_answer-in-Block.result))) (sym c.in-Block.is)
    (decided-block c.engine_laws.ensures e H c.args.now k c.args.life p c.life_of_answer-in-Block.result s at (sym (life-fits c.args.life) ∙ subst (λ o. is_life o c.args.life ≡ true) c.in-Block.is c.requires)
    (c.life_of_answer-in-Block.ensures ∙ ap (life_of_answer c.args.now c.args.life) (c.top_document-in-Block.ensures H s)))

pub returns-then-not-is_embargo-clause-decided : goal.returns-then-not-is_embargo-clause-decided
returns-then-not-is_embargo-clause-decided g c = λ H k s late at.
    let e = c.args.self.now in
    let T = replied e.duration H in
    let p = c.args.asked.now in
    subst (λ o. IsDecided T c.args.now k o c.args.life (pair_of p) None) (sym c.in-Dismiss.is)
    (decided-none c.engine_laws.ensures e H c.args.now k c.args.life p s at (sym (c.is_embargo.ensures.embargo H s late) ∙ c.if-not-is_embargo.true))

pub returns-else-not-is_embargo-clause-decided : goal.returns-else-not-is_embargo-clause-decided
returns-else-not-is_embargo-clause-decided g c = λ H k s late at.
    let e = c.args.self.now in
    let T = replied e.duration H in
    let p = c.args.asked.now in
    subst (λ n. IsDecided T c.args.now k c.args.outcome c.args.life (pair_of p) (Some (state.Denied, lives.Until (n + EMBARGO_SPAN)))) (sym c.get.ensures.value)
    (subst (λ o. IsDecided T c.args.now k o c.args.life (pair_of p) (Some (state.Denied, lives.Until (c.args.now + EMBARGO_SPAN)))) (sym c.in-Dismiss.is)
    (decided-embargo c.engine_laws.ensures e H c.args.now k c.args.life p s at (sym (c.is_embargo.ensures.embargo H s late) ∙ c.if-not-is_embargo.false)))

pub returns-then-not-is_embargo-clause-dismissed : goal.returns-then-not-is_embargo-clause-dismissed
returns-then-not-is_embargo-clause-dismissed g c = λ none later is. sym (c.is_embargo.ensures.later later is) ∙ c.if-not-is_embargo.true
