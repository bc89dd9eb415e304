use Rattle.std.proofs.Common.{◌≡◌, [], ◌∷◌, ◌++◌, length, Some, option_map, refl, sym, ◌∙◌, ap, subst}
use Rattle.pe_prompts.specs.declared.queue.Prompt.{Prompt}
use Rattle.pe_prompts.specs.Queues.{prompt_at, HasSettled}
use Rattle.pe_events.specs.declared.answer.Answer.TheVariants as answer
use Rattle.pe_rules.specs.Replies.{replied}
use Rattle.pe_engine.specs.declared.engine.Made.TheVariants as made
use Rattle.pe_engine.specs.declared.verbs.prompt.Decision.{Decision}
use Rattle.pe_engine.specs.StandsFor.{EngineValue}
use Rattle.pe_engine.proofs.Answering.{replied-checked}
use Rattle.pe_engine.proofs.Prompted.{has-applied, answer-reply}
use Rattle.pe_engine.proofs.engine.Engine.answer_prompt.Goals as goal

pub returns-in-Err : goal.returns-in-Err
returns-in-Err g c = λ H s. replied-checked Decision _ H _ c.in-Err.refusal (c.in-Err.ensures.checked H s)

pub returns : goal.returns
returns g c = λ H s.
    let e = c.args.self.now in
    let T = replied e.duration H in
    let now = c.args.now in
    let k = c.args.number in
    let laws = c.engine_laws.ensures in
    let d = c.in-Ok.decision in
    let p = c.pass.new.self in
    let w = c.store_decided.new.self in
    let Q = c.answer.new.self in
    let u = c.note.new.self in
    let items = c.in-Ok-answer.requests.items in
    let p_is = c.in_ok-before.ensures.rest in
    let w_is = c.in_ok-after.ensures.rest in
    let same : c.self.inside.prompts ≡ e.prompts = ap (λ (v : EngineValue). v.prompts) c.self.view_is ∙ ap (λ (v : EngineValue). v.prompts) w_is ∙ ap (λ (v : EngineValue). v.prompts) p_is in
    let settled : HasSettled e.prompts Q k = subst (λ q. HasSettled q Q k) same (subst (λ n. HasSettled c.self.inside.prompts Q n) c.in-Ok.ensures.number c.in-Ok-answer.ensures.settled) in
    let requests : option_map (λ (x : Prompt). x.waiting) (prompt_at e.prompts k) ≡ Some items =
    subst (λ q. option_map (λ (x : Prompt). x.waiting) (prompt_at q k) ≡ Some items) same
    (subst (λ n. option_map (λ (x : Prompt). x.waiting) (prompt_at c.self.inside.prompts n) ≡ Some items) c.in-Ok.ensures.number c.in-Ok-answer.ensures.requests) in
    let has = has-applied e p u now made.Nothing w.store Q p_is
    (c.in_ok-note.ensures.ok ∙ ap (λ (v : EngineValue). record v { prompts = Q; clock = now; made = v.made ++ made.Nothing ∷ [] }) c.self.view_is
    ∙ ap (λ (v : EngineValue). record v { prompts = Q; clock = now; made = v.made ++ made.Nothing ∷ [] }) w_is) in
    answer-reply laws e p u H now k c.args.outcome c.args.life (d.feature, d.key) d.set w.store Q (answer.Settled c.len-count.result c.state_replied.result) c.in_ok-before.before c.in_ok-after.after
    s (c.in_ok-before.ensures.passed H s c.in-Ok.ensures.late) p_is has c.requires.fitting (c.in-Ok.ensures.checked H s)
    (ap (λ n. answer.Settled n c.state_replied.result) (c.len-count.ensures ∙ c.in-Ok-answer.requests.ok.0) ∙ ap (answer.Settled (length items)) c.state_replied.ensures
    ∙ sym (laws.prompts.settles e.duration T now e.prompts k c.args.outcome c.args.life items s.steps.prompts requests))
    (c.in-Ok.ensures.decided H s) settled c.in_ok-after.ensures.set c.in_ok-after.ensures.dismissed c.in_ok-after.ensures.changes c.in_ok-after.ensures.none

pub store_decided-requires : goal.store_decided-requires
store_decided-requires g c = record { fits = c.in-Ok.ensures.fits c.pass.new.self.store c.in_ok-before.ensures.lapsed }
