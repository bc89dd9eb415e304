use Rattle.std.proofs.Common.{◌≡◌, length, Some, None, sym, ◌∙◌, ap, arith}
use Rattle.pe_prompts.specs.declared.fault.AnswerFault.TheVariants as fault
use Rattle.pe_prompts.specs.Queues.{refusal}
use Rattle.pe_engine.specs.StandsFor.{EngineValue}
use Rattle.pe_engine.proofs.Prompted.{beyond-prompts, named-by, never-memory}
use Rattle.pe_engine.proofs.engine.Engine.shown.Goals as goal

pub returns-then-number-eq0-clause-cause : goal.returns-then-number-eq0-clause-cause
returns-then-number-eq0-clause-cause c = λ H out given s. beyond-prompts c.engine_laws.ensures.history c.args.self.now H c.args.number out given s (λ least most. absurd (omega (arith, least, c.if-number-eq0.true)))

pub returns-then-number-len-clause-cause : goal.returns-then-number-len-clause-cause
returns-then-number-len-clause-cause c = λ H out given s.
    let counted = ap (λ (v : EngineValue). length v.made) c.self.view_is in
    beyond-prompts c.engine_laws.ensures.history c.args.self.now H c.args.number out given s (λ least most. absurd (omega (arith, most, c.if-number-len.true, c.len.ensures, counted)))

pub returns-in-Ok-clause-none : goal.returns-in-Ok-clause-none
returns-in-Ok-clause-none c = λ H out given s.
    let e = c.args.self.now in
    let k = c.args.number in
    named-by c.engine_laws.ensures e.duration H e.prompts k out given None s.steps.prompts
    (ap (λ (v : EngineValue). refusal v.prompts k) (sym c.self.view_is) ∙ ap (refusal c.self.inside.prompts) (sym c.of.ensures) ∙ c.in-Ok.ensures.ok.1)

pub returns-in-Err-Settled-clause-cause : goal.returns-in-Err-Settled-clause-cause
returns-in-Err-Settled-clause-cause c = λ H out given s.
    let e = c.args.self.now in
    let k = c.args.number in
    named-by c.engine_laws.ensures e.duration H e.prompts k out given (Some fault.Settled) s.steps.prompts
    (ap (λ (v : EngineValue). refusal v.prompts k) (sym c.self.view_is) ∙ ap (refusal c.self.inside.prompts) (sym c.of.ensures) ∙ c.in-Err-Settled.ensures.err ∙ ap Some c.in-Err-Settled.field-0-is)

pub returns-in-Err-Closed-clause-cause : goal.returns-in-Err-Closed-clause-cause
returns-in-Err-Closed-clause-cause c = λ H out given s.
    let e = c.args.self.now in
    let k = c.args.number in
    named-by c.engine_laws.ensures e.duration H e.prompts k out given (Some fault.Closed) s.steps.prompts
    (ap (λ (v : EngineValue). refusal v.prompts k) (sym c.self.view_is) ∙ ap (refusal c.self.inside.prompts) (sym c.of.ensures) ∙ c.in-Err-Closed.ensures.err ∙ ap Some c.in-Err-Closed.field-0-is)

pub returns-in-Err-NotShown-clause-cause : goal.returns-in-Err-NotShown-clause-cause
returns-in-Err-NotShown-clause-cause c = λ H out given s.
    let e = c.args.self.now in
    let k = c.args.number in
    named-by c.engine_laws.ensures e.duration H e.prompts k out given (Some fault.NotShown) s.steps.prompts
    (ap (λ (v : EngineValue). refusal v.prompts k) (sym c.self.view_is) ∙ ap (refusal c.self.inside.prompts) (sym c.of.ensures) ∙ c.in-Err-NotShown.ensures.err ∙ ap Some c.in-Err-NotShown.field-0-is)

pub returns-in-Err-Unknown-clause-cause : goal.returns-in-Err-Unknown-clause-cause
returns-in-Err-Unknown-clause-cause c = λ H out given s.
    let e = c.args.self.now in
    let k = c.args.number in
    named-by c.engine_laws.ensures e.duration H e.prompts k out given (Some fault.Unknown) s.steps.prompts
    (ap (λ (v : EngineValue). refusal v.prompts k) (sym c.self.view_is) ∙ ap (refusal c.self.inside.prompts) (sym c.of.ensures) ∙ c.in-Err-Unknown.ensures.err ∙ ap Some c.in-Err-Unknown.field-0-is)

pub unreachable-requires : goal.unreachable-requires
unreachable-requires c = never-memory c.self.inside.prompts c.of.result (c.in-Err-Memory.ensures.err ∙ ap Some c.in-Err-Memory.field-0-is)
