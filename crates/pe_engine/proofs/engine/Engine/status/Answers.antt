use Rattle.std.proofs.Common.{length, Some, sym, ◌∙◌, ap, arith}
use Rattle.pe_status.specs.Registry.{release_fault}
use Rattle.pe_rules.specs.Replies.{replied}
use Rattle.pe_engine.specs.StandsFor.{EngineValue}
use Rattle.pe_engine.proofs.Queried.{beyond-unknown, fault-unknown, fault-closed, fault-none}
use Rattle.pe_engine.proofs.engine.Engine.status.Goals as goal

pub returns-then-number-eq0-clause-cause : goal.returns-then-number-eq0-clause-cause
returns-then-number-eq0-clause-cause c = λ H s. beyond-unknown c.engine_laws.ensures c.args.self.now H c.args.number s (λ least most. absurd (omega (arith, least, c.if-number-eq0.true)))

pub returns-then-number-len-clause-cause : goal.returns-then-number-len-clause-cause
returns-then-number-len-clause-cause c = λ H s.
    let counted = ap (λ (v : EngineValue). length v.made) c.self.view_is in
    beyond-unknown c.engine_laws.ensures c.args.self.now H c.args.number s (λ least most. absurd (omega (arith, most, c.if-number-len.true, c.len.ensures, counted)))

pub returns-in-Ok-clause-none : goal.returns-in-Ok-clause-none
returns-in-Ok-clause-none c = λ H s.
    fault-none c.engine_laws.ensures (replied c.args.self.now.duration H) c.args.self.now.statuses c.args.number s.steps.statuses
    (c.in-Ok.ensures.fault ∙ ap (release_fault c.self.inside.statuses) c.of-no.ensures ∙ ap (λ (v : EngineValue). release_fault v.statuses c.args.number) c.self.view_is)

pub returns-in-Err-Unknown-clause-cause : goal.returns-in-Err-Unknown-clause-cause
returns-in-Err-Unknown-clause-cause c = λ H s.
    fault-unknown c.engine_laws.ensures (replied c.args.self.now.duration H) c.args.self.now.statuses c.args.number s.steps.statuses
    (ap Some (sym c.in-Err-Unknown.field-0-is) ∙ c.in-Err-Unknown.ensures.fault ∙ ap (release_fault c.self.inside.statuses) c.of-no.ensures ∙ ap (λ (v : EngineValue). release_fault v.statuses c.args.number) c.self.view_is)

pub returns-in-Err-Closed-clause-cause : goal.returns-in-Err-Closed-clause-cause
returns-in-Err-Closed-clause-cause c = λ H s.
    fault-closed c.engine_laws.ensures (replied c.args.self.now.duration H) c.args.self.now.statuses c.args.number s.steps.statuses
    (ap Some (sym c.in-Err-Closed.field-0-is) ∙ c.in-Err-Closed.ensures.fault ∙ ap (release_fault c.self.inside.statuses) c.of-no.ensures ∙ ap (λ (v : EngineValue). release_fault v.statuses c.args.number) c.self.view_is)
