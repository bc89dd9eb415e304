use Rattle.std.proofs.Common.{not, is_some, ap, sym, ◌∙◌}
use Rattle.pe_frames.specs.Forest.{entry_of, top_of}
use Rattle.pe_engine.specs.StandsFor.{EngineValue}
use Rattle.pe_engine.proofs.CommonCauses.{live-unknown, live-closed, live-none, some-mapped}
use Rattle.pe_engine.proofs.engine.Engine.live.Goals as goal

pub returns-in_default-clause-cause : goal.returns-in_default-clause-cause
returns-in_default-clause-cause c = λ H e s named.
    live-unknown c.engine_laws.ensures.history c.args.self.now H e c.args.frame s named (sym c.handle.ensures ∙ c.in_default.is)

pub returns-then-is_none-clause-cause : goal.returns-then-is_none-clause-cause
returns-then-is_none-clause-cause c = λ H e s named.
    live-closed c.engine_laws.ensures.history c.args.self.now H e c.args.frame c.in-Some.h s named (sym c.handle.ensures ∙ c.in-Some.is)
    (ap (λ (v : EngineValue). is_some (entry_of v.frames.entries c.in-Some.h)) (sym c.self.view_is)
    ∙ sym (some-mapped top_of (entry_of c.self.inside.frames.entries c.in-Some.h)) ∙ sym (ap is_some c.top.ensures) ∙ c.is_none.ensures ∙ ap not c.if-is_none.true)

pub returns-clause-none : goal.returns-clause-none
returns-clause-none c = λ H e s named.
    live-none c.engine_laws.ensures.history c.args.self.now H e c.args.frame c.in-Some.h s named (sym c.handle.ensures ∙ c.in-Some.is)
    (ap (λ (v : EngineValue). is_some (entry_of v.frames.entries c.in-Some.h)) (sym c.self.view_is)
    ∙ sym (some-mapped top_of (entry_of c.self.inside.frames.entries c.in-Some.h)) ∙ sym (ap is_some c.top.ensures) ∙ c.is_none.ensures ∙ ap not c.if-is_none.false)
