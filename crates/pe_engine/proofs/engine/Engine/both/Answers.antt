use Rattle.std.proofs.Common.{not, is_some, ap, sym, ◌∙◌}
use Rattle.pe_frames.specs.Forest.{entry_of, top_of}
use Rattle.pe_engine.specs.StandsFor.{EngineValue}
use Rattle.pe_engine.proofs.CommonCauses.{some-mapped}
use Rattle.pe_engine.proofs.Posting.{from-unknown, to-unknown, from-closed, to-closed, both-there}
use Rattle.pe_engine.proofs.engine.Engine.both.Goals as goal

pub returns-in_default-clause-cause : goal.returns-in_default-clause-cause
returns-in_default-clause-cause c = λ H named name s.
    from-unknown c.engine_laws.ensures.history c.args.self.now H c.args.sender c.args.target named name s (sym c.handle.ensures ∙ c.in_default.is)

pub returns-in_default-handle-clause-cause : goal.returns-in_default-handle-clause-cause
returns-in_default-handle-clause-cause c = λ H named name s.
    to-unknown c.engine_laws.ensures.history c.args.self.now H c.args.sender c.args.target named name s c.in-Some.from (sym c.handle.ensures ∙ c.in-Some.is) (sym c.handle-2.ensures ∙ c.in_default-handle.is)

pub returns-then-is_none-clause-cause : goal.returns-then-is_none-clause-cause
returns-then-is_none-clause-cause c = λ H named name s.
    from-closed c.engine_laws.ensures.history c.args.self.now H c.args.sender c.args.target named name s c.in-Some.from c.in-Some-handle.to (sym c.handle.ensures ∙ c.in-Some.is) (sym c.handle-2.ensures ∙ c.in-Some-handle.is)
    (ap (λ (v : EngineValue). is_some (entry_of v.frames.entries c.in-Some.from)) (sym c.self.view_is)
    ∙ sym (some-mapped top_of (entry_of c.self.inside.frames.entries c.in-Some.from)) ∙ sym (ap is_some c.top.ensures) ∙ c.is_none.ensures ∙ ap not c.if-is_none.true)

pub returns-then-is_none-2-clause-cause : goal.returns-then-is_none-2-clause-cause
returns-then-is_none-2-clause-cause c = λ H named name s.
    to-closed c.engine_laws.ensures.history c.args.self.now H c.args.sender c.args.target named name s c.in-Some.from c.in-Some-handle.to (sym c.handle.ensures ∙ c.in-Some.is) (sym c.handle-2.ensures ∙ c.in-Some-handle.is)
    (ap (λ (v : EngineValue). is_some (entry_of v.frames.entries c.in-Some.from)) (sym c.self.view_is)
    ∙ sym (some-mapped top_of (entry_of c.self.inside.frames.entries c.in-Some.from)) ∙ sym (ap is_some c.top.ensures) ∙ c.is_none.ensures ∙ ap not c.if-is_none.false)
    (ap (λ (v : EngineValue). is_some (entry_of v.frames.entries c.in-Some-handle.to)) (sym c.self.view_is)
    ∙ sym (some-mapped top_of (entry_of c.self.inside.frames.entries c.in-Some-handle.to)) ∙ sym (ap is_some c.top-2.ensures) ∙ c.is_none-2.ensures ∙ ap not c.if-is_none-2.true)

pub returns-clause-none : goal.returns-clause-none
returns-clause-none c = λ H named name s.
    both-there c.engine_laws.ensures.history c.args.self.now H c.args.sender c.args.target named name s c.in-Some.from c.in-Some-handle.to (sym c.handle.ensures ∙ c.in-Some.is) (sym c.handle-2.ensures ∙ c.in-Some-handle.is)
    (ap (λ (v : EngineValue). is_some (entry_of v.frames.entries c.in-Some.from)) (sym c.self.view_is)
    ∙ sym (some-mapped top_of (entry_of c.self.inside.frames.entries c.in-Some.from)) ∙ sym (ap is_some c.top.ensures) ∙ c.is_none.ensures ∙ ap not c.if-is_none.false)
    (ap (λ (v : EngineValue). is_some (entry_of v.frames.entries c.in-Some-handle.to)) (sym c.self.view_is)
    ∙ sym (some-mapped top_of (entry_of c.self.inside.frames.entries c.in-Some-handle.to)) ∙ sym (ap is_some c.top-2.ensures) ∙ c.is_none-2.ensures ∙ ap not c.if-is_none-2.false)
