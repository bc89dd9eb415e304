use Rattle.std.proofs.Common.{◌≡◌, ◌≤◌, Some, sym, ◌∙◌, ap, arith, true≢false}
use Rattle.pe_frames.specs.Forest.{entry_of, top_of}
use Rattle.pe_rules.specs.Replies.{replied}
use Rattle.pe_rules.specs.Verdicts.{verdict_of}
use Rattle.pe_engine.specs.Objects.{handle_at}
use Rattle.pe_engine.specs.StandsFor.{EngineValue}
use Rattle.pe_engine.proofs.Stored.{unmade-shows-none, closed-shows-none, verdict-none, verdict-some, shows-none, shows-one, unmapped-none, unmapped-some}
use Rattle.pe_engine.proofs.Uses.{shown-entry}
use Rattle.pe_engine.proofs.engine.Engine.decide.Goals as goal

pub returns-in_err-h-clause-verdict : goal.returns-in_err-h-clause-verdict
returns-in_err-h-clause-verdict g c = λ H s.
    let e = c.args.self.now in
    let none = unmade-shows-none c.engine_laws.ensures.history e H c.args.frame s (ap (handle_at e.made) (sym c.get.ensures.value) ∙ sym c.handle.ensures ∙ c.in_err-h.was) in
    c.from_residual.ensures ∙ verdict-none e.duration (replied e.duration H) c.args.frame c.args.call none

pub returns-in_err-h-clause-none : goal.returns-in_err-h-clause-none
returns-in_err-h-clause-none g c = λ H s.
    let e = c.args.self.now in
    let none = unmade-shows-none c.engine_laws.ensures.history e H c.args.frame s (ap (handle_at e.made) (sym c.get.ensures.value) ∙ sym c.handle.ensures ∙ c.in_err-h.was) in
    (λ h. shows-none (replied e.duration H) c.args.frame none, λ h. c.from_residual.ensures)

pub returns-in_err-top-clause-verdict : goal.returns-in_err-top-clause-verdict
returns-in_err-top-clause-verdict g c = λ H s.
    let e = c.args.self.now in
    let h = c.in_ok-h.h in
    let at = ap (handle_at e.made) (sym c.get.ensures.value) ∙ sym c.handle.ensures ∙ c.in_ok-h.was in
    let gone = ap (λ (v : EngineValue). entry_of v.frames.entries h) (sym c.self.view_is) ∙ unmapped-none top_of (entry_of c.self.inside.frames.entries h) (sym c.top.ensures ∙ c.in_err-top.was) in
    c.from_residual-in_err-top.ensures ∙ verdict-none e.duration (replied e.duration H) c.args.frame c.args.call (closed-shows-none c.engine_laws.ensures.history e H c.args.frame h s at gone)

pub returns-in_err-top-clause-none : goal.returns-in_err-top-clause-none
returns-in_err-top-clause-none g c = λ H s.
    let e = c.args.self.now in
    let h = c.in_ok-h.h in
    let at = ap (handle_at e.made) (sym c.get.ensures.value) ∙ sym c.handle.ensures ∙ c.in_ok-h.was in
    let gone = ap (λ (v : EngineValue). entry_of v.frames.entries h) (sym c.self.view_is) ∙ unmapped-none top_of (entry_of c.self.inside.frames.entries h) (sym c.top.ensures ∙ c.in_err-top.was) in
    (λ q. shows-none (replied e.duration H) c.args.frame (closed-shows-none c.engine_laws.ensures.history e H c.args.frame h s at gone), λ q. c.from_residual-in_err-top.ensures)

pub returns-clause-verdict : goal.returns-clause-verdict
returns-clause-verdict g c = λ H s.
    let e = c.args.self.now in
    let T = replied e.duration H in
    let h = c.in_ok-h.h in
    let at = ap (handle_at e.made) (sym c.get.ensures.value) ∙ sym c.handle.ensures ∙ c.in_ok-h.was in
    let (x, inside) = unmapped-some top_of (entry_of c.self.inside.frames.entries h) c.in_ok-top.field-0 (sym c.top.ensures ∙ c.in_ok-top.was) in
    let here = ap (λ (v : EngineValue). entry_of v.frames.entries h) (sym c.self.view_is) ∙ inside in
    let shown = shown-entry e H c.args.frame h x s at here in
    let now : c.self.inside.clock ≡ e.clock = ap (λ (v : EngineValue). v.clock) c.self.view_is in
    let late : e.clock ≤ c.self.inside.clock = omega (arith, now) in
    ap Some (c.judge.ensures.verdict H c.args.frame x.doc.doc s late at shown ∙ ap (λ t. verdict_of e.duration T t x.doc.doc c.args.call) (now ∙ s.steps.clock))
    ∙ verdict-some e.duration T c.args.frame x.doc.doc c.args.call shown

pub returns-clause-none : goal.returns-clause-none
returns-clause-none g c = λ H s.
    let e = c.args.self.now in
    let T = replied e.duration H in
    let h = c.in_ok-h.h in
    let at = ap (handle_at e.made) (sym c.get.ensures.value) ∙ sym c.handle.ensures ∙ c.in_ok-h.was in
    let (x, inside) = unmapped-some top_of (entry_of c.self.inside.frames.entries h) c.in_ok-top.field-0 (sym c.top.ensures ∙ c.in_ok-top.was) in
    let here = ap (λ (v : EngineValue). entry_of v.frames.entries h) (sym c.self.view_is) ∙ inside in
    (λ q. cc, λ dead. absurd (true≢false (sym (shows-one T c.args.frame x.doc.doc (shown-entry e H c.args.frame h x s at here)) ∙ dead)))
