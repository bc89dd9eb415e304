use Rattle.std.proofs.Common.{refl, sym, ◌∙◌, ap}
use Rattle.pe_base.specs.Activation.{is_sticky, is_transient}
use Rattle.pe_events.specs.declared.answer.Answer.TheVariants as answer
use Rattle.pe_events.specs.declared.event.Event.TheVariants as event
use Rattle.pe_rules.specs.Replies.{replied}
use Rattle.pe_engine.specs.StandsFor.{EngineValue}
use Rattle.pe_engine.specs.Replying.{timed}
use Rattle.pe_engine.proofs.Accepted.{noted-silent, accept-silent}
use Rattle.pe_engine.proofs.VerbAnswers.{other-state, state-answer}
use Rattle.pe_engine.proofs.engine.Engine.state.Goals as goal

pub returns : goal.returns
returns g c = λ H s.
    let e = c.args.self.now in
    let T = replied e.duration H in
    let shown = c.row.ensures.shown H c.args.frame s c.in_ok-h.ensures.handle in
    accept-silent c.engine_laws.ensures e c.note.new.self H (timed c.args.now (event.Ask c.args.frame)) c.activity-answer.result refl
    (record { frames = refl; documents = refl; ends = refl; activates = refl; consumes = refl; acts = refl; delivers = refl; spends = refl; gives = refl }) s
    (noted-silent e c.note.new.self e _ _ refl c.in_ok-note.ensures.ok)
    (c.in_ok-h.ensures.rest H _ s refl ∙ other-state T c.args.now c.args.frame)
    (c.activity-answer.ensures ∙ ap (λ (v : EngineValue). answer.Activity (is_sticky c.row.result.now.stamp) (is_transient v.duration c.args.now c.row.result.now.stamp)) c.self.view_is
    ∙ sym (state-answer c.engine_laws.ensures.history e.duration T c.args.now c.args.frame c.row.result.now shown))
