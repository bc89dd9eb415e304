use Rattle.std.proofs.Common.{refl, sym, ◌∙◌, ap}
use Rattle.pe_events.specs.declared.answer.Answer.TheVariants as answer
use Rattle.pe_events.specs.declared.event.Event.TheVariants as event
use Rattle.pe_rules.specs.Replies.{replied}
use Rattle.pe_engine.specs.Replying.{timed}
use Rattle.pe_engine.proofs.Accepted.{noted-silent, accept-silent}
use Rattle.pe_engine.proofs.VerbAnswers.{other-features, features-answer}
use Rattle.pe_engine.proofs.engine.Engine.features.Goals as goal

pub returns : goal.returns
returns g c = λ H s.
    let e = c.args.self.now in
    let T = replied e.duration H in
    let shown = c.row.ensures.shown H c.args.frame s c.in_ok-h.ensures.handle in
    accept-silent c.engine_laws.ensures e c.note.new.self H (timed c.args.now (event.Features c.args.frame)) (answer.Names c.allowed-allowed.result) refl
    (record { frames = refl; documents = refl; ends = refl; activates = refl; consumes = refl; acts = refl; delivers = refl; spends = refl; gives = refl }) s
    (noted-silent e c.note.new.self e _ _ refl c.in_ok-note.ensures.ok)
    (c.in_ok-h.ensures.rest H _ s refl ∙ other-features T c.args.now c.args.frame)
    (ap answer.Names (c.allowed-allowed.ensures T c.row.result.now.doc shown.row.settled.policy) ∙ sym (features-answer e.duration T c.args.now c.args.frame c.row.result.now.doc shown.document))
