use Rattle.std.proofs.Common.{refl, sym, ◌∙◌, ap}
use Rattle.pe_events.specs.declared.event.Event.TheVariants as event
use Rattle.pe_rules.specs.Replies.{replied, answer_of_denial}
use Rattle.pe_engine.specs.Replying.{timed}
use Rattle.pe_engine.proofs.Accepted.{noted-silent, accept-silent}
use Rattle.pe_engine.proofs.VerbAnswers.{feature-policy, other-policy, policy-answer}
use Rattle.pe_engine.proofs.engine.Engine.policy.Goals as goal

pub returns-in_default-clause-answered : goal.returns-in_default-clause-answered
returns-in_default-clause-answered g c = λ H s. record { first = c.in_ok-h.ensures.rest H _ s refl ∙ feature-policy _ _ _ _ c.in_default.ensures.none; kept = refl }

pub returns-clause-answered : goal.returns-clause-answered
returns-clause-answered g c = λ H s.
    let e = c.args.self.now in
    let T = replied e.duration H in
    let shown = c.row.ensures.shown H c.args.frame s c.in_ok-h.ensures.handle in
    accept-silent c.engine_laws.ensures e c.note.new.self H (timed c.args.now (event.PolicyOf c.args.frame c.args.name.now)) c.answer_of_denial-answer.result refl
    (record { frames = refl; documents = refl; ends = refl; activates = refl; consumes = refl; acts = refl; delivers = refl; spends = refl; gives = refl }) s
    (noted-silent e c.note.new.self e _ _ refl c.in_ok-note.ensures.ok)
    (c.in_ok-h.ensures.rest H _ s refl ∙ other-policy T c.args.now c.args.frame c.args.name.now c.in-Some.ensures.some)
    (c.answer_of_denial-answer.ensures ∙ ap answer_of_denial (c.why_denied.ensures T c.row.result.now.doc shown.row.settled.policy)
    ∙ sym (policy-answer e.duration T c.args.now c.args.frame c.row.result.now.doc c.args.name.now c.in-Some.feature shown.document c.in-Some.ensures.named))
