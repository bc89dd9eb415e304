use Rattle.std.proofs.Common.{refl, sym, ◌∙◌}
use Rattle.pe_events.specs.declared.answer.Answer.TheVariants as answer
use Rattle.pe_events.specs.declared.event.Event.TheVariants as event
use Rattle.pe_rules.specs.Replies.{replied}
use Rattle.pe_engine.specs.Replying.{timed}
use Rattle.pe_engine.proofs.Accepted.{noted-silent, accept-silent}
use Rattle.pe_engine.proofs.Answering.{answer-for}
use Rattle.pe_engine.proofs.CausesParts.{first-time, then-other, no-object}
use Rattle.pe_engine.proofs.VerbAnswers.{other-tick, done-tick}
use Rattle.pe_engine.proofs.engine.Engine.tick.Goals as goal

pub returns-in_err-next : goal.returns-in_err-next
returns-in_err-next c = λ H s. answer-for _ H _ _ c.from_residual.result c.from_residual.ensures.1 (first-time _ _ _ _ (c.in_err-next.ensures.cause H s))

pub returns : goal.returns
returns c = λ H s.
    let e = c.args.self.now in
    let T = replied e.duration H in
    accept-silent c.engine_laws.ensures e c.note.new.self H (timed c.args.now event.Tick) answer.Done refl
    (record { frames = refl; documents = refl; ends = refl; activates = refl; consumes = refl; acts = refl; delivers = refl; spends = refl; gives = refl }) s
    (noted-silent e c.note.new.self e _ _ refl c.in_ok-note.ensures.ok)
    (then-other T c.args.now event.Tick (c.in_ok-next.ensures.none H s) (no-object T event.Tick refl) ∙ other-tick T c.args.now) (sym (done-tick e.duration T c.args.now))
