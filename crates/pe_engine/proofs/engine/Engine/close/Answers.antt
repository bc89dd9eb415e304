use Rattle.std.proofs.Common.{◌≡◌, refl, sym, ◌∙◌, ap, subst}
use Rattle.pe_frames.specs.Forest.{Forest}
use Rattle.pe_frames.specs.Order.{closed, docs_under}
use Rattle.pe_events.specs.declared.answer.Answer.TheVariants as answer
use Rattle.pe_events.specs.declared.event.Event.TheVariants as event
use Rattle.pe_rules.specs.Replies.{replied}
use Rattle.pe_engine.specs.declared.engine.Made.TheVariants as made
use Rattle.pe_engine.specs.declared.row.Row.{Row}
use Rattle.pe_engine.specs.Leaving.{numbers_of}
use Rattle.pe_engine.specs.StandsFor.{EngineValue}
use Rattle.pe_engine.specs.Replying.{timed}
use Rattle.pe_engine.proofs.Accepted.{step_of}
use Rattle.pe_engine.proofs.Answering.{replied-for, replied-memory}
use Rattle.pe_engine.proofs.Ended.{has-ended, ended-reply}
use Rattle.pe_engine.proofs.Gone.{CountsInOrder, placed, gone-under, shows-current}
use Rattle.pe_engine.proofs.Kept.{kept-close}
use Rattle.pe_engine.proofs.VerbAnswers.{other-close, done-close}
use Rattle.pe_engine.proofs.engine.Engine.close.Goals as goal

pub returns-in_err-h : goal.returns-in_err-h
returns-in_err-h g c = λ H s. replied-for _ H _ _ c.from_residual.result c.from_residual.ensures.1 (c.in_err-h.ensures.cause H _ s refl)

pub returns-in_err-before : goal.returns-in_err-before
returns-in_err-before g c = λ H s. replied-memory _ _ H _ c.from_residual-in_err-before.result c.from_residual-in_err-before.ensures.1

pub returns-in_err-after : goal.returns-in_err-after
returns-in_err-after g c = λ H s. replied-memory _ _ H _ c.from_residual-in_err-after.result c.from_residual-in_err-after.ensures.1

pub returns-in_err-note : goal.returns-in_err-note
returns-in_err-note g c = λ H s. replied-memory _ _ H _ c.from_residual-in_err-note.result c.from_residual-in_err-note.ensures.1

pub returns : goal.returns
returns g c = λ H s.
    let e = c.args.self.now in
    let T = replied e.duration H in
    let f = c.args.frame in
    let h = c.in_ok-h.h in
    let x = timed c.args.now (event.Close f) in
    let laws = c.engine_laws.ensures in
    let p = c.pass.new.self in
    let N = c.close.new.self in
    let row = c.row.result.now in
    let passed_frames : p.frames ≡ e.frames = ap (λ (v : EngineValue). v.frames) c.in_ok-before.ensures.rest in
    let before_close = ap (λ (v : EngineValue). v.frames) c.self.view_is in
    let frames = before_close ∙ passed_frames in
    let shown = c.row.ensures.shown H f s c.in_ok-h.ensures.handle in
    let none = c.in_ok-h.ensures.rest H _ s refl ∙ other-close T c.args.now f in
    let has = has-ended e p _ c.leave.new.self c.note.new.self c.args.now made.Nothing N c.in_ok-before.ensures.rest (ap (λ (v : EngineValue). record v { frames = N }) c.self.view_is) c.in_ok-after.ensures.rest c.in_ok-note.ensures.ok in
    let counted : CountsInOrder e.frames.entries = subst (λ (v : Forest Row). CountsInOrder v.entries) frames c.is_counted_in_tree_order.ensures.counted in
    let gone_is = ap numbers_of (c.deref.ensures.value ∙ c.in-Ok.ensures.documents ∙ ap (λ (v : Forest Row). docs_under v.entries h) frames) in
    ended-reply laws e p _ c.leave.new.self c.note.new.self H x f row.doc made.Nothing N c.deref.result.now answer.Done c.in_ok-before.before c.in_ok-after.after s (c.in_ok-before.ensures.passed H s c.in_ok-h.ensures.late) has
    (record { ended = λ fs. refl; makes = λ i. refl; drops = λ i. refl; idle = refl; requests = λ i. refl; settles = λ i. refl }) none (sym (done-close e.duration T c.args.now f)) shown.document
    (λ item is. rw (has.noted.made, has.frames_are) (kept-close laws.history (step_of x item) T e.made e.frames N f h refl c.in_ok-h.ensures.handle
    (c.in-Ok.ensures.entries ∙ ap (λ (v : Forest Row). closed h v.entries) frames) (c.close.ensures.marks ∙ ap (λ (v : Forest Row). v.marks) frames) s.steps.tree))
    (λ item. gone-under laws.history (step_of x item) T e.made f h e.frames.entries e.frames.entries c.deref.result.now s.steps.tree.apart c.in_ok-h.ensures.handle (λ fs. refl)
    (placed T e.made e.frames.entries s.steps.tree.nodes) (λ keep. refl) counted gone_is
    (shows-current laws.history e.duration H e.made e.frames s.regular s.steps.tree))
    c.in_ok-after.ensures.live c.in_ok-after.ensures.given c.in_ok-after.ensures.prompts c.in_ok-after.ensures.pending c.in_ok-after.ensures.store
    (λ t ending stored statuses governed. c.in_ok-after.ensures.changes e.duration H t f s.regular ending shown.document stored statuses governed)
    (ap (λ (v : EngineValue). v.frames) c.in_ok-after.ensures.rest ∙ sym has.frames_are)
