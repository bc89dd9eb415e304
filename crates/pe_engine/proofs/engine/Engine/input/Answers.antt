use Rattle.std.proofs.Common.{◌≡◌, length, false, true, refl, sym, ◌∙◌, ap, subst}
use Rattle.std.specs.Prelude.{filter, IfSome, IfOk}
use Rattle.pe_base.specs.Activation.{triggers}
use Rattle.pe_frames.specs.Forest.{Forest, entry_of}
use Rattle.pe_activation.specs.Notifying.{is_notified, notified}
use Rattle.pe_events.specs.declared.answer.Answer.TheVariants as answer
use Rattle.pe_events.specs.declared.event.Event.TheVariants as event
use Rattle.pe_rules.specs.Replies.{replied}
use Rattle.pe_engine.specs.declared.row.Row.{Row}
use Rattle.pe_engine.specs.StandsFor.{EngineValue}
use Rattle.pe_engine.specs.Replying.{timed}
use Rattle.pe_engine.specs.declared.engine.Made.TheVariants as made
use Rattle.pe_engine.proofs.Accepted.{noted, noted-silent, accept, accept-silent}
use Rattle.pe_engine.proofs.Activating.{same_origins, with_stamp, notified-count, kept-input}
use Rattle.pe_engine.proofs.CommonCauses.{some-of}
use Rattle.pe_engine.proofs.VerbAnswers.{other-input, ignored-input, activated-input}
use Rattle.pe_engine.proofs.engine.Engine.input.Goals as goal

pub returns-then-not-triggers : goal.returns-then-not-triggers
returns-then-not-triggers g c = λ H s.
    let e = c.args.self.now in
    let T = replied e.duration H in
    let quiet : triggers c.args.kind ≡ false = sym c.triggers.ensures ∙ c.if-not-triggers.true in
    accept-silent c.engine_laws.ensures e c.note.new.self H (timed c.args.now (event.Input c.args.frame c.args.kind)) answer.Ignored refl
    (record { frames = refl; documents = refl; ends = refl; activates = quiet; consumes = refl; acts = refl; delivers = refl; spends = refl; gives = refl }) s
    (noted-silent e c.note.new.self e _ _ refl c.in_ok-note.ensures.ok)
    (c.in_ok-h.ensures.rest H _ s refl ∙ other-input T c.args.now c.args.frame c.args.kind) (sym (ignored-input e.duration T c.args.now c.args.frame c.args.kind quiet))

pub returns : goal.returns
returns g c = λ H s.
    let e = c.args.self.now in
    let T = replied e.duration H in
    let h = c.in_ok-h.h in
    let N = c.notify.new.frames in
    let n = c.unwrap-count.result in
    let laws = c.engine_laws.ensures.history in
    let triggering : triggers c.args.kind ≡ true = sym c.triggers.ensures ∙ c.if-not-triggers.false in
    let new = noted e c.note-2.new.self _ _ _ N c.self.view_is c.in_ok-note-2.ensures.ok in
    let same = ap (λ (v : EngineValue). v.frames) c.self.view_is in
    let (x, found) = some-of (entry_of e.frames.entries h) c.in_ok-h.ensures.found in
    let entries-at = subst (λ (v : Forest Row). IfSome (entry_of v.entries h) (λ z. N.entries ≡ notified same_origins with_stamp c.args.now h z v.entries)) same c.notify.ensures.entries in
    let entries = subst (λ o. IfSome o (λ z. N.entries ≡ notified same_origins with_stamp c.args.now h z e.frames.entries)) found entries-at in
    let count-of = subst (λ (v : Forest Row). IfOk c.notify.result (λ n. IfSome (entry_of v.entries h) (λ z. n ≡ length (filter (is_notified same_origins h z) v.entries)))) same c.notify.ensures.count in
    let count-at = subst (λ r. IfOk r (λ n. IfSome (entry_of e.frames.entries h) (λ z. n ≡ length (filter (is_notified same_origins h z) e.frames.entries)))) c.unwrap-count.ensures count-of in
    let count = subst (λ o. IfSome o (λ z. n ≡ length (filter (is_notified same_origins h z) e.frames.entries))) found count-at in
    let many = count ∙ notified-count laws e.duration c.args.frame c.args.kind H e.made e.frames h x s.regular triggering c.in_ok-h.ensures.handle found s.steps.tree in
    accept c.engine_laws.ensures e c.note-2.new.self H (timed c.args.now (event.Input c.args.frame c.args.kind)) (answer.Activated n) made.Nothing refl s
    new.rest (c.in_ok-h.ensures.rest H _ s refl ∙ other-input T c.args.now c.args.frame c.args.kind)
    (ap answer.Activated many ∙ sym (activated-input e.duration T c.args.now c.args.frame c.args.kind triggering))
    (λ item is. rw (new.rest.noted.made, new.frames_are)
    (kept-input laws e.duration c.args.frame c.args.kind H e.made e.frames h x s.regular triggering c.in_ok-h.ensures.handle found s.steps.tree c.args.now item N entries
    (c.notify.ensures.marks ∙ ap (λ (v : EngineValue). v.frames.marks) c.self.view_is)))
