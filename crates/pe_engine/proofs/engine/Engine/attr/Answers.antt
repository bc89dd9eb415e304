use Rattle.std.proofs.Common.{◌≡◌, refl, sym, ◌∙◌, ap, subst}
use Rattle.std.specs.Prelude.{IfSome}
use Rattle.pe_frames.specs.Forest.{Forest, entry_of, with_doc}
use Rattle.pe_events.specs.declared.answer.Answer.TheVariants as answer
use Rattle.pe_events.specs.declared.event.Event.TheVariants as event
use Rattle.pe_rules.specs.Replies.{replied}
use Rattle.pe_engine.specs.declared.attribute.Attribute.{Attribute}
use Rattle.pe_engine.specs.declared.row.Row.{Row}
use Rattle.pe_engine.specs.Changing.{with_attribute}
use Rattle.pe_engine.specs.Giving.{attribute_given}
use Rattle.pe_engine.specs.StandsFor.{EngineValue}
use Rattle.pe_engine.specs.Replying.{timed}
use Rattle.pe_engine.specs.declared.engine.Made.TheVariants as made
use Rattle.pe_engine.proofs.Accepted.{noted, accept}
use Rattle.pe_engine.proofs.CommonCauses.{some-of}
use Rattle.pe_engine.proofs.InPlace.{kept-attr}
use Rattle.pe_engine.proofs.VerbAnswers.{other-attr, url-attr, bad-value, done-attr, attribute-refused}
use Rattle.pe_engine.proofs.engine.Engine.attr.Goals as goal

pub returns-in-Err : goal.returns-in-Err
returns-in-Err g c = λ H s.
    let e = c.args.self.now in
    let T = replied e.duration H in
    attribute-refused e H (timed c.args.now (event.Attr c.args.frame c.args.name c.args.value.now)) c.args.name c.args.value.now c.in-Err.refusal c.in-Err.ensures
    (λ bad. c.in_ok-h.ensures.rest H _ s refl ∙ url-attr T c.args.now c.args.frame c.args.name c.args.value.now (sym (bad-value c.args.frame c.args.name c.args.value.now) ∙ bad))

pub returns : goal.returns
returns g c = λ H s.
    let e = c.args.self.now in
    let T = replied e.duration H in
    let h = c.in_ok-h.h in
    let N = c.give.new.frames in
    let n = noted e c.note.new.self _ _ _ N c.self.view_is c.in_ok-note.ensures.ok in
    let (y, found) = some-of (entry_of e.frames.entries h) c.in_ok-h.ensures.found in
    let clause = subst (λ (v : Forest Row). IfSome (entry_of v.entries h) (λ z. N ≡ with_doc v h (record z.doc { attributes = with_attribute c.in-Ok.attribute z.doc.attributes }))) (ap (λ (v : EngineValue). v.frames) c.self.view_is) c.give.ensures in
    let written : N ≡ with_doc e.frames h (record y.doc { attributes = with_attribute c.in-Ok.attribute y.doc.attributes }) = subst (λ o. IfSome o (λ z. N ≡ with_doc e.frames h (record z.doc { attributes = with_attribute c.in-Ok.attribute z.doc.attributes }))) found clause in
    let given : N ≡ with_doc e.frames h (record y.doc { attributes = with_attribute (attribute_given c.args.name c.args.value.now) y.doc.attributes }) = written ∙ ap (λ (a : Attribute). with_doc e.frames h (record y.doc { attributes = with_attribute a y.doc.attributes })) c.in-Ok.ensures.1 in
    accept c.engine_laws.ensures e c.note.new.self H (timed c.args.now (event.Attr c.args.frame c.args.name c.args.value.now)) answer.Done made.Nothing refl s
    n.rest (c.in_ok-h.ensures.rest H _ s refl ∙ other-attr T c.args.now c.args.frame c.args.name c.args.value.now (sym (bad-value c.args.frame c.args.name c.args.value.now) ∙ c.in-Ok.ensures.0))
    (sym (done-attr e.duration T c.args.now c.args.frame c.args.name c.args.value.now))
    (λ item is. rw (n.rest.noted.made, n.frames_are) (kept-attr c.engine_laws.ensures.history c.args.now c.args.frame c.args.name c.args.value.now item T e.made e.frames N h y c.in_ok-h.ensures.handle found
    (ap (λ (f : Forest Row). f.entries) given) (ap (λ (f : Forest Row). f.marks) given) s.steps.tree))
