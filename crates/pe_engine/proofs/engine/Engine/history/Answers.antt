use Rattle.std.proofs.Common.{◌≡◌, [], ◌∷◌, ◌++◌, false, true, refl, sym, ◌∙◌, ap, subst}
use Rattle.std.specs.Prelude.{IfSome}
use Rattle.pe_base.specs.Activation.{is_history_active}
use Rattle.pe_frames.specs.Forest.{Forest, entry_of, top_of}
use Rattle.pe_frames.specs.Walk.{changed_page}
use Rattle.pe_activation.specs.Stamps.{history_consumed}
use Rattle.pe_events.specs.declared.answer.Answer.TheVariants as answer
use Rattle.pe_events.specs.declared.event.Event.TheVariants as event
use Rattle.pe_events.specs.declared.reason.Reason.TheVariants as reason
use Rattle.pe_rules.specs.History.{Replied}
use Rattle.pe_rules.specs.Replies.{answer_of, answer_of_history_action, replied}
use Rattle.pe_engine.specs.declared.engine.Made.TheVariants as made
use Rattle.pe_engine.specs.declared.row.Row.{Row}
use Rattle.pe_engine.specs.StandsFor.{EngineValue}
use Rattle.pe_engine.specs.Replying.{timed}
use Rattle.pe_engine.specs.Tree.{IsTree}
use Rattle.pe_engine.proofs.Accepted.{step_of, noted, noted-silent, accept, accept-silent}
use Rattle.pe_engine.proofs.CommonCauses.{some-of}
use Rattle.pe_engine.proofs.InPlace.{kept-history}
use Rattle.pe_engine.proofs.VerbAnswers.{other-history, history-answer, silent-history}
use Rattle.pe_engine.proofs.engine.Engine.history.Goals as goal

pub returns-then-not-history_active : goal.returns-then-not-history_active
returns-then-not-history_active g c = λ H s.
    let e = c.args.self.now in
    let T = replied e.duration H in
    let x = c.row-row.result.now in
    let shown = c.row-row.ensures.shown H c.args.frame s c.in_ok-h.ensures.handle in
    let active : is_history_active x.stamp x.second ≡ false = sym c.history_active.ensures ∙ c.if-not-history_active.true in
    let says : answer_of e.duration T c.args.now (event.History c.args.frame) ≡ answer.Denied reason.NoHistory = history-answer c.engine_laws.ensures.history e.duration T c.args.now c.args.frame x shown ∙ ap answer_of_history_action active in
    accept-silent c.engine_laws.ensures e c.note.new.self H (timed c.args.now (event.History c.args.frame)) (answer.Denied reason.NoHistory) refl
    (silent-history e.duration T c.args.now c.args.frame says) s (noted-silent e c.note.new.self e _ _ refl c.in_ok-note.ensures.ok)
    (c.in_ok-h.ensures.rest H _ s refl ∙ other-history T c.args.now c.args.frame) (sym says)

pub returns : goal.returns
returns g c = λ H s.
    let e = c.args.self.now in
    let T = replied e.duration H in
    let x = c.row-row.result.now in
    let h = c.in_ok-h.h in
    let N = c.consume_history.new.frames in
    let shown = c.row-row.ensures.shown H c.args.frame s c.in_ok-h.ensures.handle in
    let active : is_history_active x.stamp x.second ≡ true = sym c.history_active.ensures ∙ c.if-not-history_active.false in
    let says : answer_of e.duration T c.args.now (event.History c.args.frame) ≡ answer.Allowed = history-answer c.engine_laws.ensures.history e.duration T c.args.now c.args.frame x shown ∙ ap answer_of_history_action active in
    let n = noted e c.note-2.new.self _ _ _ N c.self.view_is c.in_ok-note-2.ensures.ok in
    let (y, found) = some-of (entry_of e.frames.entries h) c.in_ok-h.ensures.found in
    let clause = subst (λ (v : Forest Row). IfSome (entry_of v.entries h) (λ z. N.entries ≡ changed_page (history_consumed (λ (r : Row). r.stamp) (λ t (r : Row). record r { second = t })) v.entries (top_of z))) (ap (λ (v : EngineValue). v.frames) c.self.view_is) c.consume_history.ensures.entries in
    let entries = subst (λ o. IfSome o (λ z. N.entries ≡ changed_page (history_consumed (λ (r : Row). r.stamp) (λ t (r : Row). record r { second = t })) e.frames.entries (top_of z))) found clause in
    accept c.engine_laws.ensures e c.note-2.new.self H (timed c.args.now (event.History c.args.frame)) answer.Allowed made.Nothing refl s
    n.rest (c.in_ok-h.ensures.rest H _ s refl ∙ other-history T c.args.now c.args.frame) (sym says)
    (λ item is. rw (n.rest.noted.made, n.frames_are) (subst (λ i. IsTree (step_of (timed c.args.now (event.History c.args.frame)) i ∷ T) (e.made ++ made.Nothing ∷ []) N) (sym (is ∙ ap Replied says))
    (kept-history c.engine_laws.ensures.history c.args.now c.args.frame T e.made e.frames N h y c.in_ok-h.ensures.handle found entries (c.consume_history.ensures.marks ∙ ap (λ (v : EngineValue). v.frames.marks) c.self.view_is) s.steps.tree)))
