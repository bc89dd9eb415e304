use Rattle.std.proofs.Common.{◌≡◌, ◌≤◌, [], ◌∷◌, ◌++◌, length, Some, refl, sym, ◌∙◌, ap, subst}
use Rattle.pe_frames.specs.Forest.{Forest, entry_of}
use Rattle.pe_features.specs.declared.call.Gate.{Gate}
use Rattle.pe_features.specs.Calls.{call_named, gate_of}
use Rattle.pe_events.specs.declared.event.Event.TheVariants as event
use Rattle.pe_rules.specs.History.{Judged}
use Rattle.pe_rules.specs.Replies.{answer_of_verdict, replied}
use Rattle.pe_engine.specs.declared.engine.Made.TheVariants as made
use Rattle.pe_engine.specs.declared.row.Row.{Row}
use Rattle.pe_engine.specs.StandsFor.{EngineValue}
use Rattle.pe_engine.specs.Replying.{timed}
use Rattle.pe_engine.specs.Tree.{IsTree}
use Rattle.pe_engine.specs.Using.{HasTaken}
use Rattle.pe_engine.proofs.Accepted.{step_of, noted, accept}
use Rattle.pe_engine.proofs.CommonCauses.{some-of}
use Rattle.pe_engine.proofs.Uses.{use-cost, call-use, other-use, use-answer, use-told, shown-entry, delegated-capability, made-taken, kept-use}
use Rattle.pe_engine.proofs.engine.Engine.use_call.Goals as goal

pub returns-in_default-clause-answered : goal.returns-in_default-clause-answered
returns-in_default-clause-answered g c = λ H s. record {
  first = c.in_ok-h.ensures.rest H _ s refl ∙ call-use (replied c.args.self.now.duration H) c.args.now c.args.frame c.args.name.now (sym c.by_name.ensures.table ∙ c.in_default.is);
  kept = refl;
}

pub invariant_of-self : goal.invariant_of-self
invariant_of-self g c =
    let h = c.in_ok-h.h in
    let (x, here) = some-of (entry_of c.args.self.now.frames.entries h) c.in_ok-h.ensures.found in
    let inside = ap (λ (v : EngineValue). entry_of v.frames.entries h) c.self.view_is ∙ here in
    let same = made-taken c.gate_of.result c.judge-verdict.result h x c.self.inside.frames c.take.new.frames inside c.take.ensures.taken in
    (c.self.invariant.0, subst (λ n. n ≤ length c.self.inside.made.items) (sym same) c.self.invariant.1, c.self.invariant.2, c.self.invariant.3, c.self.invariant.4)

pub returns-clause-answered : goal.returns-clause-answered
returns-clause-answered g c = λ H s.
    let e = c.args.self.now in
    let T = replied e.duration H in
    let h = c.in_ok-h.h in
    let call = c.in-Some.call in
    let name = c.args.name.now in
    let said = c.judge-verdict.result in
    let N = c.take.new.frames in
    let (x, here) = some-of (entry_of e.frames.entries h) c.in_ok-h.ensures.found in
    let shown = shown-entry e H c.args.frame h x s c.in_ok-h.ensures.handle here in
    let named : call_named name ≡ Some call = sym c.by_name.ensures.table ∙ c.in-Some.is in
    let judged = c.judge-verdict.ensures.verdict H c.args.frame x.doc.doc s c.in_ok-h.ensures.late c.in_ok-h.ensures.handle shown in
    let by_gate = subst (λ (y : Gate). HasTaken y said h c.self.inside.frames N) c.gate_of.ensures.row c.take.ensures.taken in
    let taken = subst (λ (v : Forest Row). HasTaken (gate_of call) said h v N) (ap (λ (v : EngineValue). v.frames) c.self.view_is) by_gate in
    let n = noted e c.note.new.self _ _ _ N c.self.view_is c.in_ok-note.ensures.ok in
    let told = use-told e.duration T c.args.now c.args.frame x.doc.doc name call shown named in
    accept c.engine_laws.ensures e c.note.new.self H (timed c.args.now (event.UseCall c.args.frame name)) c.answer_of_verdict.result made.Nothing refl s
    n.rest (c.in_ok-h.ensures.rest H _ s refl ∙ other-use T c.args.now c.args.frame name call named)
    (c.answer_of_verdict.ensures ∙ ap answer_of_verdict judged ∙ sym (use-answer e.duration T c.args.now c.args.frame x.doc.doc name call shown named))
    (λ item is. rw (n.rest.noted.made, n.frames_are) (subst (λ i. IsTree (step_of (timed c.args.now (event.UseCall c.args.frame name)) i ∷ T) (e.made ++ made.Nothing ∷ []) N) (sym (is ∙ told ∙ ap Judged (sym judged)))
    (kept-use c.engine_laws.ensures.history c.args.now c.args.frame name call said T e.made e.frames N h x named c.in_ok-h.ensures.handle here
    (λ delegated. delegated-capability e.duration T c.args.now x.doc.doc call (sym judged ∙ delegated)) taken s.steps.tree)))

pub returns-clause-cost : goal.returns-clause-cost
returns-clause-cost g c = λ H s.
    let e = c.args.self.now in
    let h = c.in_ok-h.h in
    let call = c.in-Some.call in
    let (x, here) = some-of (entry_of e.frames.entries h) c.in_ok-h.ensures.found in
    let shown = shown-entry e H c.args.frame h x s c.in_ok-h.ensures.handle here in
    use-cost e _ H c.args.now c.args.frame x.doc.doc c.args.name.now call h x c.judge-verdict.result c.gate_of.result _ _ _ s c.in_ok-h.ensures.handle here shown (sym c.by_name.ensures.table ∙ c.in-Some.is)
    (c.judge-verdict.ensures.verdict H c.args.frame x.doc.doc s c.in_ok-h.ensures.late c.in_ok-h.ensures.handle shown) c.self.view_is c.gate_of.ensures.row c.judge-verdict.ensures.cost c.take.ensures.cost

pub returns-in_err-note-clause-cost : goal.returns-in_err-note-clause-cost
returns-in_err-note-clause-cost g c = λ H s.
    let e = c.args.self.now in
    let h = c.in_ok-h.h in
    let call = c.in-Some.call in
    let (x, here) = some-of (entry_of e.frames.entries h) c.in_ok-h.ensures.found in
    let shown = shown-entry e H c.args.frame h x s c.in_ok-h.ensures.handle here in
    use-cost e _ H c.args.now c.args.frame x.doc.doc c.args.name.now call h x c.judge-verdict.result c.gate_of.result _ _ _ s c.in_ok-h.ensures.handle here shown (sym c.by_name.ensures.table ∙ c.in-Some.is)
    (c.judge-verdict.ensures.verdict H c.args.frame x.doc.doc s c.in_ok-h.ensures.late c.in_ok-h.ensures.handle shown) c.self.view_is c.gate_of.ensures.row c.judge-verdict.ensures.cost c.take.ensures.cost
