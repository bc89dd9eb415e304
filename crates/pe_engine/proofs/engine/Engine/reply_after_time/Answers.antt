use Rattle.std.proofs.Common.{sym, ◌∙◌, subst}
use Rattle.pe_rules.specs.Replies.{replied}
use Rattle.pe_engine.specs.Costs.{IsWithin}
use Rattle.pe_engine.specs.Replying.{timed}
use Rattle.pe_engine.proofs.Answering.{replied-memory, replied-refusal}
use Rattle.pe_engine.proofs.Passed.{BringsChanges, LeavesStore}
use Rattle.pe_engine.proofs.NoChanges.{accepted-late, still}
use Rattle.pe_engine.proofs.engine.Engine.reply_after_time.Goals as goal

pub returns-in-Err-clause-replied : goal.returns-in-Err-clause-replied
returns-in-Err-clause-replied g c = λ H s. replied-refusal _ _ H _ c.in-Err.refusal (c.in-Err.ensures.answered H s)

pub returns-in_err-before-clause-replied : goal.returns-in_err-before-clause-replied
returns-in_err-before-clause-replied g c = λ H s. replied-memory _ _ H _ c.from_residual.result c.from_residual.ensures.1

pub returns-clause-replied : goal.returns-clause-replied
returns-clause-replied g c = λ H s.
    accepted-late c.engine_laws.ensures c.args.self.now c.answer.new.self c.lapse.new.self H (timed c.args.stamped.now.time c.args.stamped.now.event) c.in-Ok.answer c.in_ok-before.before c.new.result s (c.in-Ok.ensures.answered H s)
    c.in_ok-before.ensures.rest
    (subst (λ t. BringsChanges c.answer.new.self t c.in_ok-before.before) c.of.ensures c.in_ok-before.ensures.changes)
    (subst (λ t. LeavesStore c.answer.new.self t c.lapse.new.self.store) c.of.ensures c.in_ok-before.ensures.stands)
    c.new.ensures.items

pub returns-in_err-before-clause-cost : goal.returns-in_err-before-clause-cost
returns-in_err-before-clause-cost g c = λ H s at.
    let e = c.args.self.now in
    let x = c.args.stamped.now in
    let idle = c.in_err-before.ensures.idle (replied e.duration H) (still e c.answer.new.self H (timed x.time x.event) c.in-Ok.answer c.of.result s (c.in-Ok.ensures.answered H s) (c.of.ensures ∙ at)) in
    subst (λ n. IsWithin e.duration (replied e.duration H) x.time x.event c.args.steps.now n) (sym idle) (c.in-Ok.ensures.cost H s)

pub returns-clause-cost : goal.returns-clause-cost
returns-clause-cost g c = λ H s at.
    let e = c.args.self.now in
    let x = c.args.stamped.now in
    let idle = c.in_ok-before.ensures.idle (replied e.duration H) (still e c.answer.new.self H (timed x.time x.event) c.in-Ok.answer c.of.result s (c.in-Ok.ensures.answered H s) (c.of.ensures ∙ at)) in
    subst (λ n. IsWithin e.duration (replied e.duration H) x.time x.event c.args.steps.now n) (sym idle) (c.in-Ok.ensures.cost H s)
