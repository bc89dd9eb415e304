use Rattle.std.proofs.Common.{◌<◌, ◌≤◌, option_map, ◌∙◌, ap, arith}
use Rattle.pe_rules.specs.Replies.{replied}
use Rattle.pe_messages.specs.Parts.{cause_of_fault}
use Rattle.pe_engine.proofs.CausesParts.{first-time}
use Rattle.pe_engine.proofs.Delivering.{delivery-cause}
use Rattle.pe_engine.proofs.engine.Engine.awaited.Goals as goal

pub returns-in-Err-clause-cause : goal.returns-in-Err-clause-cause
returns-in-Err-clause-cause c = λ H s. first-time _ _ _ _ (c.in-Err.ensures.cause H s)

pub returns-in_default-number_of-clause-cause : goal.returns-in_default-number_of-clause-cause
returns-in_default-number_of-clause-cause c = λ H s.
    let e = c.args.self.now in
    let m = c.args.message in
    let none : 1 ≤ m → 1000000 < m = c.in_default-number_of.ensures.none in
    delivery-cause c.engine_laws.ensures.messages (replied e.duration H) e.messages c.args.now m s.steps.messages (c.in_default.ensures.none H s)
    ∙ ap (option_map cause_of_fault) (c.engine_laws.ensures.messages.beyond (replied e.duration H) e.messages m s.steps.messages
    (λ low. let high = none low in omega (arith, s.steps.tree.count, c.in_default.ensures.number, c.in_default.ensures.few)))
