use Rattle.std.proofs.Common.{Ok, sym, subst}
use Rattle.pe_events.specs.declared.answer.Answer.{Answer}
use Rattle.pe_events.specs.declared.event.Event.TheVariants as event
use Rattle.pe_engine.specs.Replying.{timed, IsReplied}
use Rattle.pe_engine.proofs.Delivering.{deliver-reply}
use Rattle.pe_engine.proofs.engine.Engine.deliver.Goals as goal

pub returns : goal.returns
returns g c = λ H s.
    subst (λ (a : Answer). IsReplied c.args.self.now c.note.new.self H (timed c.args.now (event.Deliver c.args.message)) (Ok (record { before = c.in_ok-before.before; answer = a; after = c.new.result }))) (sym c.answer_by_delivery.ensures)
    (deliver-reply c.engine_laws.ensures c.args.self.now c.pass.new.self c.settle-delivery.new.self c.note.new.self H c.args.now c.args.message c.in_ok-no.no c.settle-delivery.result c.in_ok-before.before c.new.result s
    (c.in_ok-before.ensures.passed H s c.in_ok-no.ensures.late) c.in_ok-before.ensures.rest c.in_ok-no.ensures.number c.settle-delivery.ensures c.in_ok-note.ensures.ok (c.in_ok-no.ensures.none H s) c.new.ensures.items)
