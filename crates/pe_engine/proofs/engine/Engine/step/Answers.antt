use Rattle.std.proofs.Common.{subst}
use Rattle.pe_rules.specs.Replies.{replied}
use Rattle.pe_engine.specs.Costs.{IsWithin}
use Rattle.pe_engine.specs.Replying.{timed}
use Rattle.pe_engine.proofs.Firing.{clause-before, clause-after}
use Rattle.pe_engine.proofs.Isolated.{clause-isolated}
use Rattle.pe_engine.proofs.Promised.{clause-allowed, clause-denied}
use Rattle.pe_engine.proofs.engine.Engine.step.Goals as goal

pub returns-clause-allowed : goal.returns-clause-allowed
returns-clause-allowed g c = λ H frame name s is.
    clause-allowed c.engine_laws.ensures.history c.reply.result c.args.self.now c.reply.new.self H c.args.stamped.now.time c.args.stamped.now.event frame name is (c.reply.ensures.replied H s)

pub returns-clause-denied : goal.returns-clause-denied
returns-clause-denied g c = λ H frame name why s is.
    clause-denied c.engine_laws.ensures.history c.reply.result c.args.self.now c.reply.new.self H c.args.stamped.now.time c.args.stamped.now.event frame name why is (c.reply.ensures.replied H s)

pub returns-clause-before : goal.returns-clause-before
returns-clause-before g c = λ H s.
    clause-before c.reply.result c.args.self.now c.reply.new.self H (timed c.args.stamped.now.time c.args.stamped.now.event) (c.reply.ensures.replied H s)

pub returns-clause-after : goal.returns-clause-after
returns-clause-after g c = λ H s.
    clause-after c.reply.result c.args.self.now c.reply.new.self H (timed c.args.stamped.now.time c.args.stamped.now.event) (c.reply.ensures.replied H s)

pub returns-clause-isolated : goal.returns-clause-isolated
returns-clause-isolated g c = λ H top s own.
    clause-isolated c.isolation_laws.ensures c.reply.result c.args.self.now c.reply.new.self H (timed c.args.stamped.now.time c.args.stamped.now.event) top s own (c.reply.ensures.replied H s)

pub returns-clause-muted : goal.returns-clause-muted
returns-clause-muted g c = λ H top s. c.isolation_laws.ensures.regular c.args.self.now.duration top H s.regular

pub returns-clause-policy_cost : goal.returns-clause-policy_cost
returns-clause-policy_cost g c = λ H frame name s at is. subst (λ x. IsWithin c.args.self.now.duration (replied c.args.self.now.duration H) c.args.stamped.now.time x c.args.steps.now c.reply.new.steps) is (c.reply.ensures.cost H s at)

pub returns-clause-use_cost : goal.returns-clause-use_cost
returns-clause-use_cost g c = λ H frame name s at is. subst (λ x. IsWithin c.args.self.now.duration (replied c.args.self.now.duration H) c.args.stamped.now.time x c.args.steps.now c.reply.new.steps) is (c.reply.ensures.cost H s at)
