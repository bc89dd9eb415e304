use Rattle.pe_engine.specs.Replying.{timed}
use Rattle.pe_engine.proofs.NoChanges.{reply-accepted}
use Rattle.pe_engine.proofs.engine.Engine.reply.Goals as goal

pub returns-in-Ok-clause-replied : goal.returns-in-Ok-clause-replied
returns-in-Ok-clause-replied g c = λ H s.
    reply-accepted c.args.self.now c.accept.new.self H (timed c.args.stamped.now.time c.args.stamped.now.event) c.in-Ok.replies (c.in-Ok.ensures.replied H s)
