use Rattle.pe_engine.proofs.Starting.{starts}
use Rattle.pe_engine.proofs.engine.Engine.new.Goals as goal

pub returns-clause-stands : goal.returns-clause-stands
returns-clause-stands c =
    rw (c.new.ensures.items, c.new-2.ensures, c.of.ensures, c.new-4.ensures, c.new-5.ensures, c.new-6.ensures) (starts c.engine_laws.ensures c.args.duration c.new-3.result c.new-3.ensures.entries c.new-3.ensures.dismissals)
