use Rattle.pe_engine.proofs.Passed.{passed-ok}
use Rattle.pe_engine.proofs.engine.Engine.pass.Goals as goal

pub returns-clause-passed : goal.returns-clause-passed
returns-clause-passed g c = λ H s late.
    passed-ok c.engine_laws.ensures c.args.self.now c.lapse.new.self H c.args.now c.lapse.result s late c.lapse.ensures.rest c.lapse.ensures.changes c.lapse.ensures.stands
