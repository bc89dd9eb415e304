use Rattle.pe_status.proofs.Placing.{taken-with}
use Rattle.pe_status.proofs.place.take_place.Goals as goal

pub returns-clause-ok : goal.returns-clause-ok
returns-clause-ok c = taken-with c.args.place c.args.taken.now c.insert.new.self c.in_ok-insert.ensures.updates.0
