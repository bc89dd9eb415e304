use Rattle.pe_status.proofs.Placing.{taken-without}
use Rattle.pe_status.proofs.place.free_place.Goals as goal

pub returns : goal.returns
returns c = taken-without c.args.place c.args.taken.now c.remove.new.self c.remove.ensures.updates.0
