use Rattle.pe_frames.proofs.Removed.{Removes-one}
use Rattle.pe_frames.proofs.removal.take_one.Goals as goal

pub returns-in-Some-clause-rows : goal.returns-in-Some-clause-rows
returns-in-Some-clause-rows g c = Removes-one c.args.rows.now c.remove.new.self c.args.h c.in-Some.ensures.slots c.in-Some.ensures.updates
