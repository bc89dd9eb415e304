use Rattle.pe_status.proofs.Placing.{value-changed}
use Rattle.std.proofs.Common.{None}
use Rattle.pe_status.specs.Places.{value_at}
use Rattle.pe_status.proofs.place.take_row.Goals as goal

pub returns-clause-rest : goal.returns-clause-rest
returns-clause-rest c = value-changed c.args.place None c.args.rows.now c.remove.new.self c.remove.ensures.updates.0

pub returns-clause-value : goal.returns-clause-value
unfolding value_at
returns-clause-value c = c.remove.ensures.value
