use Rattle.pe_status.proofs.Placing.{value-changed, value-unchanged}
use Rattle.std.proofs.Common.{Some}
use Rattle.pe_status.proofs.place.put_row.Goals as goal

pub returns-in-Ok-clause-ok : goal.returns-in-Ok-clause-ok
returns-in-Ok-clause-ok c = value-changed c.args.place (Some c.args.row) c.args.rows.now c.insert.new.self c.in-Ok.ensures.updates.0

pub returns-in-Err-clause-err : goal.returns-in-Err-clause-err
returns-in-Err-clause-err c = value-unchanged c.args.rows.now c.insert.new.self c.in-Err.ensures.err
