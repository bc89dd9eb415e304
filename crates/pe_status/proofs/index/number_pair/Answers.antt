use Rattle.std.proofs.Common.{Some}
use Rattle.pe_status.proofs.Numbering.{changed-to}
use Rattle.pe_status.proofs.index.number_pair.Goals as goal

pub returns-clause-ok : goal.returns-clause-ok
returns-clause-ok c =
    changed-to c.args.row.now.feature c.in_ok-copy.field-0 c.args.row.now.key (Some c.from-group.result) c.args.pairs.now c.put.new.self c.in_ok-put.ensures.ok c.in_ok-copy.ensures
