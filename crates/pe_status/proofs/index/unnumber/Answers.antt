use Rattle.std.proofs.Common.{None, refl}
use Rattle.pe_status.proofs.Numbering.{changed-to}
use Rattle.pe_status.proofs.index.unnumber.Goals as goal

pub returns-then-not-had-clause-freed : goal.returns-then-not-had-clause-freed
returns-then-not-had-clause-freed c had =
    changed-to c.args.row.now.feature c.args.row.now.key c.args.row.now.key None c.args.pairs.now c.remove.new.self c.remove.ensures refl
