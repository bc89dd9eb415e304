use Rattle.std.proofs.Common.{None, refl}
use Rattle.pe_status.proofs.Numbering.{changed-to, freed}
use Rattle.pe_status.proofs.index.free_pair.Goals as goal

pub returns-then-is_unused : goal.returns-then-is_unused
returns-then-is_unused c =
    freed c.args.row.now c.args.group c.args.rows.now c.args.pairs.now c.remove.new.self (c.is_unused.ensures c.if-is_unused.true)
    (changed-to c.args.row.now.feature c.args.row.now.key c.args.row.now.key None c.args.pairs.now c.remove.new.self c.remove.ensures refl)
