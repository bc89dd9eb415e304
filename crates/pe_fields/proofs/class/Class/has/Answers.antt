use Rattle.std.proofs.Common.{◌<◌, arith}
use Rattle.pe_fields.proofs.ClassTable.{class_of_table}
use Rattle.pe_fields.proofs.class.Class.has.Goals as goal

pub returns : goal.returns
returns c =
    let within : c.args.byte < 256 = omega (arith, c.ranges.byte.fits) in
    rw (c.bit.ensures, c.from.ensures) (class_of_table c.args.self c.args.byte within)
