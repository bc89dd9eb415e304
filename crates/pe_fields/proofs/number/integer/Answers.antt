use Rattle.std.proofs.Common.{arith}
use Rattle.pe_fields.proofs.Digits.{digits_small}
use Rattle.pe_fields.proofs.number.integer.Goals as goal

pub signed-requires : goal.signed-requires
signed-requires c = omega (arith, digits_small c.args.digits.now 15 c.requires (omega arith))
