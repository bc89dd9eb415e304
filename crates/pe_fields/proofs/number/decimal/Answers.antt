use Rattle.std.proofs.Common.{arith}
use Rattle.pe_fields.proofs.Digits.{digits_small}
use Rattle.pe_fields.proofs.number.decimal.Goals as goal

pub overflow_mul-value : goal.overflow_mul-value
overflow_mul-value c = omega (arith, digits_small c.args.whole.now 12 c.requires.whole (omega arith))

pub overflow_add-value : goal.overflow_add-value
overflow_add-value c = omega (arith, digits_small c.args.whole.now 12 c.requires.whole (omega arith))

pub signed-requires : goal.signed-requires
signed-requires c = omega (arith, digits_small c.args.whole.now 12 c.requires.whole (omega arith))
