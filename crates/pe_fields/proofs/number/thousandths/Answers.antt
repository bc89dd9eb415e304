use Rattle.std.proofs.Common.{arith}
use Rattle.pe_fields.proofs.Digits.{digits_small}
use Rattle.pe_fields.proofs.number.thousandths.Goals as goal

pub overflow_mul-result : goal.overflow_mul-result
overflow_mul-result c = omega (arith, digits_small c.args.digits.now 1 c.requires.digits (omega arith))

pub overflow_mul-result-in-2 : goal.overflow_mul-result-in-2
overflow_mul-result-in-2 c = omega (arith, digits_small c.args.digits.now 2 c.requires.digits (omega arith))

pub returns-in-1-clause-bound : goal.returns-in-1-clause-bound
returns-in-1-clause-bound c = omega (arith, digits_small c.args.digits.now 1 c.requires.digits (omega arith))

pub returns-in-2-clause-bound : goal.returns-in-2-clause-bound
returns-in-2-clause-bound c = omega (arith, digits_small c.args.digits.now 2 c.requires.digits (omega arith))

pub returns-in_default-clause-bound : goal.returns-in_default-clause-bound
returns-in_default-clause-bound c = omega (arith, digits_small c.args.digits.now 3 c.requires.digits c.requires.few)
