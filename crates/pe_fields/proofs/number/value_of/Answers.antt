use Rattle.std.proofs.Common.{arith}
use Rattle.pe_fields.proofs.Digits.{front_small, one_more}
use Rattle.pe_fields.proofs.number.value_of.Goals as goal

pub overflow_mul-value : goal.overflow_mul-value
overflow_mul-value c = omega (arith, front_small c.args.digits.now c.loop-b.b-index c.requires.digits c.loop-b-test.true c.requires.few)

pub overflow_add-value : goal.overflow_add-value
overflow_add-value c = omega (arith, front_small c.args.digits.now c.loop-b.b-index c.requires.digits c.loop-b-test.true c.requires.few)

pub loop-b-preserved : goal.loop-b-preserved
loop-b-preserved c = omega (arith, one_more c.args.digits.now c.loop-b.b-index c.requires.digits c.loop-b-test.true)
