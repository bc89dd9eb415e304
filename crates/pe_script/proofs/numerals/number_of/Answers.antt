use Rattle.std.proofs.Common.{◌≤◌, ◌+◌, ◌-◌, ◌*◌, refl, sym, ap, ◌∙◌, arith, get_or}
use Rattle.pe_script.specs.Numerals.{number_of}
use Rattle.pe_script.proofs.Digits.{number-more, digit-at, power-small, power-more}
use Rattle.pe_script.proofs.numerals.number_of.Goals as goal

pub loop-digit-init : goal.loop-digit-init
unfolding number_of
loop-digit-init c = record { value = refl; bound = omega arith }

pub loop-digit-preserved : goal.loop-digit-preserved
loop-digit-preserved c =
    let within = digit-at c.args.digits.now c.loop-digit.digit-index c.requires.digits c.loop-digit-test.true in
    let small : c.from.result ≤ 9 = omega (arith, within.1, c.from.ensures) in
    let more = number-more c.args.digits.now c.loop-digit.digit-index c.loop-digit-test.true in
    record {
      value = sym (more ∙ ap (λ n. 10 * n + (get_or c.args.digits.now c.loop-digit.digit-index 0 - 48)) (sym c.loop-digit.invariant.value) ∙ ap (λ b. 10 * c.loop-digit.number + b) (sym c.from.ensures));
      bound = power-more c.loop-digit.digit-index c.loop-digit.number c.from.result c.loop-digit.invariant.bound small;
    }

pub overflow_mul-number : goal.overflow_mul-number
overflow_mul-number c =
    let few : c.loop-digit.digit-index ≤ 12 = omega (arith, c.loop-digit-test.true, c.requires.few) in
    omega (arith, c.loop-digit.invariant.bound, power-small c.loop-digit.digit-index few)

pub overflow_add-number : goal.overflow_add-number
overflow_add-number c =
    let within = digit-at c.args.digits.now c.loop-digit.digit-index c.requires.digits c.loop-digit-test.true in
    let few : c.loop-digit.digit-index ≤ 12 = omega (arith, c.loop-digit-test.true, c.requires.few) in
    omega (arith, c.loop-digit.invariant.bound, power-small c.loop-digit.digit-index few, within.1, c.from.ensures)
