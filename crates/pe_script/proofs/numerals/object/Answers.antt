use Rattle.std.proofs.Common.{sym, arith}
use Rattle.pe_script.proofs.Digits.{positive-range}
use Rattle.pe_script.proofs.numerals.object.Goals as goal

pub overflow_cast-result : goal.overflow_cast-result
overflow_cast-result c =
    let range = positive-range 7 _ c.in_ok-positive-in-len1-up.field-0 (sym c.in_ok-positive-in-len1-up.ensures) in
    omega (arith, range.1)
