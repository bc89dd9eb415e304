use Rattle.std.proofs.Common.{sym, ◌∙◌, arith}
use Rattle.pe_lines.proofs.Reading.{blank_passed}
use Rattle.pe_lines.proofs.span.first_not_blank.Goals as goal

pub loop-at-preserved : goal.loop-at-preserved
loop-at-preserved c = record {
  later = omega (arith, c.loop-at.invariant.later);
  within = omega (arith, c.loop-at-test.true);
  same = blank_passed c.args.line.now c.loop-at.at c.loop-at-test.true (sym c.if-not-is_blank.ensures) ∙ c.loop-at.invariant.same;
}
