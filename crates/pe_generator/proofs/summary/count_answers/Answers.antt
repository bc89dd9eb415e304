use Rattle.std.proofs.Common.{arith}
use Rattle.pe_generator.specs.Summary.{is_refusal, is_allowed, is_denial, is_change}
use Rattle.pe_generator.proofs.Parts.{count-more, at-most-one}
use Rattle.pe_generator.proofs.summary.count_answers.Goals as goal

pub loop-more-preserved : goal.loop-more-preserved
loop-more-preserved c =
    let parts = rw c.in-Some.is at c.first_part.ensures.parts in
    let shorter = rw c.in-Some.is at c.first_part.ensures.shorter in
    let rest = c.loop-more.rest.now in
    let more = c.in-Some.more.now in
    let line = c.first_part.result.0.now in
    record {
      refused = omega (arith, c.loop-more.invariant.refused, c.add.ensures.refused, count-more is_refusal rest more line parts);
      allowed = omega (arith, c.loop-more.invariant.allowed, c.add.ensures.allowed, count-more is_allowed rest more line parts);
      denied = omega (arith, c.loop-more.invariant.denied, c.add.ensures.denied, count-more is_denial rest more line parts);
      changes = omega (arith, c.loop-more.invariant.changes, c.add.ensures.changes, count-more is_change rest more line parts);
      few_refused = omega (arith, shorter, c.loop-more.invariant.few_refused, c.add.ensures.refused, at-most-one (is_refusal line));
      few_allowed = omega (arith, shorter, c.loop-more.invariant.few_allowed, c.add.ensures.allowed, at-most-one (is_allowed line));
      few_denied = omega (arith, shorter, c.loop-more.invariant.few_denied, c.add.ensures.denied, at-most-one (is_denial line));
      few_changes = omega (arith, shorter, c.loop-more.invariant.few_changes, c.add.ensures.changes, at-most-one (is_change line));
    }
