use Rattle.std.proofs.Common.{sym, ◌∙◌}
use Rattle.pe_allowlist.proofs.SeparatorLaws.{found-here, from-next, not-found, tail-whole}
use Rattle.pe_allowlist.proofs.expression.separator.Goals as goal

pub returns-then-starts_with-clause-place : goal.returns-then-starts_with-clause-place
returns-then-starts_with-clause-place c =
    found-here c.args.text.now c.loop-i.i c.loop-i.invariant
    (rw (tail-whole c.args.text.now c.loop-i.i) at (sym c.starts_with.ensures.value ∙ c.if-starts_with.true))

pub loop-i-preserved : goal.loop-i-preserved
loop-i-preserved c =
    from-next c.args.text.now c.loop-i.i c.loop-i-test.true c.loop-i.invariant
    (rw (tail-whole c.args.text.now c.loop-i.i) at (sym c.starts_with.ensures.value ∙ c.if-starts_with.false))

pub returns-clause-place : goal.returns-clause-place
returns-clause-place c = not-found c.args.text.now c.loop-i.i c.loop-i.invariant c.loop-i-test.false
