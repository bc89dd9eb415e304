use Rattle.std.proofs.Common.{sym, ◌∙◌}
use Rattle.pe_script.proofs.LineReadings.{comment-end, comment-more, comment-here}
use Rattle.pe_script.proofs.reading.is_comment.Goals as goal

pub returns-then-not-is_blank : goal.returns-then-not-is_blank
returns-then-not-is_blank c = sym (c.loop-byte.invariant ∙ comment-here c.args.line.now c.loop-byte.byte-index c.loop-byte-test.true (sym c.if-not-is_blank.ensures))

pub loop-byte-preserved : goal.loop-byte-preserved
loop-byte-preserved c = c.loop-byte.invariant ∙ comment-more c.args.line.now c.loop-byte.byte-index c.loop-byte-test.true (sym c.if-not-is_blank.ensures)

pub returns : goal.returns
returns c = sym (c.loop-byte.invariant ∙ comment-end c.args.line.now c.loop-byte.byte-index c.loop-byte-test.false)
