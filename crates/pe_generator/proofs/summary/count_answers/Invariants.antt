use Rattle.std.proofs.Common.{◌≡◌, ◌+◌, ◌≤◌, length}
use Rattle.pe_generator.specs.Summary.{count_lines, is_refusal, is_allowed, is_denial, is_change}
use Rattle.pe_generator.proofs.summary.count_answers.Given as goal

-- what is counted, and what is still to be counted, are the whole; a line was counted for a byte that is gone
abbrev pub invariant-loop-more : goal.invariant-loop-more
invariant-loop-more l = record {
  refused : l.counts.refused + count_lines is_refusal l.rest ≡ count_lines is_refusal l.text;
  allowed : l.counts.allowed + count_lines is_allowed l.rest ≡ count_lines is_allowed l.text;
  denied : l.counts.denied + count_lines is_denial l.rest ≡ count_lines is_denial l.text;
  changes : l.counts.changes + count_lines is_change l.rest ≡ count_lines is_change l.text;
  few_refused : l.counts.refused + length l.rest ≤ length l.text;
  few_allowed : l.counts.allowed + length l.rest ≤ length l.text;
  few_denied : l.counts.denied + length l.rest ≤ length l.text;
  few_changes : l.counts.changes + length l.rest ≤ length l.text;
}

abbrev pub decreases-loop-more : goal.decreases-loop-more
decreases-loop-more l = length l.rest
