use Rattle.std.proofs.Common.{◌≡◌, ◌≤◌, ◌-◌, length, drop}
use Rattle.pe_lines.specs.Words.{words_from}
use Rattle.pe_lines.proofs.span.first_not_blank.Given as goal

abbrev pub invariant-loop-at : goal.invariant-loop-at
invariant-loop-at l = record {
  later : l.fn.from ≤ l.at;
  within : l.at ≤ length l.line;
  same : words_from l.at (drop l.at l.line) ≡ words_from l.fn.from (drop l.fn.from l.line);
}

abbrev pub decreases-loop-at : goal.decreases-loop-at
decreases-loop-at l = length l.line - l.at
