use Rattle.std.proofs.Common.{◌≡◌, ◌≤◌, ◌-◌, length, drop, false}
use Rattle.pe_lines.specs.Steps.{IsEscapedFront, begins_plain}
use Rattle.pe_lines.proofs.span.quoted_len.Given as goal

abbrev pub invariant-loop-at : goal.invariant-loop-at
invariant-loop-at l = record {
  within : l.at ≤ length l.bytes;
  front : IsEscapedFront l.bytes l.at;
  stops : begins_plain (drop l.at l.bytes) ≡ false;
}

abbrev pub decreases-loop-at : goal.decreases-loop-at
decreases-loop-at l = length l.bytes - l.at
