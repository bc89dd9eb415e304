use Rattle.std.proofs.Common.{◌≡◌, ◌≤◌, ◌+◌, ◌^◌, take}
use Rattle.pe_script.specs.Numerals.{number_of}
use Rattle.pe_script.proofs.numerals.number_of.Given as goal

abbrev pub invariant-loop-digit : goal.invariant-loop-digit
invariant-loop-digit l = record {
  value : l.number ≡ number_of (take l.digit-index l.fn.digits);
  bound : l.number + 1 ≤ 10 ^ l.digit-index;
}
