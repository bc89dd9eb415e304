use Rattle.std.proofs.Common.{◌≡◌, take}
use Rattle.std.specs.List.{list_any}
use Rattle.pe_lines.specs.Words.{is_bad_byte}
use Rattle.pe_lines.proofs.span.has_bad_byte.Given as goal

abbrev pub invariant-loop-byte : goal.invariant-loop-byte
invariant-loop-byte l = l.is_bad ≡ list_any is_bad_byte (take l.byte-index l.line)
