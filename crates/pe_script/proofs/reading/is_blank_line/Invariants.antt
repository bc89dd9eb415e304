use Rattle.std.proofs.Common.{◌≡◌, take}
use Rattle.std.specs.List.{list_all}
use Rattle.pe_lines.specs.Words.{is_blank}
use Rattle.pe_script.proofs.reading.is_blank_line.Given as goal

abbrev pub invariant-loop-byte : goal.invariant-loop-byte
invariant-loop-byte l = l.is_all ≡ list_all is_blank (take l.byte-index l.line)
