use Rattle.std.proofs.Common.{◌≡◌, drop}
use Rattle.pe_lines.specs.Words.{is_comment}
use Rattle.pe_script.proofs.reading.is_comment.Given as goal

abbrev pub invariant-loop-byte : goal.invariant-loop-byte
invariant-loop-byte l = is_comment l.fn.line ≡ is_comment (drop l.byte-index l.fn.line)
