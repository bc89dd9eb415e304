use Rattle.std.proofs.Common.{sym}
use Rattle.pe_lines.specs.Grammar.{ends_bare}
use Rattle.pe_lines.proofs.Found.{to_end}
use Rattle.pe_lines.proofs.span.bare_len.Goals as goal

pub returns-in-None-clause-len : goal.returns-in-None-clause-len
returns-in-None-clause-len c = to_end ends_bare c.args.bytes.now (sym c.in-None.ensures)
