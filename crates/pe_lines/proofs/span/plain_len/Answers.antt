use Rattle.std.proofs.Common.{sym}
use Rattle.pe_lines.specs.Grammar.{is_escaped}
use Rattle.pe_lines.proofs.Found.{to_end}
use Rattle.pe_lines.proofs.span.plain_len.Goals as goal

pub returns-in-None-clause-len : goal.returns-in-None-clause-len
returns-in-None-clause-len c = to_end is_escaped c.args.bytes.now (sym c.in-None.ensures)
