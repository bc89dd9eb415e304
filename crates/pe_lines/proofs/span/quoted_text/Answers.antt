use Rattle.std.proofs.Common.{sym, ◌∙◌}
use Rattle.pe_lines.proofs.Found.{nothing_undone}
use Rattle.pe_lines.proofs.span.quoted_text.Goals as goal

pub returns : goal.returns
returns c = c.lent.ensures ∙ sym (nothing_undone c.args.bytes.now (sym c.contains.ensures.value ∙ c.if-contains.false))
