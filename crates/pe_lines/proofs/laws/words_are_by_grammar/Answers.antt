use Rattle.pe_lines.proofs.Agreement.{words_agree}
use Rattle.pe_lines.proofs.laws.words_are_by_grammar.Goals as goal

pub returns : goal.returns
returns c = words_agree
