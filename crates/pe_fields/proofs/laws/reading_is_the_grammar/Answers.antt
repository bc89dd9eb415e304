use Rattle.pe_fields.proofs.Sound.{dictionary_sound}
use Rattle.pe_fields.proofs.Whole.{dictionary_complete}
use Rattle.pe_fields.proofs.laws.reading_is_the_grammar.Goals as goal

pub returns : goal.returns
returns c = λ text members. (dictionary_sound text members, dictionary_complete text members)
