use Rattle.std.proofs.Common.{sym, ◌∙◌}
use Rattle.std.proofs.lemmas.Option.{same_Some}
use Rattle.pe_fields.proofs.Whole.{dictionary_complete}
use Rattle.pe_fields.proofs.laws.one_reading.Goals as goal

pub returns : goal.returns
returns c = λ text members others h k. same_Some members others (sym (dictionary_complete text members h) ∙ dictionary_complete text others k)
