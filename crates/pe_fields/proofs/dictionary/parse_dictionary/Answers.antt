use Rattle.std.proofs.Common.{sym, ◌∙◌}
use Rattle.std.proofs.lemmas.Option.{none-some}
use Rattle.pe_fields.proofs.Sound.{dictionary_sound}
use Rattle.pe_fields.proofs.Whole.{dictionary_complete}
use Rattle.pe_fields.proofs.dictionary.parse_dictionary.Goals as goal

pub returns-in-Ok-clause-found : goal.returns-in-Ok-clause-found
returns-in-Ok-clause-found c = dictionary_sound c.args.bytes.now c.in-Ok.members.items c.in-Ok.ensures

pub returns-in-Err-Malformed-clause-none : goal.returns-in-Err-Malformed-clause-none
returns-in-Err-Malformed-clause-none c = λ members h.
    none-some members (sym (rw c.in-Err-Malformed.field-0-is at c.in-Err-Malformed.ensures) ∙ dictionary_complete c.args.bytes.now members h)
