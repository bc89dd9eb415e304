use Rattle.std.proofs.Common.{ℕ, List, option_and_then, option_map, ap, ◌∙◌}
use Rattle.std.specs.Prelude.{map}
use Rattle.pe_script.specs.declared.names.TheConstants.{VERBS}
use Rattle.pe_script.specs.declared.names.Verb.{Verb}
use Rattle.pe_script.specs.Names.{named_in}
use Rattle.pe_script.specs.Verbs.{verbs}
use Rattle.pe_script.specs.Readers.{reader_of}
use Rattle.pe_script.proofs.Tables.{named-map}
use Rattle.pe_script.proofs.names.verb_named.Goals as goal

pub returns : goal.returns
returns c = ap (option_map reader_of) c.named_in.ensures ∙ named-map reader_of (map (λ (row : record { now : List ℕ } × Verb). (row.0.now, row.1)) VERBS) c.in_ok-bare.field-0.now ∙ ap (option_and_then (named_in verbs)) c.in_ok-bare.ensures
