use Rattle.std.proofs.Common.{ap, ◌∙◌, option_map}
use Rattle.pe_script.proofs.Tables.{value, value_of_row}
use Rattle.pe_script.proofs.names.named_in.Goals as goal

pub returns-in-Some : goal.returns-in-Some
returns-in-Some g c = ap (option_map value) c.in-Some.ensures ∙ value_of_row c.args.table.now c.args.name.now

pub returns-in-None : goal.returns-in-None
returns-in-None g c = ap (option_map value) c.in-None.ensures ∙ value_of_row c.args.table.now c.args.name.now
