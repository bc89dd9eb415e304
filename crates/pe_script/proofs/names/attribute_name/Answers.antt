use Rattle.std.proofs.Common.{option_and_then, ap, ◌∙◌}
use Rattle.pe_script.specs.Names.{attribute_names, named_in}
use Rattle.pe_script.proofs.names.attribute_name.Goals as goal

pub returns : goal.returns
returns c = c.named_in.ensures ∙ ap (option_and_then (named_in attribute_names)) c.in_ok-bare.ensures
