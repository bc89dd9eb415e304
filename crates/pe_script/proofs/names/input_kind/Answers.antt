use Rattle.std.proofs.Common.{option_and_then, ap, ◌∙◌}
use Rattle.pe_script.specs.Names.{input_kinds, named_in}
use Rattle.pe_script.proofs.names.input_kind.Goals as goal

pub returns : goal.returns
returns c = c.named_in.ensures ∙ ap (option_and_then (named_in input_kinds)) c.in_ok-bare.ensures
