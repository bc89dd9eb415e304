use Rattle.std.proofs.Common.{sym, ap, ◌∙◌}
use Rattle.std.specs.Result.{is_ok}
use Rattle.pe_delegation.proofs.Numbers.{searched-given}
use Rattle.pe_delegation.proofs.given.place_of.Goals as goal

pub returns-in-Err : goal.returns-in-Err
returns-in-Err c = sym (searched-given c.args.given.now c.args.no c.binary_search.result c.binary_search.ensures.position c.requires) ∙ ap is_ok c.in-Err.is
