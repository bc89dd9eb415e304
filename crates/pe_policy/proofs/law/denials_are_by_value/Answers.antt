use Rattle.pe_policy.proofs.Values.{denial-value}
use Rattle.pe_policy.proofs.law.denials_are_by_value.Goals as goal

pub returns : goal.returns
returns c = denial-value
