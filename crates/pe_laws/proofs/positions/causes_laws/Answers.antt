use Rattle.pe_laws.proofs.Causes.{faultless}
use Rattle.pe_laws.proofs.positions.causes_laws.Goals as goal

pub returns : goal.returns
returns c = record { accepted = faultless }
