use Rattle.std.proofs.Common.{refl}
use Rattle.pe_long_rows.specs.AfterEmbargo.{ticked, asking_again}
use Rattle.pe_rows.proofs.OnLiterals.{output_on_literals}
use Rattle.pe_long_rows.proofs.embargo.embargo_ends.Goals as goal

pub returns : goal.returns
unfolding output_on_literals ticked asking_again
returns c = refl
