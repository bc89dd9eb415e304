use Rattle.std.proofs.Common.{refl}
use Rattle.pe_policy.specs.PolicyValue.{row_of}
use Rattle.pe_policy.proofs.Stands.{stands-top}
use Rattle.pe_policy.proofs.policy.Policy.make_top.Goals as goal

pub returns-clause-rows : goal.returns-clause-rows
unfolding row_of
returns-clause-rows c = c.top_rows-rows.ensures

pub returns-clause-stands : goal.returns-clause-stands
returns-clause-stands c = stands-top _ c.args.doc c.args.origin.now refl (returns-clause-rows c)
