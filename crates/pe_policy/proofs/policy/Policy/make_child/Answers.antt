use Rattle.std.proofs.Common.{refl}
use Rattle.pe_policy.specs.PolicyValue.{row_of}
use Rattle.pe_policy.proofs.Stands.{stands-child}
use Rattle.pe_policy.proofs.policy.Policy.make_child.Goals as goal

pub returns-clause-rows : goal.returns-clause-rows
unfolding row_of
returns-clause-rows c = c.child_rows-rows.ensures.rows

pub returns-clause-stands : goal.returns-clause-stands
returns-clause-stands c = stands-child c.args.parent.now _ c.args.doc c.args.parent_origin.now c.args.origin.now c.args.container.now refl (returns-clause-rows c)
