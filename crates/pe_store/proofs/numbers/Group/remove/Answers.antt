use Rattle.std.proofs.Common.{None}
use Rattle.pe_store.proofs.NumberChanges.{none-changed, changed-in}
use Rattle.pe_store.proofs.numbers.Group.remove.Goals as goal

pub returns-then-is_empty : goal.returns-then-is_empty
returns-then-is_empty c = none-changed c.self.inside.map.entries c.args.self.now c.args.key.now c.self.view_is (c.is_empty.ensures.0 c.if-is_empty.true)

pub returns : goal.returns
returns c =
    changed-in c.same_pairs_are_one.ensures c.args.key.now None c.self.inside.map.entries c.swap_remove.new.self.entries c.args.self.now c.self.view_is c.swap_remove.ensures.updates.0
