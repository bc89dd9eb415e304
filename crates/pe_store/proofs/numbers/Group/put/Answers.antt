use Rattle.std.proofs.Common.{Some}
use Rattle.pe_store.proofs.NumberChanges.{changed-in}
use Rattle.pe_store.proofs.numbers.Group.put.Goals as goal

pub returns-clause-ok : goal.returns-clause-ok
returns-clause-ok c =
    changed-in c.same_pairs_are_one.ensures c.args.key (Some c.args.number) c.self.inside.map.entries c.insert.new.self.entries c.args.self.now c.self.view_is c.in_ok-insert.ensures.updates.0
