use Rattle.std.proofs.Common.{None}
use Rattle.pe_store.proofs.NumberChanges.{changed-for}
use Rattle.pe_store.proofs.numbers.PairNumbers.remove.Goals as goal

pub returns : goal.returns
returns c =
    changed-for c.args.feature c.args.key.now None c.index.result c.self.inside.groups c.remove_at.new.groups c.args.self.now c.index.ensures.number c.self.view_is c.remove_at.ensures
