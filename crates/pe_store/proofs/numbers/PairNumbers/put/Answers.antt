use Rattle.std.proofs.Common.{Some}
use Rattle.std.proofs.lemmas.Result.{on_ok_weaker}
use Rattle.pe_store.proofs.NumberChanges.{changed-for}
use Rattle.pe_store.proofs.numbers.PairNumbers.put.Goals as goal

pub returns-clause-ok : goal.returns-clause-ok
returns-clause-ok c =
    on_ok_weaker c.put_at.result (changed-for c.args.feature c.args.key (Some c.args.number) c.index.result c.self.inside.groups c.put_at.new.groups c.args.self.now c.index.ensures.number c.self.view_is) c.put_at.ensures.ok
