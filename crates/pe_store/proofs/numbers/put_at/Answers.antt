use Rattle.std.proofs.Common.{Some}
use Rattle.std.proofs.lemmas.Result.{on_ok_weaker}
use Rattle.pe_store.proofs.NumberChanges.{changed-at}
use Rattle.pe_store.proofs.numbers.put_at.Goals as goal

pub returns-clause-ok : goal.returns-clause-ok
returns-clause-ok c =
    on_ok_weaker c.put.result (changed-at c.args.groups.now c.args.place c.index-groups-place.result c.put.new.self c.args.key (Some c.args.number) c.requires) c.put.ensures.ok
