use Rattle.std.proofs.Common.{None}
use Rattle.pe_store.proofs.NumberChanges.{changed-at}
use Rattle.pe_store.proofs.numbers.remove_at.Goals as goal

pub returns : goal.returns
returns c = changed-at c.args.groups.now c.args.place c.index-groups-place.result c.remove.new.self c.args.key.now None c.requires c.remove.ensures
