use Rattle.std.proofs.Common.{◌∙◌}
use Rattle.pe_store.proofs.NumberChanges.{number-at}
use Rattle.pe_store.proofs.numbers.number_at.Goals as goal

pub returns : goal.returns
returns c = c.number.ensures ∙ number-at c.args.groups.now c.args.place c.index-groups-place.result c.args.key.now c.requires c.index-groups-place.is
