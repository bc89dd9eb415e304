use Rattle.pe_store.specs.Places.{has_ending}
use Rattle.pe_store.proofs.Endings.{drops-one}
use Rattle.pe_store.proofs.place.drop_one.Goals as goal

pub returns : goal.returns
unfolding has_ending
returns c = drops-one c.args.by c.args.place c.args.endings.now.keys c.remove.new.self.keys (λ x. c.remove.ensures.updates.0 x)
