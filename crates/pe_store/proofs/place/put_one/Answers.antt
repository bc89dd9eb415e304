use Rattle.pe_store.specs.Places.{has_ending}
use Rattle.pe_store.proofs.Endings.{puts-one}
use Rattle.pe_store.proofs.place.put_one.Goals as goal

pub returns-clause-ok : goal.returns-clause-ok
unfolding has_ending
returns-clause-ok c = puts-one c.args.by c.args.place c.args.endings.now.keys c.insert.new.self.keys (λ x. c.in_ok-insert.ensures.updates.0 x)
