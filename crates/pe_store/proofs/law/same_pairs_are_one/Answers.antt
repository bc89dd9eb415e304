use Rattle.pe_store.proofs.SamePair.{same-pair-decides}
use Rattle.pe_store.proofs.law.same_pairs_are_one.Goals as goal

pub returns : goal.returns
returns c = same-pair-decides c.same_features_are_one.ensures c.same_origins_are_one.ensures
