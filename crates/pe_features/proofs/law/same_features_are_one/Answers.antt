use Rattle.pe_features.proofs.SameFeature.{same-feature-decides}
use Rattle.pe_features.proofs.law.same_features_are_one.Goals as goal

pub returns : goal.returns
returns c = same-feature-decides
