-- A feature is found exactly by its name.
use Rattle.std.proofs.Common.{rules}
use Rattle.pe_features.specs.Features.{feature_name, all_features, feature_named}
use Rattle.pe_features.proofs.Search.{found_exactly, unknown_exactly}
use Rattle.pe_features.proofs.FeatureRows.{feature_named-name}
use Rattle.pe_features.proofs.feature.Feature.by_name.Goals as goal

pub returns-clause-table : goal.returns-clause-table
unfolding feature_named
returns-clause-table c = search rules

pub returns-clause-found : goal.returns-clause-found
unfolding feature_named
returns-clause-found c = found_exactly feature_name all_features feature_named-name _ _ (returns-clause-table c)

pub returns-clause-unknown : goal.returns-clause-unknown
unfolding feature_named
returns-clause-unknown c = unknown_exactly feature_name all_features feature_named-name _ _ (returns-clause-table c)
