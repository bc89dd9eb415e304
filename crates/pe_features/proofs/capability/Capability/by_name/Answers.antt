-- A capability is found exactly by its name.
use Rattle.std.proofs.Common.{rules}
use Rattle.pe_features.specs.Capabilities.{capability_name, all_capabilities, capability_named}
use Rattle.pe_features.proofs.Search.{found_exactly, unknown_exactly}
use Rattle.pe_features.proofs.CapabilityRows.{capability_named-name}
use Rattle.pe_features.proofs.capability.Capability.by_name.Goals as goal

pub returns-clause-table : goal.returns-clause-table
unfolding capability_named
returns-clause-table c = search rules

pub returns-clause-found : goal.returns-clause-found
unfolding capability_named
returns-clause-found c = found_exactly capability_name all_capabilities capability_named-name _ _ (returns-clause-table c)

pub returns-clause-unknown : goal.returns-clause-unknown
unfolding capability_named
returns-clause-unknown c = unknown_exactly capability_name all_capabilities capability_named-name _ _ (returns-clause-table c)
