-- A call is found exactly by its name.
use Rattle.std.proofs.Common.{rules}
use Rattle.pe_features.specs.Calls.{call_name, all_calls, call_named}
use Rattle.pe_features.proofs.Search.{found_exactly, unknown_exactly}
use Rattle.pe_features.proofs.CallRows.{call_named-name}
use Rattle.pe_features.proofs.call.Call.by_name.Goals as goal

pub returns-clause-table : goal.returns-clause-table
unfolding call_named
returns-clause-table c = search rules

pub returns-clause-found : goal.returns-clause-found
unfolding call_named
returns-clause-found c = found_exactly call_name all_calls call_named-name _ _ (returns-clause-table c)

pub returns-clause-unknown : goal.returns-clause-unknown
unfolding call_named
returns-clause-unknown c = unknown_exactly call_name all_calls call_named-name _ _ (returns-clause-table c)
