use Rattle.std.proofs.Common.{◌≡◌, ◌++◌, map, flat_map, option_to_list}
use Rattle.std.specs.Map.{values_of}
use Rattle.pe_store.specs.declared.place.Ending.{Ending}
use Rattle.pe_store.specs.Entries.{pair_of}
use Rattle.pe_store.specs.Pages.{pairs_of_page}
use Rattle.pe_store.specs.Places.{row_at}
use Rattle.pe_store.proofs.rows.Rows.pairs_of_page.Given as goal

abbrev pub invariant-loop-ending : goal.invariant-loop-ending
invariant-loop-ending l =
    l.pairs.items ++ flat_map (λ (x : Ending). map pair_of (option_to_list (row_at l.self x.place))) l.ending-iterator ≡ pairs_of_page l.fn.doc (values_of l.self)
