use Rattle.std.proofs.Common.{◌≡◌, take}
use Rattle.std.specs.List.{fold}
use Rattle.pe_origin.specs.declared.origin.Origin.{Origin}
use Rattle.pe_allowlist.specs.DeclaredLists.{allowlist_of}
use Rattle.pe_header.specs.DeclaredPolicy.{with_item}
use Rattle.pe_header.proofs.reading.put_items.Given as goal

abbrev pub invariant-loop-item : goal.invariant-loop-item
invariant-loop-item l = (own : Origin) → allowlist_of own l.list ≡ fold (with_item own) (allowlist_of own l.initial.list) (take l.item-index l.items)
