use Rattle.std.proofs.Common.{◌≡◌, length}
use Rattle.pe_fields.specs.Reading.{next_item_at, items_from}
use Rattle.pe_fields.proofs.Loops.{with_front, all}
use Rattle.pe_fields.proofs.reading.items_from.Given as goal

abbrev pub invariant-items : goal.invariant-items
invariant-items l = with_front l.items.items (all next_item_at l.rest) ≡ items_from (l.fn.first, l.fn.bytes)

abbrev pub decreases-items : goal.decreases-items
decreases-items l = length l.rest
