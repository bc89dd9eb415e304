use Rattle.std.proofs.Common.{ap, Some, refl}
use Rattle.pe_fields.specs.Reading.{next_item_at}
use Rattle.pe_fields.proofs.Loops.{all_goes_on, all_ends}
use Rattle.pe_fields.proofs.Sound.{next_item_shrinks}
use Rattle.pe_fields.proofs.reading.items_from.Goals as goal

pub items-init : goal.items-init
items-init c = rw (c.in_ok-push.ensures.items, c.new-items.ensures.items) refl

pub items-smaller : goal.items-smaller
items-smaller c = next_item_shrinks c.items.rest.now _ c.in-Ok.ensures

pub items-preserved : goal.items-preserved
items-preserved c =
    rw c.in_ok-push-in-Ok.ensures.items (all_goes_on next_item_at next_item_shrinks c.items.items.items c.items.rest.now c.in-Ok.item c.in-Ok.after.now _ c.in-Ok.ensures c.items.invariant)

pub returns-in-Err-Malformed : goal.returns-in-Err-Malformed
returns-in-Err-Malformed c =
    rw c.of.ensures (ap Some (all_ends next_item_at next_item_shrinks c.items.items.items c.items.rest.now _ (rw c.in-Err-Malformed.field-0-is at c.in-Err-Malformed.ensures) c.items.invariant))
