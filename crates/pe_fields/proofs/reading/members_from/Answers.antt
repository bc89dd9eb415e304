use Rattle.std.proofs.Common.{ap, Some, refl}
use Rattle.pe_fields.specs.Reading.{next_member_at}
use Rattle.pe_fields.proofs.Loops.{all_goes_on, all_ends}
use Rattle.pe_fields.proofs.Sound.{next_member_shrinks}
use Rattle.pe_fields.proofs.reading.members_from.Goals as goal

pub members-init : goal.members-init
members-init c = rw (c.in_ok-push.ensures.items, c.in_ok-members.ensures.items) refl

pub members-smaller : goal.members-smaller
members-smaller c = next_member_shrinks c.members.rest.now _ c.in-Ok.ensures

pub members-preserved : goal.members-preserved
members-preserved c =
    rw c.in_ok-push-in-Ok.ensures.items (all_goes_on next_member_at next_member_shrinks c.members.members.items c.members.rest.now c.in-Ok.member c.in-Ok.after.now _ c.in-Ok.ensures c.members.invariant)

pub returns-in-Err-Malformed : goal.returns-in-Err-Malformed
returns-in-Err-Malformed c =
    ap Some (all_ends next_member_at next_member_shrinks c.members.members.items c.members.rest.now _ (rw c.in-Err-Malformed.field-0-is at c.in-Err-Malformed.ensures) c.members.invariant)
