use Rattle.std.proofs.Common.{◌≡◌, length}
use Rattle.pe_fields.specs.Reading.{next_member_at, members_from}
use Rattle.pe_fields.proofs.Loops.{with_front, all}
use Rattle.pe_fields.proofs.reading.members_from.Given as goal

abbrev pub invariant-members : goal.invariant-members
invariant-members l = with_front l.members.items (all next_member_at l.rest) ≡ members_from (l.fn.first, l.fn.bytes)

abbrev pub decreases-members : goal.decreases-members
decreases-members l = length l.rest
