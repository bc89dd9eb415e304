-- The places of statuses in groups, and what stands there.
use Rattle.std.specs.Prelude.{ℕ, Bool, Option, ◌==◌, ◌&&◌, nat_le}
use Rattle.std.specs.declared.cmp.Ordering.{Ordering}
use Rattle.std.specs.BTreeMap.{BTreeMap, get}
use Rattle.std.specs.BTreeSet.{BTreeSet, contains}
use Rattle.pe_status.specs.declared.place.Place.{Place}
use Rattle.pe_status.specs.contracts.place.PlaceOrd.TheImpl as order

-- the order of places: by the numbers of the groups, then by those of the statuses
abbrev pub place_cmp : Place → Place → Ordering
place_cmp = (order.ghosts).cmp

-- the place of the status with this number in the group with this one
abbrev pub place : ℕ → ℕ → Place
place group n = record { group = group; no = n }

-- what stands at the place
unfoldable pub value_at : {X : Type 0} → BTreeMap Place X → ℕ → ℕ → Option X
value_at m group n = get place_cmp m (place group n)

-- whether the place is taken
unfoldable pub is_taken : BTreeSet Place → ℕ → ℕ → Bool
is_taken s group n = contains place_cmp s (place group n)

-- the place is in the group, at this number or behind it
abbrev pub is_from : ℕ → ℕ → Place → Bool
is_from group n q = q.group == group && nat_le n q.no
