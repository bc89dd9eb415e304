-- How the messages are kept.
use Rattle.std.specs.Prelude.{◌≡◌, ◌<◌, ◌≤◌, ℕ, false, List, [], ◌∷◌, length, Option, Some, None, option_map, slice_index_or}
use Rattle.std.specs.List.{cons_option}
use Rattle.std.specs.List.Sorted.{IsStrictlySortedBy}
use Rattle.std.specs.Ordering.{nat_cmp}
use Rattle.pe_base.specs.declared.limits.TheConstants.{MESSAGE_LIMIT}
use Rattle.pe_delegation.specs.declared.message.Message.{Message}
use Rattle.pe_delegation.specs.Posted.{was_given, waiting_count}

-- the numbers rise
abbrev pub IsRising : List ℕ → Type 0
IsRising ns = IsStrictlySortedBy nat_cmp ns

-- the place of a number among those that were given, if it is one
abbrev pub IsPlaceOf : List ℕ → ℕ → Option ℕ → Type 0
IsPlaceOf ns n None = was_given ns n ≡ false
IsPlaceOf ns n (Some place) = (place < length ns) × (slice_index_or ns place 0 ≡ n)

-- the messages that wait, each with its number
abbrev pub waiting_in : List ℕ → List (Option Message) → List (ℕ × Message)
waiting_in [] os = []
waiting_in (n ∷ ns) [] = []
waiting_in (n ∷ ns) (o ∷ os) = cons_option (option_map (λ m. (n, m)) o) (waiting_in ns os)

-- the numbers that were given rise, each has a slot, and the waiting messages of each page are counted, and within the limit
pub record IsKept (ns : List ℕ) (os : List (Option Message)) (count : ℕ → ℕ) : Type 0 where
  pub rising : IsRising ns
  pub slots : length os ≡ length ns
  pub counted : (page : ℕ) → count page ≡ waiting_count page (waiting_in ns os)
  pub few : (page : ℕ) → count page ≤ MESSAGE_LIMIT
