-- What a contract sees of permission statuses: those that are live, and the numbers that were given.
-- Permissions, the interface PermissionStatus.
use Rattle.std.specs.Prelude.{⊤, ℕ, ◌<◌, Bool, true, not, ◌&&◌, ◌==◌, nat_lt, List, [], ◌∷◌, length, map, filter, find, Option, None, Some, is_none, if◌then◌else◌}
use Rattle.std.specs.List.{list_any}
use Rattle.pe_store.specs.Pairs.{Pair, is_same_pair}
use Rattle.pe_status.specs.declared.registered.Registered.{Registered}
use Rattle.pe_status.specs.declared.registered.ReleaseFault.{ReleaseFault}
use Rattle.pe_status.specs.declared.registered.ReleaseFault.TheVariants.{Unknown, Closed}

-- the live statuses, by rising number, and the numbers of all that were ever registered, rising
pub record Registry : Type 0 where
  pub live : List Registered
  pub given : List ℕ

-- the pair that a status shows
abbrev pub pair_of : Registered → Pair
pair_of r = (r.feature, r.key)

-- the status is one of the pair
abbrev pub is_under : Pair → Registered → Bool
is_under pair r = is_same_pair (pair_of r) pair

-- the number is above this one, if there is one
abbrev pub is_above : Option ℕ → ℕ → Bool
is_above None number = true
is_above (Some after) number = nat_lt after number

-- the status is one of the pair, and its number is above this one, if there is one
abbrev pub is_later_under : Pair → Option ℕ → Registered → Bool
is_later_under pair after r = is_under pair r && is_above after r.no

-- the statuses of a pair that have a number above this one, if there is one
unfoldable pub later_under : Pair → Option ℕ → List Registered → List Registered
later_under pair after rs = filter (is_later_under pair after) rs

-- the status of a pair that has the least number above this one, if there is one
unfoldable pub next_under : Pair → Option ℕ → List Registered → Option Registered
next_under pair after rs = find (is_later_under pair after) rs

-- the status of a number
unfoldable pub status_of : List Registered → ℕ → Option Registered
status_of rs number = find (λ r. r.no == number) rs

-- a number was given
abbrev pub was_given : List ℕ → ℕ → Bool
was_given numbers number = list_any (λ n. n == number) numbers

-- why the status of a number is not found: the number was not given, or the status is not live
abbrev pub release_fault : Registry → ℕ → Option ReleaseFault
release_fault s number = if was_given s.given number then (if is_none (status_of s.live number) then Some Closed else None) else Some Unknown

-- how many live statuses a page has
unfoldable pub count_of_page : ℕ → List Registered → ℕ
count_of_page page rs = length (filter (λ r. r.page == page) rs)

-- the statuses without that of a number
unfoldable pub without : ℕ → List Registered → List Registered
without number rs = filter (λ r. not (r.no == number)) rs

-- the statuses without those of a document
unfoldable pub without_document : ℕ → List Registered → List Registered
without_document doc rs = filter (λ r. not (r.doc.doc == doc)) rs

-- the status, unless it is one of the document
abbrev pub unless_of : ℕ → Option Registered → Option Registered
unless_of doc None = None
unless_of doc (Some r) = if r.doc.doc == doc then None else Some r

-- each number is below this one
abbrev pub AreBelow : ℕ → List ℕ → Type 0
AreBelow number [] = ⊤
AreBelow number (n ∷ ns) = (n < number) × AreBelow number ns

-- each number is above this one
abbrev pub AreAbove : ℕ → List ℕ → Type 0
AreAbove number [] = ⊤
AreAbove number (n ∷ ns) = (number < n) × AreAbove number ns

-- the numbers rise
abbrev pub AreRising : List ℕ → Type 0
AreRising [] = ⊤
AreRising (n ∷ ns) = AreAbove n ns × AreRising ns

-- the numbers of the statuses rise
unfoldable pub IsInOrder : List Registered → Type 0
IsInOrder rs = AreRising (map (λ r. r.no) rs)
