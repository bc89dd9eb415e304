-- What the structures keep of the statuses.
use Rattle.std.specs.Prelude.{◌≡◌, ℕ, ◌+◌, ◌-◌, ◌≤◌, Bool, true, false, cond, ◌==◌, ◌&&◌, ◌||◌, List, [], ◌∷◌, map, filter, Option, None, Some, unwrap_or}
use Rattle.std.specs.List.{cons_option}
use Rattle.std.specs.Map.{values_of}
use Rattle.std.specs.BTreeMap.{BTreeMap}
use Rattle.std.specs.BTreeSet.{BTreeSet}
use Rattle.pe_base.specs.declared.limits.TheConstants.{STATUS_LIMIT, EVENT_LIMIT}
use Rattle.pe_store.specs.Pairs.{Pair, is_same_pair}
use Rattle.pe_store.specs.Numbers.{KeyNumbers, number_of}
use Rattle.pe_status.specs.declared.giving.Given.{Given}
use Rattle.pe_status.specs.declared.index.Index.{Index}
use Rattle.pe_status.specs.declared.place.Place.{Place}
use Rattle.pe_status.specs.declared.registered.Registered.{Registered}
use Rattle.pe_status.specs.Registry.{pair_of, status_of, count_of_page, was_given, AreRising}
use Rattle.pe_status.specs.Places.{value_at, is_taken, is_from}
use Rattle.pe_counts.specs.Counts.{count_of}

-- the numbers that were given
abbrev pub numbers : List Given → List ℕ
numbers gs = map (λ g. g.no) gs

-- the number of the pair of the status with this number
abbrev pub pair_given : List Given → ℕ → Option ℕ
pair_given [] n = None
pair_given (g ∷ gs) n = cond (g.no == n) (Some g.pair) (pair_given gs n)

-- the statuses that are live, where those of each pair stand under their numbers
abbrev pub live_rows : (ℕ → ℕ → Option Registered) → List Given → List Registered
live_rows at [] = []
live_rows at (g ∷ gs) = cons_option (at g.pair g.no) (live_rows at gs)

-- the status is one of the document
abbrev pub is_of_document : ℕ → Option Registered → Bool
is_of_document doc None = false
is_of_document doc (Some r) = r.doc.doc == doc

-- a status stands under the number of its pair and its own
pub record IsPlaced (gs : List Given) (number : Pair → Option ℕ) (group n : ℕ) (r : Registered) : Type 0 where
  pub no : r.no ≡ n
  pub pair : number (pair_of r) ≡ Some group
  pub given : pair_given gs n ≡ Some group

-- the number of a pair is that of a status
pub record IsKnown (gs : List Given) (group : ℕ) : Type 0 where
  pub given : was_given (numbers gs) group ≡ true
  pub small : group ≤ EVENT_LIMIT

-- the structures say the same of the statuses
pub record IsKept (gs : List Given) (at : ℕ → ℕ → Option Registered) (number : Pair → Option ℕ) (owned : ℕ → ℕ → Bool) (count : ℕ → ℕ) : Type 0 where
  pub rising : AreRising (numbers gs)
  pub placed : (group n : ℕ) (r : Registered) → at group n ≡ Some r → IsPlaced gs number group n r
  pub apart : (x y : Pair) (group : ℕ) → number x ≡ Some group → number y ≡ Some group → x ≡ y
  pub known : (x : Pair) (group : ℕ) → number x ≡ Some group → IsKnown gs group
  pub owning : (doc n : ℕ) → owned doc n ≡ is_of_document doc (status_of (live_rows at gs) n)
  pub counted : (page : ℕ) → count page ≡ count_of_page page (live_rows at gs)
  pub few : (page : ℕ) → count page ≤ STATUS_LIMIT

-- the same of an index
abbrev pub IsIndex : List Given → Index → Type 0
IsIndex gs x = IsKept gs (value_at x.rows) (number_of x.pairs) (is_taken x.owned) (count_of x.pages)

-- the status is put under its pair's number, under its document's, and counted
pub record IsPut (r : Registered) (group : ℕ) (old_rows new_rows : BTreeMap Place Registered) (old_owned new_owned : BTreeSet Place) (old_pages new_pages : List (ℕ × ℕ)) : Type 0 where
  pub rows : (g n : ℕ) → value_at new_rows g n ≡ cond (group == g && r.no == n) (Some r) (value_at old_rows g n)
  pub owned : (d n : ℕ) → is_taken new_owned d n ≡ (r.doc.doc == d && r.no == n) || is_taken old_owned d n
  pub pages : (p : ℕ) → count_of new_pages p ≡ cond (r.page == p) (count_of old_pages p + 1) (count_of old_pages p)

-- what stands there is as before
pub record IsLeft (old_rows new_rows : BTreeMap Place Registered) (old_owned new_owned : BTreeSet Place) (old_pages new_pages : List (ℕ × ℕ)) : Type 0 where
  pub rows : (g n : ℕ) → value_at new_rows g n ≡ value_at old_rows g n
  pub owned : (d n : ℕ) → is_taken new_owned d n ≡ is_taken old_owned d n
  pub pages : (p : ℕ) → count_of new_pages p ≡ count_of old_pages p

-- the two say the same
pub record IsAlike (old new : Index) : Type 0 where
  pub pairs : (x : Pair) → number_of new.pairs x ≡ number_of old.pairs x
  pub left : IsLeft old.rows new.rows old.owned new.owned old.pages new.pages

-- the number of a pair, where one that has none takes this one
abbrev pub number_for : Index → Registered → ℕ
number_for x r = unwrap_or (number_of x.pairs (pair_of r)) r.no

-- this status is there besides, under its pair's number
pub record IsWith (r : Registered) (group : ℕ) (old new : Index) : Type 0 where
  pub pairs : (x : Pair) → number_of new.pairs x ≡ cond (is_same_pair (pair_of r) x) (Some group) (number_of old.pairs x)
  pub put : IsPut r group old.rows new.rows old.owned new.owned old.pages new.pages

-- the pair of a status keeps its number, or has none where no status is left under it
pub record IsFreed (r : Registered) (group : ℕ) (rows : BTreeMap Place Registered) (old new : List KeyNumbers) : Type 0 where
  pub others : (x : Pair) → is_same_pair (pair_of r) x ≡ false → number_of new x ≡ number_of old x
  pub own : (n : ℕ) (s : Registered) → value_at rows group n ≡ Some s → (x : Pair) → number_of new x ≡ number_of old x
  pub kept : (x : Pair) (g : ℕ) → number_of new x ≡ Some g → number_of old x ≡ Some g

-- this status is not there any more
pub record IsWithout (r : Registered) (group : ℕ) (old new : Index) : Type 0 where
  pub rows : (g n : ℕ) → value_at new.rows g n ≡ cond (group == g && r.no == n) None (value_at old.rows g n)
  pub pairs : IsFreed r group new.rows old.pairs new.pairs
  pub owned : (d n : ℕ) → is_taken new.owned d n ≡ cond (r.doc.doc == d && r.no == n) false (is_taken old.owned d n)
  pub pages : (p : ℕ) → count_of new.pages p ≡ cond (r.page == p) (count_of old.pages p - 1) (count_of old.pages p)

-- the number of a status of the document, if it has one
abbrev pub IsOneOf : List Registered → ℕ → Option ℕ → Type 0
IsOneOf rs doc None = (n : ℕ) → is_of_document doc (status_of rs n) ≡ false
IsOneOf rs doc (Some n) = is_of_document doc (status_of rs n) ≡ true

-- a number under which the document has a place, if there is one
abbrev pub IsFirstOf : BTreeSet Place → ℕ → Option ℕ → Type 0
IsFirstOf owned doc None = (n : ℕ) → is_taken owned doc n ≡ false
IsFirstOf owned doc (Some n) = is_taken owned doc n ≡ true

-- the values of a group from this number on; none where there is no group
abbrev pub values_from : {X : Type 0} → BTreeMap Place X → Option ℕ → ℕ → List X
values_from m None n = []
values_from m (Some group) n = values_of (filter (λ e. is_from group n e.0) m.entries)

-- the first number above this one, if there is one
abbrev pub first_no : Option ℕ → ℕ
first_no None = 0
first_no (Some n) = n + 1
