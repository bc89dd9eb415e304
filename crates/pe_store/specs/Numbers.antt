-- Numbers kept under pairs of a feature and a key: for each feature, by its number, a list of keys with their numbers.
-- What a pair's number is never depends on the order of such a list.
use Rattle.std.specs.Prelude.{◌≡◌, ℕ, ◌==◌, ◌&&◌, List, [], length, Option, None, slice_index_or, if◌then◌else◌}
use Rattle.std.specs.Map.{lookup}
use Rattle.pe_features.specs.Features.{feature_number}
use Rattle.pe_store.specs.declared.key.Key.{Key}
use Rattle.pe_store.specs.Pairs.{Pair, is_same_key, is_same_pair}

-- the keys of a feature, each with its number
abbrev pub KeyNumbers : Type 0
KeyNumbers = List (Key × ℕ)

-- the number of a key
unfoldable pub number_in : KeyNumbers → Key → Option ℕ
number_in numbers key = lookup (is_same_key key) numbers

-- the number of a key in the list at a place
unfoldable pub number_at : List KeyNumbers → ℕ → Key → Option ℕ
number_at lists place key = number_in (slice_index_or lists place []) key

-- the number of a pair
unfoldable pub number_of : List KeyNumbers → Pair → Option ℕ
number_of lists pair = number_at lists (feature_number pair.0) pair.1

-- no pair has a number
unfoldable pub HoldsNone : List KeyNumbers → Type 0
HoldsNone lists = (pair : Pair) → number_of lists pair ≡ None

-- the key has this number afterwards, or none, and other keys keep theirs
unfoldable pub IsChangedIn : Key → Option ℕ → KeyNumbers → KeyNumbers → Type 0
IsChangedIn key number old new = (q : Key) → number_in new q ≡ (if is_same_key key q then number else number_in old q)

-- the same of the key in the list at a place
unfoldable pub IsChangedAt : ℕ → Key → Option ℕ → List KeyNumbers → List KeyNumbers → Type 0
IsChangedAt place key number old new =
    (length new ≡ length old)
    × ((i : ℕ) (q : Key) → number_at new i q ≡ (if place == i && is_same_key key q then number else number_at old i q))

-- the same of a pair
unfoldable pub IsChangedFor : Pair → Option ℕ → List KeyNumbers → List KeyNumbers → Type 0
IsChangedFor pair number old new = (q : Pair) → number_of new q ≡ (if is_same_pair pair q then number else number_of old q)
