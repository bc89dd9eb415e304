-- The entries of the permission store, one for each pair of a feature and a key.
-- Permissions, "permission store", "permission store entry".
use Rattle.std.specs.Prelude.{◌≡◌, ℕ, ◌+◌, ◌<◌, Bool, true, false, not, ◌&&◌, nat_le, nat_lt, List, [], ◌∷◌, length, filter, find, Option, None, Some, if◌then◌else◌}
use Rattle.std.specs.Option.{unwrap_or}
use Rattle.pe_base.specs.declared.limits.TheConstants.{STORE_LIMIT, EMBARGO_DISMISSALS, EMBARGO_SPAN}
use Rattle.pe_base.specs.declared.state.State.{State}
use Rattle.pe_base.specs.declared.state.State.TheVariants as state
use Rattle.pe_features.specs.Features.{feature_number}
use Rattle.pe_store.specs.declared.entry.Entry.{Entry}
use Rattle.pe_store.specs.declared.key.Life.{Life}
use Rattle.pe_store.specs.declared.key.Life.TheVariants as life
use Rattle.pe_store.specs.Numbers.{KeyNumbers, number_of}
use Rattle.pe_store.specs.Pairs.{Pair, is_same_pair}

-- what a store holds: its entries, and how often each pair was dismissed since its last setting
pub record StoreValue : Type 0 where
  pub entries : List Entry
  pub dismissals : List KeyNumbers

-- how often a pair was dismissed since its last setting
unfoldable pub dismissals_of : StoreValue → Pair → ℕ
dismissals_of store pair = unwrap_or (number_of store.dismissals pair) 0

-- the pair of an entry
abbrev pub pair_of : Entry → Pair
pair_of e = (e.feature, e.key)

-- the entry that a setting of the pair makes
abbrev pub stored : Pair → State → Life → Entry
stored pair state life = record { feature = pair.0; key = pair.1; state = state; life = life }

-- the entry is that of the pair
abbrev pub is_of : Pair → Entry → Bool
is_of pair e = is_same_pair (pair_of e) pair

-- the entry of a pair
unfoldable pub entry_of : List Entry → Pair → Option Entry
entry_of entries pair = find (is_of pair) entries

-- the entries without that of a pair
unfoldable pub without : Pair → List Entry → List Entry
without pair entries = filter (λ e. not (is_of pair e)) entries

-- the entries without those of the pairs
unfoldable pub without_all : List Pair → List Entry → List Entry
without_all [] entries = entries
without_all (pair ∷ pairs) entries = without_all pairs (without pair entries)

-- the entries with this one in the place of that of its pair, else behind those of its feature and of the features before it
unfoldable pub put_entry : Entry → List Entry → List Entry
put_entry new [] = new ∷ []
put_entry new (e ∷ entries) =
    if is_of (pair_of new) e then new ∷ entries
    else (if nat_lt (feature_number new.feature) (feature_number e.feature) then new ∷ e ∷ entries else e ∷ put_entry new entries)

-- there are as many entries as there may be, and none of the pair
abbrev pub IsFull : List Entry → Pair → Type 0
IsFull entries pair = (length entries ≡ STORE_LIMIT) × (entry_of entries pair ≡ None)

-- ---- dismissals

-- the state is prompt
abbrev pub is_prompt : State → Bool
is_prompt state.Prompt = true
is_prompt _ = false

-- a dismissal of a pair with this entry counts: nothing is stored for it, or prompt
abbrev pub counts_over : Option Entry → Bool
counts_over None = true
counts_over (Some e) = is_prompt e.state

-- a dismissal of the pair counts
abbrev pub counts : StoreValue → Pair → Bool
counts store pair = counts_over (entry_of store.entries pair)

-- one more dismissal of the pair is an embargo: it counts, and as many did since the pair's last setting as an embargo takes
abbrev pub completes_embargo : StoreValue → Pair → Bool
completes_embargo store pair = counts store pair && nat_le EMBARGO_DISMISSALS (dismissals_of store pair + 1)

-- what an embargo that begins at this time stores
abbrev pub embargo : Pair → ℕ → Entry
embargo pair time = stored pair state.Denied (life.Until (time + EMBARGO_SPAN))

-- no pair was dismissed as often as an embargo takes
unfoldable pub AreBelowEmbargo : List KeyNumbers → Type 0
AreBelowEmbargo dismissals = (pair : Pair) → unwrap_or (number_of dismissals pair) 0 < EMBARGO_DISMISSALS

-- ---- one entry for each pair

-- no two entries are of one pair
abbrev pub IsOnePerPair : List Entry → Type 0
IsOnePerPair [] = Unit {0}
IsOnePerPair (e ∷ entries) = (entry_of entries (pair_of e) ≡ None) × IsOnePerPair entries
