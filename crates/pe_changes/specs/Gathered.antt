-- The changes that entries of a store bring to the statuses of their pairs.
-- Permissions, "PermissionStatus update steps".
use Rattle.std.specs.Prelude.{◌≡◌, ◌⊎◌, ℕ, Bool, true, nat_lt, List, [], ◌∷◌, flat_map, Option, None, Some, is_some, option_map, option_and_then, if◌then◌else◌}
use Rattle.pe_base.specs.declared.state.State.{State}
use Rattle.pe_base.specs.declared.state.State.TheVariants as state
use Rattle.pe_events.specs.declared.answer.Change.{Change}
use Rattle.pe_store.specs.declared.entry.Entry.{Entry}
use Rattle.pe_store.specs.declared.key.Life.{Life}
use Rattle.pe_store.specs.declared.key.Life.TheVariants as life
use Rattle.pe_store.specs.Entries.{entry_of}
use Rattle.pe_store.specs.Pairs.{Pair}
use Rattle.pe_status.specs.declared.registered.Registered.{Registered}
use Rattle.pe_status.specs.Registry.{pair_of, later_under}
use Rattle.pe_rules.specs.History.{some_if}
use Rattle.pe_rules.specs.Changes.{is_same_state}
use Rattle.pe_changes.specs.Bags.{IsSameBag}

-- the change of a status to a state, unless no stored state changes it
abbrev pub change_to : (Registered → Bool) → ℕ → State → Registered → List Change
change_to silent time after r = if silent r then [] else record { time = time; status = r.no; state = after } ∷ []

-- the change of a status between two stored states
abbrev pub change_from : (Registered → Bool) → ℕ → State → State → Registered → List Change
change_from silent time before after r = if is_same_state before after then [] else change_to silent time after r

-- the changes to a state of the statuses of these pairs, by pair
abbrev pub changes_under : (Registered → Bool) → ℕ → State → List Registered → List Pair → List Change
changes_under silent time after live pairs = flat_map (λ pair. flat_map (change_to silent time after) (later_under pair None live)) pairs

-- the statuses of these pairs, by pair
abbrev pub statuses_under : List Registered → List Pair → List Registered
statuses_under live pairs = flat_map (λ pair. later_under pair None live) pairs

-- what entries store for a pair
abbrev pub state_in : List Entry → Pair → Option State
state_in entries pair = option_map (λ e. e.state) (entry_of entries pair)

-- ---- entries that end by a time

-- the life goes on after a moment
abbrev pub outlasts : ℕ → Life → Bool
outlasts to (life.Until end) = nat_lt to end
outlasts to other = true

-- the entry, where it goes on after a moment
abbrev pub lasting : ℕ → Option Entry → Option Entry
lasting to o = option_and_then (λ e. some_if (outlasts to e.life) e) o

-- no entry ends by a moment
abbrev pub NoneEnds : ℕ → List Entry → Type 0
NoneEnds to entries = (pair : Pair) → lasting to (entry_of entries pair) ≡ entry_of entries pair

-- the change of a status at the end of a life, where that comes by a moment
abbrev pub change_at_end : ℕ → (Registered → Bool) → Registered → State → Life → List Change
change_at_end to silent r before (life.Until end) = if nat_lt to end then [] else change_from silent end before state.Prompt r
change_at_end to silent r before other = []

-- the same of an entry, if there is one
abbrev pub change_by_entry : ℕ → (Registered → Bool) → Registered → Option Entry → List Change
change_by_entry to silent r None = []
change_by_entry to silent r (Some e) = change_at_end to silent r e.state e.life

-- the change of a status by a moment, by the entry of its pair
unfoldable pub change_by_lapse : ℕ → (Registered → Bool) → List Entry → Registered → List Change
change_by_lapse to silent entries r = change_by_entry to silent r (entry_of entries (pair_of r))

-- the same, of a status whose entry is gone by now
unfoldable pub change_so_far : ℕ → (Registered → Bool) → List Entry → List Entry → Registered → List Change
change_so_far to silent old now r = if is_some (entry_of now (pair_of r)) then [] else change_by_lapse to silent old r

-- an entry is as it was, or is gone and did not outlast the moment
abbrev pub IsLeft : ℕ → Option Entry → Option Entry → Type 0
IsLeft to old now = (now ≡ old) ⊎ ((now ≡ None) × (lasting to old ≡ None))

-- some of the entries that end by a moment were taken out, with the changes that they bring
pub record AreSomeLapses (to : ℕ) (silent : Registered → Bool) (live : List Registered) (old now : List Entry) (changes : List Change) : Type 0 where
  pub left : (pair : Pair) → IsLeft to (entry_of old pair) (entry_of now pair)
  pub bag : IsSameBag changes (flat_map (change_so_far to silent old now) live)

-- the entries that end by a moment were taken out, with the changes that they bring, in some order
pub record AreLapses (to : ℕ) (silent : Registered → Bool) (live : List Registered) (old now : List Entry) (changes : List Change) : Type 0 where
  pub left : (pair : Pair) → entry_of now pair ≡ lasting to (entry_of old pair)
  pub bag : IsSameBag changes (flat_map (change_by_lapse to silent old) live)
