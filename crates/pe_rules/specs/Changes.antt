-- The change events that an event brings: those of the time that passes, and those of the event itself.
-- Permissions, "PermissionStatus update steps", the event change.
-- That time passes millisecond by millisecond, and that statuses change by number, is this project's own.
use Rattle.std.specs.Prelude.{ℕ, zero, suc, ◌+◌, ◌-◌, Bool, true, false, not, ◌==◌, List, [], ◌∷◌, filter, flat_map, Option, option_to_list}
use Rattle.std.specs.List.{list_any}
use Rattle.pe_base.specs.declared.state.State.{State}
use Rattle.pe_base.specs.declared.state.State.TheVariants.{Granted, Denied, Prompt}
use Rattle.pe_events.specs.declared.answer.Change.{Change}
use Rattle.pe_rules.specs.History.{RepliedHistory, some_if, clock}
use Rattle.pe_rules.specs.PermissionState.{permission_state}
use Rattle.pe_rules.specs.Statuses.{Status, live_statuses}

-- the two states are one
abbrev pub is_same_state : State → State → Bool
is_same_state Granted Granted = true
is_same_state Denied Denied = true
is_same_state Prompt Prompt = true
is_same_state _ _ = false

-- the change of a status at a time, where its states before and after differ
abbrev pub change_of : ℕ → Status → State → State → Option Change
change_of now status before after = some_if (not (is_same_state before after)) (record { time = now; status = status.number; state = after })

-- so many numbers above one, rising
unfoldable pub numbers_above : ℕ → ℕ → List ℕ
numbers_above from zero = []
numbers_above from (suc n) = (from + 1) ∷ numbers_above (from + 1) n

-- the change that a moment brings to a status
unfoldable pub change_at : RepliedHistory → ℕ → Status → Option Change
change_at T now status = change_of now status (permission_state T (now - 1) status.document status.feature) (permission_state T now status.document status.feature)

-- the changes that a moment brings, by status number
unfoldable pub changes_at : RepliedHistory → ℕ → List Change
changes_at T now = flat_map (λ x. option_to_list (change_at T now x)) (live_statuses T)

-- the changes at each millisecond after the clock, up to a time
unfoldable pub changes_before : RepliedHistory → ℕ → List Change
changes_before T now = flat_map (changes_at T) (numbers_above (clock T) (now - clock T))

-- the status is live
abbrev pub is_live_in : RepliedHistory → Status → Bool
is_live_in T status = list_any (λ x. x.number == status.number) (live_statuses T)

-- the change of a status between the history without an event and the one with it
unfoldable pub change_between : RepliedHistory → RepliedHistory → ℕ → Status → Option Change
change_between T U now status = change_of now status (permission_state T now status.document status.feature) (permission_state U now status.document status.feature)

-- the changes that an event brings by itself, by status number: of the statuses that are live before it and after it
unfoldable pub changes_after : RepliedHistory → RepliedHistory → ℕ → List Change
changes_after T U now = flat_map (λ x. option_to_list (change_between T U now x)) (filter (is_live_in U) (live_statuses T))
