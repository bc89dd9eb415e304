-- Permission statuses, and which of them are live.
-- Permissions, the interface PermissionStatus; that the script drops them is this project's own.
-- A status is live until it is dropped or its document is no longer current.
use Rattle.std.specs.Prelude.{ℕ, Bool, false, ◌&&◌, ◌==◌, List, ◌∷◌, length, filter, Option, None, is_none, option_map, option_and_then, option_to_list}
use Rattle.pe_features.specs.declared.feature.Feature.{Feature}
use Rattle.pe_features.specs.Features.{feature_named}
use Rattle.pe_events.specs.declared.event.Event.{Event}
use Rattle.pe_events.specs.declared.event.Event.TheVariants as event
use Rattle.pe_rules.specs.History.{RepliedHistory, some_if, newest_answer, all_answers}
use Rattle.pe_rules.specs.Current.{is_current, document_in}

-- a permission status: its number, its document and its feature
pub record Status : Type 0 where
  pub number : ℕ
  pub document : ℕ
  pub feature : Feature

-- the status that the event at position k makes
abbrev pub status_by : Event → RepliedHistory → ℕ → Option Status
status_by (event.Query frame feature) B k = option_and_then (λ d. option_map (λ f. record { number = k; document = d; feature = f }) (feature_named feature)) (document_in B frame)
status_by e B k = None

-- the event drops the status
abbrev pub drops : Event → ℕ → Bool
drops (event.DropStatus status) n = status == n
drops e n = false

-- the status is live: no event dropped it, and its document is current
unfoldable pub is_live_status : RepliedHistory → Status → Bool
is_live_status T x = is_none (newest_answer (λ s B. some_if (drops s.event x.number) x.number) T) && is_current T x.document

-- the live statuses, by number
unfoldable pub live_statuses : RepliedHistory → List Status
live_statuses T = filter (is_live_status T) (all_answers (λ s B. option_to_list (status_by s.event B (length (s ∷ B)))) T)
