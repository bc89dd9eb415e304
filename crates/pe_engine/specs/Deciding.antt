-- What the row of a document says of a call, and what has to be known of the store beside it.
-- HTML Standard, "APIs gated by user activation"; Permissions, "get the current permission state", "permission key".
-- The order of the rules is this project's own; the definitions over the history say the same of each.
use Rattle.std.specs.Prelude.{◌≡◌, ℕ, ◌+◌, Bool, true, false, nat_lt, Option, Some, unwrap_or, option_map, option_and_then}
use Rattle.std.specs.Option.{option_or}
use Rattle.pe_base.specs.declared.state.State.{State}
use Rattle.pe_features.specs.declared.call.Gate.{Gate}
use Rattle.pe_features.specs.declared.capability.Capability.{Capability}
use Rattle.pe_features.specs.declared.feature.Feature.{Feature}
use Rattle.pe_features.specs.declared.feature.KeyKind.{KeyKind}
use Rattle.pe_features.specs.declared.feature.KeyKind.TheVariants as kind
use Rattle.pe_store.specs.declared.key.Key.{Key}
use Rattle.pe_events.specs.declared.reason.Reason.{Reason}
use Rattle.pe_events.specs.declared.reason.Reason.TheVariants as reason
use Rattle.pe_rules.specs.History.{RepliedHistory}
use Rattle.pe_rules.specs.Denials.{why_denied}
use Rattle.pe_rules.specs.Settings.{pair_for, stored_state}
use Rattle.pe_rules.specs.Verdicts.{permission_reason}
use Rattle.pe_engine.specs.declared.row.Delivered.{Delivered}
use Rattle.pe_engine.specs.declared.row.Row.{Row}
use Rattle.pe_engine.specs.Rows.{delivery_time}

-- the key of a kind that is kept of a document
abbrev pub kept_key : Row → KeyKind → Key
kept_key x kind.Single = x.single
kept_key x kind.Pair = x.pair

-- a capability of which this time is kept counts still
abbrev pub counts_still : ℕ → ℕ → Option ℕ → Bool
counts_still duration now time = unwrap_or (option_map (λ t. nat_lt now (t + duration)) time) false

-- there is a capability, and it was delivered and counts still
abbrev pub is_held : ℕ → ℕ → Delivered → Option Capability → Bool
is_held duration now delivered capability = unwrap_or (option_map (λ c. counts_still duration now (delivery_time delivered c)) capability) false

-- the first rule that fails of those of a call's feature: the policy's, and that of the permission
abbrev pub feature_reason : RepliedHistory → ℕ → ℕ → Gate → Option Reason
feature_reason T now d gate = option_or (option_map reason.Policy (option_and_then (λ f. why_denied T f d) gate.feature)) (permission_reason T now d gate)

-- this is stored at a time for the document and the call's feature, where the call wants its permission
abbrev pub IsStoredFor : RepliedHistory → ℕ → ℕ → Gate → Option State → Type 0
IsStoredFor T now d gate stored = gate.permission ≡ true → (feature : Feature) → gate.feature ≡ Some feature → stored ≡ option_and_then (stored_state T now) (pair_for T d feature)
