-- The verdict of a use: the first rule of the call that fails, or how the use is allowed.
-- HTML Standard, "APIs gated by user activation"; Permissions, "get the current permission state"; HTML Standard, "allowed to use"; Secure Contexts, "secure context".
-- The order of the rules is this project's own.
use Rattle.std.specs.Prelude.{ℕ, Bool, false, not, ◌&&◌, ◌||◌, Option, Some, None, unwrap_or, option_map, option_and_then, if◌then◌else◌}
use Rattle.std.specs.Option.{option_or}
use Rattle.pe_base.specs.declared.state.State.{State}
use Rattle.pe_base.specs.declared.state.State.TheVariants as state
use Rattle.pe_features.specs.declared.call.Call.{Call}
use Rattle.pe_features.specs.declared.call.Gate.{Gate}
use Rattle.pe_features.specs.declared.call.Need.{Need}
use Rattle.pe_features.specs.declared.call.Need.TheVariants.{Nothing, Sticky, Transient}
use Rattle.pe_features.specs.Calls.{gate_of}
use Rattle.pe_events.specs.declared.reason.Reason.{Reason}
use Rattle.pe_events.specs.declared.reason.Reason.TheVariants as reason
use Rattle.pe_events.specs.declared.reason.Verdict.{Verdict}
use Rattle.pe_events.specs.declared.reason.Verdict.TheVariants as verdict
use Rattle.pe_events.specs.declared.reason.Via.{Via}
use Rattle.pe_events.specs.declared.reason.Via.TheVariants as via
use Rattle.pe_rules.specs.History.{RepliedHistory, some_if}
use Rattle.pe_rules.specs.Origins.{is_secure}
use Rattle.pe_rules.specs.Denials.{why_denied}
use Rattle.pe_rules.specs.Activation.{has_sticky, has_transient}
use Rattle.pe_rules.specs.PermissionState.{permission_state}
use Rattle.pe_rules.specs.Delegation.{has_delegated}

-- why a permission of this state is no leave
abbrev pub reason_of_state : State → Option Reason
reason_of_state state.Granted = None
reason_of_state state.Denied = Some reason.PermissionDenied
reason_of_state state.Prompt = Some reason.PermissionPrompt

-- the reason of a call's permission, where it wants one
unfoldable pub permission_reason : RepliedHistory → ℕ → ℕ → Gate → Option Reason
permission_reason T now d gate = option_and_then (λ f. if gate.permission then reason_of_state (permission_state T now d f) else None) gate.feature

-- the call has a capability that the document holds
unfoldable pub is_met_by_delegated : ℕ → RepliedHistory → ℕ → ℕ → Gate → Bool
is_met_by_delegated duration T now d gate = unwrap_or (option_map (has_delegated duration T now d) gate.capability) false

-- the reason of a need of user activation, by what the document has
abbrev pub activation_reason : Need → Bool → Bool → Bool → Option Reason
activation_reason Nothing sticky transient delegated = None
activation_reason Sticky sticky transient delegated = some_if (not sticky) reason.NoSticky
activation_reason Transient sticky transient delegated = some_if (not (transient || delegated)) reason.NoTransient

-- the first rule of the call that fails
unfoldable pub reason_denied : ℕ → RepliedHistory → ℕ → ℕ → Gate → Option Reason
reason_denied duration T now d gate =
    option_or (some_if (gate.secure && not (is_secure T d)) reason.Insecure)
    (option_or (option_map reason.Policy (option_and_then (λ f. why_denied T f d) gate.feature))
    (option_or (permission_reason T now d gate)
    (activation_reason gate.need (has_sticky T d) (has_transient duration T now d) (is_met_by_delegated duration T now d gate))))

-- what an allowed use was met by: transient activation is tried before a capability
abbrev pub met_by : Need → Bool → Via
met_by Transient transient = if transient then via.Transient else via.Delegated
met_by need transient = via.Free

-- the verdict of a reason, or of none
abbrev pub verdict_by : Option Reason → Via → Verdict
verdict_by (Some why) way = verdict.Denied why
verdict_by None way = verdict.Allowed way

-- the verdict of a call in document d
unfoldable pub verdict_of : ℕ → RepliedHistory → ℕ → ℕ → Call → Verdict
verdict_of duration T now d call = verdict_by (reason_denied duration T now d (gate_of call)) (met_by (gate_of call).need (has_transient duration T now d))
