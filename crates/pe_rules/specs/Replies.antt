-- What each event is answered, and what is told of a history.
-- The answers are this project's own; what they tell is worked out by the definitions before.
-- A history is regular where each event is accepted after those before it.
use Rattle.std.specs.Prelude.{ℕ, ◌+◌, Bool, true, false, not, ◌&&◌, List, [], ◌∷◌, map, length, Option, Some, None, is_none, unwrap_or, option_map, option_and_then, if◌then◌else◌}
use Rattle.std.specs.Option.{option_or}
use Rattle.pe_base.specs.Activation.{triggers}
use Rattle.pe_base.specs.declared.denial.Denial.{Denial}
use Rattle.pe_base.specs.declared.state.State.{State}
use Rattle.pe_base.specs.declared.state.State.TheVariants as state
use Rattle.pe_features.specs.Calls.{call_named}
use Rattle.pe_features.specs.Capabilities.{capability_named, feature_of}
use Rattle.pe_features.specs.Features.{all_features, feature_named}
use Rattle.pe_origin.specs.declared.origin.Origin.{Origin}
use Rattle.pe_origin.specs.Origins.{is_same_origin}
use Rattle.pe_events.specs.declared.answer.Answer.{Answer}
use Rattle.pe_events.specs.declared.answer.Answer.TheVariants as answer
use Rattle.pe_events.specs.declared.cause.Cause.{Cause}
use Rattle.pe_events.specs.declared.event.Event.{Event}
use Rattle.pe_events.specs.declared.event.Event.TheVariants as event
use Rattle.pe_events.specs.declared.event.Outcome.{Outcome}
use Rattle.pe_events.specs.declared.event.Outcome.TheVariants as outcome
use Rattle.pe_events.specs.declared.reason.Reason.{Reason}
use Rattle.pe_events.specs.declared.reason.Reason.TheVariants as reason
use Rattle.pe_events.specs.declared.reason.Verdict.{Verdict}
use Rattle.pe_events.specs.declared.reason.Verdict.TheVariants as verdict
use Rattle.pe_events.specs.Timed.{Timed}
use Rattle.pe_rules.specs.History.{StepAnswer, Replied, Judged, RepliedHistory, History, some_if}
use Rattle.pe_rules.specs.Current.{is_current, document_in}
use Rattle.pe_rules.specs.Origins.{origin_of}
use Rattle.pe_rules.specs.Denials.{why_denied, is_allowed}
use Rattle.pe_rules.specs.Activation.{activated_count, has_sticky, has_transient}
use Rattle.pe_rules.specs.HistoryActivation.{has_history_activation}
use Rattle.pe_rules.specs.PermissionState.{permission_state}
use Rattle.pe_rules.specs.Prompts.{waiting}
use Rattle.pe_rules.specs.Delegation.{Message, message}
use Rattle.pe_rules.specs.Verdicts.{verdict_of}
use Rattle.pe_rules.specs.Causes.{state_found, prompt_to_join, cause_of}

-- allowed, or denied by a test of the policy
abbrev pub answer_of_denial : Option Denial → Answer
answer_of_denial None = answer.Allowed
answer_of_denial (Some denial) = answer.Denied (reason.Policy denial)

-- allowed, or denied by a rule of the call
abbrev pub answer_of_verdict : Verdict → Answer
answer_of_verdict (verdict.Allowed way) = answer.Allowed
answer_of_verdict (verdict.Denied why) = answer.Denied why

-- allowed where there is history-action activation
abbrev pub answer_of_history_action : Bool → Answer
answer_of_history_action true = answer.Allowed
answer_of_history_action false = answer.Denied reason.NoHistory

-- the state that a request found, or the prompt that it joined or made at position k
abbrev pub answer_of_request : State → ℕ → Option ℕ → Answer
answer_of_request state.Granted k join = answer.Stated state.Granted
answer_of_request state.Denied k join = answer.Stated state.Denied
answer_of_request state.Prompt k None = answer.PromptMade k
answer_of_request state.Prompt k (Some join) = answer.PromptJoined join

-- the state that an outcome tells; of a dismissal prompt, also where it is an embargo
abbrev pub state_replied : Outcome → State
state_replied outcome.Allow = state.Granted
state_replied outcome.Block = state.Denied
state_replied outcome.Dismiss = state.Prompt

-- the first test of a post from document d that fails: an origin is named, the policy allows it, there is transient activation
unfoldable pub post_reason : ℕ → RepliedHistory → ℕ → ℕ → Option (List ℕ) → List ℕ → Option Reason
post_reason duration T now d named capability =
    option_or (some_if (is_none named) reason.TargetAny)
    (option_or (option_map reason.Policy (option_and_then (λ c. why_denied T (feature_of c) d) (capability_named capability)))
    (some_if (not (has_transient duration T now d)) reason.NoTransient))

-- denied, or the message that was made at position k
abbrev pub answer_of_post : ℕ → Option Reason → Answer
answer_of_post k None = answer.MessageMade k
answer_of_post k (Some why) = answer.Denied why

-- dropped where the target document is not current or not of the named origin, else delivered
unfoldable pub answer_of_delivery : RepliedHistory → Message → Answer
answer_of_delivery T m =
    if not (is_current T m.target) then answer.DroppedGone
    else (if unwrap_or (option_map (is_same_origin (origin_of T m.target)) m.origin) false then answer.Delivered else answer.DroppedOther)

-- an answer, or `ok` where an event names something that is not there, which no accepted event does
abbrev pub answer_or_done : Option Answer → Answer
answer_or_done given = unwrap_or given answer.Done

-- the history with the event, before anything is told of it
abbrev pub with_event : RepliedHistory → ℕ → Event → RepliedHistory
with_event T now e = record { time = now; event = e; item = Replied answer.Done } ∷ T

-- the origin of the document that the event makes (HTML, "determine the origin")
unfoldable pub new_origin : RepliedHistory → ℕ → Event → Origin
new_origin T now e = origin_of (with_event T now e) (length T + 1)

-- the answer to an event at a time, where no cause applies
unfoldable pub answer_of : ℕ → RepliedHistory → ℕ → Event → Answer
answer_of duration T now (event.OpenPage url header) = answer.FrameMade (length T + 1) (length T + 1) (new_origin T now (event.OpenPage url header))
answer_of duration T now (event.Embed parent src place allow sandbox fullscreen srcdoc header) = answer.FrameMade (length T + 1) (length T + 1) (new_origin T now (event.Embed parent src place allow sandbox fullscreen srcdoc header))
answer_of duration T now (event.Navigate frame url header) = answer.DocMade (length T + 1) (new_origin T now (event.Navigate frame url header))
answer_of duration T now (event.Attr frame name value) = answer.Done
answer_of duration T now (event.Close frame) = answer.Done
answer_of duration T now (event.Input frame kind) = if triggers kind then answer.Activated (activated_count (event.Input frame kind) T) else answer.Ignored
answer_of duration T now (event.Ask frame) = answer_or_done (option_map (λ d. answer.Activity (has_sticky T d) (has_transient duration T now d)) (document_in T frame))
answer_of duration T now (event.History frame) = answer_or_done (option_map (λ d. answer_of_history_action (has_history_activation T d)) (document_in T frame))
answer_of duration T now (event.PolicyOf frame feature) = answer_or_done (option_and_then (λ d. option_map (λ f. answer_of_denial (why_denied T f d)) (feature_named feature)) (document_in T frame))
answer_of duration T now (event.Features frame) = answer_or_done (option_map (λ d. answer.Names (map (is_allowed T d) all_features)) (document_in T frame))
answer_of duration T now (event.UseCall frame call) = answer_or_done (option_and_then (λ d. option_map (λ c. answer_of_verdict (verdict_of duration T now d c)) (call_named call)) (document_in T frame))
answer_of duration T now (event.Query frame feature) = answer_or_done (option_and_then (λ d. option_map (λ f. answer.StatusMade (length T + 1) (permission_state T now d f)) (feature_named feature)) (document_in T frame))
answer_of duration T now (event.DropStatus status) = answer.Done
answer_of duration T now (event.Request frame feature) = answer_or_done (option_map (λ s. answer_of_request s (length T + 1) (prompt_to_join T frame feature)) (state_found T now frame feature))
answer_of duration T now (event.Answered prompt out given) = answer.Settled (length (waiting T prompt)) (state_replied out)
answer_of duration T now (event.SetState feature first second state span) = answer.Done
answer_of duration T now (event.Post sender target named capability) = answer_or_done (option_map (λ d. answer_of_post (length T + 1) (post_reason duration T now d named capability)) (document_in T sender))
answer_of duration T now (event.Deliver m) = answer_or_done (option_map (answer_of_delivery T) (message T m))
answer_of duration T now event.Tick = answer.Done

-- the verdict of the use of a call by name
unfoldable pub verdict_replied : ℕ → RepliedHistory → ℕ → ℕ → List ℕ → Option Verdict
verdict_replied duration T now frame call = option_and_then (λ d. option_map (verdict_of duration T now d) (call_named call)) (document_in T frame)

-- what is told of an accepted event: the verdict of a use, the answer of any other
abbrev pub step_answer : ℕ → RepliedHistory → ℕ → Event → StepAnswer
step_answer duration T now (event.UseCall frame call) = unwrap_or (option_map Judged (verdict_replied duration T now frame call)) (Replied answer.Done)
step_answer duration T now e = Replied (answer_of duration T now e)

-- a history with what is told of each event
unfoldable pub replied : ℕ → History → RepliedHistory
replied duration [] = []
replied duration (e ∷ H) = let T = replied duration H in record { time = e.time; event = e.event; item = step_answer duration T e.time e.event } ∷ T

-- a refusal, or the answer
abbrev pub answer_or_refusal : Option Cause → Answer → Answer
answer_or_refusal None a = a
answer_or_refusal (Some why) a = answer.Refused why

-- the reply to an event at a time, after these steps: the first cause that applies, else the answer
unfoldable pub reply_in : ℕ → RepliedHistory → ℕ → Event → Answer
reply_in duration T now e = let a = answer_of duration T now e in answer_or_refusal (cause_of T now e) a

-- the event is accepted after these steps
unfoldable pub accepts_in : RepliedHistory → Timed → Bool
accepts_in T e = is_none (cause_of T e.time e.event)

-- the reply to an event, after a history
unfoldable pub reply : ℕ → History → Timed → Answer
reply duration H e = reply_in duration (replied duration H) e.time e.event

-- the event is accepted after a history
unfoldable pub accepts : ℕ → History → Timed → Bool
accepts duration H e = accepts_in (replied duration H) e

-- each event is accepted after those before it
unfoldable pub is_regular : ℕ → History → Bool
is_regular duration [] = true
is_regular duration (e ∷ H) = is_regular duration H && accepts duration H e
