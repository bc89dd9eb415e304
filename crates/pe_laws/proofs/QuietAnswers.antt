-- What is told of an event that is neither a request nor a post tells no prompt and makes no message.
use Rattle.std.proofs.Common.{◌≡◌, ℕ, ◌+◌, Bool, true, false, not, length, Option, Some, None, unwrap_or, option_map, option_and_then, refl, cond}
use Rattle.pe_base.specs.Activation.{triggers}
use Rattle.pe_base.specs.declared.denial.Denial.{Denial}
use Rattle.pe_features.specs.Features.{feature_named}
use Rattle.pe_origin.specs.Origins.{is_same_origin}
use Rattle.pe_events.specs.declared.answer.Answer.{Answer}
use Rattle.pe_events.specs.declared.answer.Answer.TheVariants as answer
use Rattle.pe_events.specs.declared.event.Event.{Event}
use Rattle.pe_events.specs.declared.event.Event.TheVariants as event
use Rattle.pe_events.specs.declared.reason.Verdict.{Verdict}
use Rattle.pe_rules.specs.History.{StepAnswer, Replied, Judged, RepliedHistory}
use Rattle.pe_rules.specs.Numbering.{makes_message}
use Rattle.pe_rules.specs.Current.{is_current, document_in}
use Rattle.pe_rules.specs.Origins.{origin_of}
use Rattle.pe_rules.specs.Denials.{why_denied}
use Rattle.pe_rules.specs.Activation.{activated_count}
use Rattle.pe_rules.specs.HistoryActivation.{has_history_activation}
use Rattle.pe_rules.specs.PermissionState.{permission_state}
use Rattle.pe_rules.specs.Prompts.{prompt_replied}
use Rattle.pe_rules.specs.Delegation.{Message, message}
use Rattle.pe_rules.specs.Replies.{answer_of_denial, answer_of_history_action, answer_of_delivery, answer_or_done, answer_of, verdict_replied, step_answer}

-- it tells no prompt and makes no message
abbrev pub IsQuiet : StepAnswer → Type 0
IsQuiet i = (prompt_replied i ≡ None) × (makes_message i ≡ false)

-- the event is a request or a post
abbrev pub is_asking : Event → Bool
is_asking (event.Request frame feature) = true
is_asking (event.Post sender target named capability) = true
is_asking e = false

quiet-map : {A : Type 0} (give : A → Answer) (o : Option A) → ((x : A) → IsQuiet (Replied (give x))) → IsQuiet (Replied (answer_or_done (option_map give o)))
quiet-map give None quiet = (refl, refl)
quiet-map give (Some x) quiet = quiet x

quiet-then : {A : Type 0} (give : A → Option Answer) (o : Option A) → ((x : A) → IsQuiet (Replied (answer_or_done (give x)))) → IsQuiet (Replied (answer_or_done (option_and_then give o)))
quiet-then give None quiet = (refl, refl)
quiet-then give (Some x) quiet = quiet x

quiet-denial : (o : Option Denial) → IsQuiet (Replied (answer_of_denial o))
quiet-denial None = (refl, refl)
quiet-denial (Some denial) = (refl, refl)

quiet-history : (b : Bool) → IsQuiet (Replied (answer_of_history_action b))
quiet-history true = (refl, refl)
quiet-history false = (refl, refl)

quiet-delivery : (T : RepliedHistory) (m : Message) → IsQuiet (Replied (answer_of_delivery T m))
unfolding answer_of_delivery
quiet-delivery T m = by_tests (is_current T m.target) (unwrap_or (option_map (is_same_origin (origin_of T m.target)) m.origin) false)
  where
    by_tests : (a b : Bool) → IsQuiet (Replied (cond (not a) answer.DroppedGone (cond b answer.Delivered answer.DroppedOther)))
    by_tests false b = (refl, refl)
    by_tests true true = (refl, refl)
    by_tests true false = (refl, refl)

quiet-use : (o : Option Verdict) → IsQuiet (unwrap_or (option_map Judged o) (Replied answer.Done))
quiet-use None = (refl, refl)
quiet-use (Some verdict) = (refl, refl)

quiet-input : (b : Bool) (n : ℕ) → IsQuiet (Replied (cond b (answer.Activated n) answer.Ignored))
quiet-input true n = (refl, refl)
quiet-input false n = (refl, refl)

pub told-quiet : (duration : ℕ) (T : RepliedHistory) (now : ℕ) (e : Event) → is_asking e ≡ false → IsQuiet (step_answer duration T now e)
unfolding answer_of
told-quiet duration T now (event.OpenPage url header) h = (refl, refl)
told-quiet duration T now (event.Embed parent src place allow sandbox fullscreen srcdoc header) h = (refl, refl)
told-quiet duration T now (event.Navigate frame url header) h = (refl, refl)
told-quiet duration T now (event.Attr frame name value) h = (refl, refl)
told-quiet duration T now (event.Close frame) h = (refl, refl)
told-quiet duration T now (event.Input frame kind) h = quiet-input (triggers kind) (activated_count (event.Input frame kind) T)
told-quiet duration T now (event.Ask frame) h = quiet-map _ (document_in T frame) (λ d. (refl, refl))
told-quiet duration T now (event.History frame) h = quiet-map _ (document_in T frame) (λ d. quiet-history (has_history_activation T d))
told-quiet duration T now (event.PolicyOf frame feature) h = quiet-then _ (document_in T frame) (λ d. quiet-map (λ f. answer_of_denial (why_denied T f d)) (feature_named feature) (λ f. quiet-denial (why_denied T f d)))
told-quiet duration T now (event.Features frame) h = quiet-map _ (document_in T frame) (λ d. (refl, refl))
told-quiet duration T now (event.UseCall frame call) h = quiet-use (verdict_replied duration T now frame call)
told-quiet duration T now (event.Query frame feature) h = quiet-then _ (document_in T frame) (λ d. quiet-map (λ f. answer.StatusMade (length T + 1) (permission_state T now d f)) (feature_named feature) (λ f. (refl, refl)))
told-quiet duration T now (event.DropStatus status) h = (refl, refl)
told-quiet duration T now (event.Request frame feature) h = cc
told-quiet duration T now (event.Answered prompt out given) h = (refl, refl)
told-quiet duration T now (event.SetState feature first second state span) h = (refl, refl)
told-quiet duration T now (event.Post sender target named capability) h = cc
told-quiet duration T now (event.Deliver m) h = quiet-map _ (message T m) (λ x. quiet-delivery T x)
told-quiet duration T now event.Tick h = (refl, refl)
