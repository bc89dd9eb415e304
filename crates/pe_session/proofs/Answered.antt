-- What an accepted event is answered is no refusal.
use Rattle.std.proofs.Common.{◌≡◌, ℕ, ◌+◌, Bool, true, false, not, map, length, Option, Some, None, option_map, option_and_then, unwrap_or, refl, cond}
use Rattle.pe_features.specs.Calls.{call_named}
use Rattle.pe_features.specs.Features.{all_features, feature_named}
use Rattle.pe_origin.specs.Origins.{is_same_origin}
use Rattle.pe_base.specs.Activation.{triggers}
use Rattle.pe_base.specs.declared.denial.Denial.{Denial}
use Rattle.pe_base.specs.declared.state.State.{State}
use Rattle.pe_base.specs.declared.state.State.TheVariants as state
use Rattle.pe_events.specs.declared.answer.Answer.{Answer}
use Rattle.pe_events.specs.declared.answer.Answer.TheVariants as answer
use Rattle.pe_events.specs.declared.event.Event.{Event}
use Rattle.pe_events.specs.declared.event.Event.TheVariants as event
use Rattle.pe_events.specs.declared.reason.Reason.{Reason}
use Rattle.pe_events.specs.declared.reason.Verdict.{Verdict}
use Rattle.pe_events.specs.declared.reason.Verdict.TheVariants as verdict
use Rattle.pe_rules.specs.History.{RepliedHistory}
use Rattle.pe_rules.specs.Current.{is_current, document_in}
use Rattle.pe_rules.specs.Origins.{origin_of}
use Rattle.pe_rules.specs.Denials.{why_denied, is_allowed}
use Rattle.pe_rules.specs.Activation.{activated_count, has_sticky, has_transient}
use Rattle.pe_rules.specs.HistoryActivation.{has_history_activation}
use Rattle.pe_rules.specs.PermissionState.{permission_state}
use Rattle.pe_rules.specs.Verdicts.{verdict_of}
use Rattle.pe_rules.specs.Causes.{state_found, prompt_to_join}
use Rattle.pe_rules.specs.Delegation.{Message, message}
use Rattle.pe_rules.specs.Replies.{answer_of_denial, answer_of_verdict, answer_of_history_action, answer_of_request, answer_of_post, post_reason, answer_of_delivery, answer_or_done, answer_of}
use Rattle.pe_session.specs.Judging.{is_refusal}

by-test : (b : Bool) (x y : Answer) → is_refusal x ≡ false → is_refusal y ≡ false → is_refusal (cond b x y) ≡ false
by-test true x y h k = h
by-test false x y h k = k

mapped : {A : Type 0} (f : A → Answer) (o : Option A) → ((x : A) → is_refusal (f x) ≡ false) → is_refusal (answer_or_done (option_map f o)) ≡ false
mapped f None h = refl
mapped f (Some x) h = h x

mapped-twice : {A B : Type 0} (f : A → B → Answer) (o : Option A) (p : Option B) → ((x : A) (y : B) → is_refusal (f x y) ≡ false) → is_refusal (answer_or_done (option_and_then (λ x. option_map (f x) p) o)) ≡ false
mapped-twice f None p h = refl
mapped-twice f (Some x) None h = refl
mapped-twice f (Some x) (Some y) h = h x y

denial : (o : Option Denial) → is_refusal (answer_of_denial o) ≡ false
denial None = refl
denial (Some d) = refl

judged : (v : Verdict) → is_refusal (answer_of_verdict v) ≡ false
judged (verdict.Allowed way) = refl
judged (verdict.Denied why) = refl

history-action : (b : Bool) → is_refusal (answer_of_history_action b) ≡ false
history-action true = refl
history-action false = refl

request : (s : State) (k : ℕ) (join : Option ℕ) → is_refusal (answer_of_request s k join) ≡ false
request state.Granted k join = refl
request state.Denied k join = refl
request state.Prompt k None = refl
request state.Prompt k (Some p) = refl

post : (k : ℕ) (o : Option Reason) → is_refusal (answer_of_post k o) ≡ false
post k None = refl
post k (Some why) = refl

delivery : (T : RepliedHistory) (m : Message) → is_refusal (answer_of_delivery T m) ≡ false
unfolding answer_of_delivery
delivery T m =
    let named = unwrap_or (option_map (is_same_origin (origin_of T m.target)) m.origin) false in
    by-test (not (is_current T m.target)) answer.DroppedGone (cond named answer.Delivered answer.DroppedOther) refl (by-test named answer.Delivered answer.DroppedOther refl refl)

pub not-refused : (duration : ℕ) (T : RepliedHistory) (now : ℕ) (e : Event) → is_refusal (answer_of duration T now e) ≡ false
unfolding answer_of
not-refused duration T now (event.OpenPage url header) = refl
not-refused duration T now (event.Embed parent src place allow sandbox fullscreen srcdoc header) = refl
not-refused duration T now (event.Navigate frame url header) = refl
not-refused duration T now (event.Attr frame name value) = refl
not-refused duration T now (event.Close frame) = refl
not-refused duration T now (event.Input frame kind) = by-test (triggers kind) (answer.Activated (activated_count (event.Input frame kind) T)) answer.Ignored refl refl
not-refused duration T now (event.Ask frame) = mapped (λ d. answer.Activity (has_sticky T d) (has_transient duration T now d)) (document_in T frame) (λ d. refl)
not-refused duration T now (event.History frame) = mapped (λ d. answer_of_history_action (has_history_activation T d)) (document_in T frame) (λ d. history-action (has_history_activation T d))
not-refused duration T now (event.PolicyOf frame feature) = mapped-twice (λ d f. answer_of_denial (why_denied T f d)) (document_in T frame) (feature_named feature) (λ d f. denial (why_denied T f d))
not-refused duration T now (event.Features frame) = mapped (λ d. answer.Names (map (is_allowed T d) all_features)) (document_in T frame) (λ d. refl)
not-refused duration T now (event.UseCall frame call) = mapped-twice (λ d c. answer_of_verdict (verdict_of duration T now d c)) (document_in T frame) (call_named call) (λ d c. judged (verdict_of duration T now d c))
not-refused duration T now (event.Query frame feature) = mapped-twice (λ d f. answer.StatusMade (length T + 1) (permission_state T now d f)) (document_in T frame) (feature_named feature) (λ d f. refl)
not-refused duration T now (event.DropStatus status) = refl
not-refused duration T now (event.Request frame feature) = mapped (λ s. answer_of_request s (length T + 1) (prompt_to_join T frame feature)) (state_found T now frame feature) (λ s. request s (length T + 1) (prompt_to_join T frame feature))
not-refused duration T now (event.Answered prompt out given) = refl
not-refused duration T now (event.SetState feature first second state span) = refl
not-refused duration T now (event.Post sender target named capability) = mapped (λ d. answer_of_post (length T + 1) (post_reason duration T now d named capability)) (document_in T sender) (λ d. post (length T + 1) (post_reason duration T now d named capability))
not-refused duration T now (event.Deliver m) = mapped (answer_of_delivery T) (message T m) (delivery T)
not-refused duration T now event.Tick = refl
