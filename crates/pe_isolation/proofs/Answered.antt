-- Where histories agree for a page, each event that is not muted is answered the same, but for a question for the user activation of another page.
use Rattle.std.proofs.Common.{◌≡◌, ℕ, ◌+◌, Bool, true, false, not, ◌&&◌, ◌==◌, nat_lt, cond, List, length, map, Option, Some, None, is_none, unwrap_or, option_map, option_and_then, refl, sym, ◌∙◌, ap}
use Rattle.std.specs.Option.{option_or}
use Rattle.pe_base.specs.Activation.{triggers, is_sticky, is_transient, is_history_active}
use Rattle.pe_features.specs.declared.call.Call.{Call}
use Rattle.pe_features.specs.declared.call.Gate.{Gate}
use Rattle.pe_features.specs.declared.capability.Capability.{Capability}
use Rattle.pe_features.specs.Calls.{call_named, gate_of}
use Rattle.pe_features.specs.Capabilities.{capability_named, feature_of}
use Rattle.pe_features.specs.Features.{all_features, feature_named}
use Rattle.pe_origin.specs.Origins.{is_same_origin}
use Rattle.pe_events.specs.declared.answer.Answer.TheVariants as answer
use Rattle.pe_events.specs.declared.event.Event.{Event}
use Rattle.pe_events.specs.declared.event.Event.TheVariants as event
use Rattle.pe_events.specs.declared.reason.Reason.TheVariants as reason
use Rattle.pe_rules.specs.History.{Replied, Judged, RepliedHistory, some_if}
use Rattle.pe_rules.specs.Embedders.{page, page_of_frame}
use Rattle.pe_rules.specs.Current.{is_current, document_in}
use Rattle.pe_rules.specs.Activation.{has_sticky, has_transient}
use Rattle.pe_rules.specs.HistoryActivation.{has_history_activation}
use Rattle.pe_rules.specs.Delegation.{Message, message, has_delegated}
use Rattle.pe_rules.specs.Verdicts.{reason_of_state, permission_reason, is_met_by_delegated, activation_reason, reason_denied, met_by, verdict_by, verdict_of}
use Rattle.pe_rules.specs.Replies.{answer_of_denial, answer_of_verdict, answer_of_history_action, answer_of_request, state_replied, post_reason, answer_of_post, answer_of_delivery, answer_or_done, new_origin, answer_of, verdict_replied, step_answer}
use Rattle.pe_rules.specs.Muting.{is_other_page, is_foreign}
use Rattle.pe_laws.specs.HistoryLaws.{HistoryLaws}
use Rattle.pe_isolation.specs.PageEvents.{asks_elsewhere}
use Rattle.pe_isolation.proofs.Alike.{Alike, same, length-alike}
use Rattle.pe_isolation.proofs.Shown.{current-alike, document-in-alike}
use Rattle.pe_isolation.proofs.Policies.{origin-alike, secure-alike, why-alike, allowed-alike, count-alike}
use Rattle.pe_isolation.proofs.Stored.{state-alike}
use Rattle.pe_isolation.proofs.Prompted.{waiting-alike}
use Rattle.pe_isolation.proofs.Listed.{found-alike, join-alike}
use Rattle.pe_isolation.proofs.Pages.{then-same, map-same, shown-last, shown-page, this-page}
use Rattle.pe_isolation.proofs.Beside.{is_own}
use Rattle.pe_isolation.proofs.Agreeing.{Agrees, own-alike}

-- ---- answers that are the same for every page

new-origin-alike : {T U : RepliedHistory} → Alike T U → (now : ℕ) (e : Event) → new_origin T now e ≡ new_origin U now e
unfolding new_origin
new-origin-alike r now e = λ i. origin-alike (same (record { time = now; event = e; item = Replied answer.Done }) r) (length-alike r i + 1) i

delivery-alike : {T U : RepliedHistory} → Alike T U → (m : Message) → answer_of_delivery T m ≡ answer_of_delivery U m
unfolding answer_of_delivery
delivery-alike r m = λ i.
    cond (not (current-alike r m.target i)) answer.DroppedGone
    (cond (unwrap_or (option_map (is_same_origin (origin-alike r m.target i)) m.origin) false) answer.Delivered answer.DroppedOther)

-- ---- messages of the page

-- a message is one of the page, where its delivery is not muted
pub own-delivery : (top : ℕ) (o : Option Message) → is_other_page (option_map (λ x. x.page) o) top ≡ false → is_own top o ≡ true
own-delivery top None h = cc
own-delivery top (Some x) h = by_test (x.page == top) h
  where
    by_test : (b : Bool) → not b ≡ false → b ≡ true
    by_test true h = refl
    by_test false h = cc

module _ (laws : HistoryLaws) (duration top now : ℕ) {T U : RepliedHistory} (a : Agrees top T U) where
  -- ---- documents of the page

  sticky-own : (d : ℕ) → page T d ≡ top → has_sticky T d ≡ has_sticky U d
  sticky-own d h = laws.activation.sticky_by_stamp T d ∙ ap is_sticky (a.first d h) ∙ sym (laws.activation.sticky_by_stamp U d)

  transient-own : (d : ℕ) → page T d ≡ top → has_transient duration T now d ≡ has_transient duration U now d
  transient-own d h = laws.activation.transient_by_stamp duration T now d ∙ ap (is_transient duration now) (a.first d h) ∙ sym (laws.activation.transient_by_stamp duration U now d)

  history-own : (d : ℕ) → page T d ≡ top → has_history_activation T d ≡ has_history_activation U d
  history-own d h = laws.history_activation.active_by_stamps T d ∙ (λ i. is_history_active (a.first d h i) (a.second d h i)) ∙ sym (laws.history_activation.active_by_stamps U d)

  delegated-own : (d : ℕ) → is_current T d ≡ true → page T d ≡ top → (capability : Capability) → has_delegated duration T now d capability ≡ has_delegated duration U now d capability
  delegated-own d current h capability =
      laws.delegation.has_delegated_is duration T now d capability
      ∙ ap (λ o. unwrap_or (option_map (λ time. nat_lt now (time + duration)) o) false) (a.delegated d capability current h)
      ∙ sym (laws.delegation.has_delegated_is duration U now d capability)

  permission-alike : (d : ℕ) (gate : Gate) → permission_reason T now d gate ≡ permission_reason U now d gate
  unfolding permission_reason
  permission-alike d gate = λ i. option_and_then (λ f. cond gate.permission (reason_of_state (state-alike a.alike now d f i)) None) gate.feature

  met-own : (d : ℕ) → is_current T d ≡ true → page T d ≡ top → (gate : Gate) → is_met_by_delegated duration T now d gate ≡ is_met_by_delegated duration U now d gate
  unfolding is_met_by_delegated
  met-own d current h gate = λ i. unwrap_or (option_map (λ c. delegated-own d current h c i) gate.capability) false

  reason-own : (d : ℕ) → is_current T d ≡ true → page T d ≡ top → (gate : Gate) → reason_denied duration T now d gate ≡ reason_denied duration U now d gate
  unfolding reason_denied
  reason-own d current h gate = λ i.
      option_or (some_if (gate.secure && not (secure-alike a.alike d i)) reason.Insecure)
      (option_or (option_map reason.Policy (option_and_then (λ f. why-alike a.alike f d i) gate.feature))
      (option_or (permission-alike d gate i)
      (activation_reason gate.need (sticky-own d h i) (transient-own d h i) (met-own d current h gate i))))

  verdict-own : (d : ℕ) → is_current T d ≡ true → page T d ≡ top → (call : Call) → verdict_of duration T now d call ≡ verdict_of duration U now d call
  unfolding verdict_of
  verdict-own d current h call = λ i. verdict_by (reason-own d current h (gate_of call) i) (met_by (gate_of call).need (transient-own d h i))

  post-own : (d : ℕ) → page T d ≡ top → (named : Option (List ℕ)) (capability : List ℕ) → post_reason duration T now d named capability ≡ post_reason duration U now d named capability
  unfolding post_reason
  post-own d h named capability = λ i.
      option_or (some_if (is_none named) reason.TargetAny)
      (option_or (option_map reason.Policy (option_and_then (λ c. why-alike a.alike (feature_of c) d i) (capability_named capability)))
      (some_if (not (transient-own d h i)) reason.NoTransient))

  -- ---- frames of the page

  -- what is asked of the document of a frame of the page
  of-shown : {A : Type 0} (frame : ℕ) (f g : ℕ → Option A) → is_other_page (page_of_frame T frame) top ≡ false → ((d : ℕ) → is_current T d ≡ true → page T d ≡ top → f d ≡ g d)
      → option_and_then f (document_in T frame) ≡ option_and_then g (document_in U frame)
  of-shown frame f g h one =
      then-same f g (document_in T frame) (λ d is. one d (shown-last T frame d is).1 (this-page (page T d) (page_of_frame T frame) top (shown-page T frame d is) h))
      ∙ ap (option_and_then g) (document-in-alike a.alike frame)

  of-shown-map : {A : Type 0} (frame : ℕ) (f g : ℕ → A) → is_other_page (page_of_frame T frame) top ≡ false → ((d : ℕ) → is_current T d ≡ true → page T d ≡ top → f d ≡ g d)
      → option_map f (document_in T frame) ≡ option_map g (document_in U frame)
  of-shown-map frame f g h one =
      map-same f g (document_in T frame) (λ d is. one d (shown-last T frame d is).1 (this-page (page T d) (page_of_frame T frame) top (shown-page T frame d is) h))
      ∙ ap (option_map g) (document-in-alike a.alike frame)

  -- ---- answers

  pub answer-own : (e : Event) → is_foreign T top e ≡ false → asks_elsewhere T top e ≡ false → answer_of duration T now e ≡ answer_of duration U now e
  unfolding is_foreign asks_elsewhere answer_of
  answer-own (event.OpenPage url header) mine asked = λ i. answer.FrameMade (length-alike a.alike i + 1) (length-alike a.alike i + 1) (new-origin-alike a.alike now (event.OpenPage url header) i)
  answer-own (event.Embed parent src place allow sandbox fullscreen srcdoc header) mine asked = λ i.
      answer.FrameMade (length-alike a.alike i + 1) (length-alike a.alike i + 1) (new-origin-alike a.alike now (event.Embed parent src place allow sandbox fullscreen srcdoc header) i)
  answer-own (event.Navigate frame url header) mine asked = λ i. answer.DocMade (length-alike a.alike i + 1) (new-origin-alike a.alike now (event.Navigate frame url header) i)
  answer-own (event.Attr frame name value) mine asked = refl
  answer-own (event.Close frame) mine asked = refl
  answer-own (event.Input frame kind) mine asked = λ i. cond (triggers kind) (answer.Activated (count-alike a.alike (event.Input frame kind) i)) answer.Ignored
  answer-own (event.Ask frame) mine asked =
      ap answer_or_done (of-shown-map frame (λ d. answer.Activity (has_sticky T d) (has_transient duration T now d)) (λ d. answer.Activity (has_sticky U d) (has_transient duration U now d)) asked
      (λ d current h i. answer.Activity (sticky-own d h i) (transient-own d h i)))
  answer-own (event.History frame) mine asked =
      ap answer_or_done (of-shown-map frame (λ d. answer_of_history_action (has_history_activation T d)) (λ d. answer_of_history_action (has_history_activation U d)) mine (λ d current h i. answer_of_history_action (history-own d h i)))
  answer-own (event.PolicyOf frame feature) mine asked = λ i. answer_or_done (option_and_then (λ d. option_map (λ f. answer_of_denial (why-alike a.alike f d i)) (feature_named feature)) (document-in-alike a.alike frame i))
  answer-own (event.Features frame) mine asked = λ i. answer_or_done (option_map (λ d. answer.Names (map (λ f. allowed-alike a.alike d f i) all_features)) (document-in-alike a.alike frame i))
  answer-own (event.UseCall frame call) mine asked =
      ap answer_or_done (of-shown frame (λ d. option_map (λ c. answer_of_verdict (verdict_of duration T now d c)) (call_named call)) (λ d. option_map (λ c. answer_of_verdict (verdict_of duration U now d c)) (call_named call)) mine
      (λ d current h i. option_map (λ c. answer_of_verdict (verdict-own d current h c i)) (call_named call)))
  answer-own (event.Query frame feature) mine asked = λ i.
      answer_or_done (option_and_then (λ d. option_map (λ f. answer.StatusMade (length-alike a.alike i + 1) (state-alike a.alike now d f i)) (feature_named feature)) (document-in-alike a.alike frame i))
  answer-own (event.DropStatus status) mine asked = refl
  answer-own (event.Request frame feature) mine asked = λ i.
      answer_or_done (option_map (λ s. answer_of_request s (length-alike a.alike i + 1) (join-alike a.alike frame feature i)) (found-alike a.alike now frame feature i))
  answer-own (event.Answered prompt out given) mine asked = λ i. answer.Settled (length (waiting-alike a.alike prompt i)) (state_replied out)
  answer-own (event.SetState feature first second state span) mine asked = refl
  answer-own (event.Post sender target named capability) mine asked =
      ap answer_or_done (of-shown-map sender (λ d. answer_of_post (length T + 1) (post_reason duration T now d named capability)) (λ d. answer_of_post (length U + 1) (post_reason duration U now d named capability)) mine
      (λ d current h i. answer_of_post (length-alike a.alike i + 1) (post-own d h named capability i)))
  answer-own (event.Deliver m) mine asked =
      ap (λ o. answer_or_done (option_map (answer_of_delivery T) o)) (own-alike top (message T m) (message U m) (a.message m) (own-delivery top (message T m) mine))
      ∙ (λ i. answer_or_done (option_map (λ x. delivery-alike a.alike x i) (message U m)))
  answer-own event.Tick mine asked = refl

  verdict-replied-own : (frame : ℕ) (call : List ℕ) → is_other_page (page_of_frame T frame) top ≡ false → verdict_replied duration T now frame call ≡ verdict_replied duration U now frame call
  unfolding verdict_replied
  verdict-replied-own frame call mine =
      of-shown frame (λ d. option_map (verdict_of duration T now d) (call_named call)) (λ d. option_map (verdict_of duration U now d) (call_named call)) mine
      (λ d current h i. option_map (λ c. verdict-own d current h c i) (call_named call))

  pub step-answer-own : (e : Event) → is_foreign T top e ≡ false → asks_elsewhere T top e ≡ false → step_answer duration T now e ≡ step_answer duration U now e
  unfolding is_foreign
  step-answer-own (event.UseCall frame call) mine asked = ap (λ o. unwrap_or (option_map Judged o) (Replied answer.Done)) (verdict-replied-own frame call mine)
  step-answer-own e mine asked = ap Replied (answer-own e mine asked)
