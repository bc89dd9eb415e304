-- Where histories agree for a page, each event that is not muted has the same cause to be refused; and the tick for one that is muted has none.
use Rattle.std.proofs.Common.{◌≡◌, ℕ, Bool, true, false, not, ◌&&◌, ◌||◌, ◌==◌, nat_lt, nat_le, List, [], ◌∷◌, length, Option, Some, None, is_none, unwrap_or, option_map, option_and_then, refl, sym, ◌∙◌, ap}
use Rattle.std.specs.List.{list_any}
use Rattle.pe_base.specs.declared.limits.TheConstants.{EVENT_LIMIT, PAGE_LIMIT, DEPTH_LIMIT, FRAME_LIMIT, STATUS_LIMIT, PENDING_LIMIT, MESSAGE_LIMIT}
use Rattle.pe_events.specs.declared.cause.Cause.{Cause}
use Rattle.pe_events.specs.declared.cause.Cause.TheVariants as cause
use Rattle.pe_events.specs.declared.event.Event.{Event}
use Rattle.pe_events.specs.declared.event.Event.TheVariants as event
use Rattle.pe_rules.specs.History.{RepliedHistory, some_if, clock}
use Rattle.pe_rules.specs.Numbering.{is_frame, is_message}
use Rattle.pe_rules.specs.Embedders.{page_of_frame}
use Rattle.pe_rules.specs.Delegation.{message, is_message_settled, waiting_messages}
use Rattle.pe_rules.specs.Settings.{setting_named, setting_by}
use Rattle.pe_rules.specs.Causes.{live_frames, page_statuses, frames_named, names_unknown_object, names_unknown, names_settled, names_closed_object, names_closed, names_not_shown, has_bad_url, has_bad_feature, has_bad_call, has_bad_capability, is_same_number, names_other_page, count_in_page, is_prompt_state, exceeds_pages, exceeds_depth, exceeds_frames, exceeds_statuses, exceeds_pending, exceeds_store, first_some, cause_of}
use Rattle.pe_rules.specs.Muting.{is_other_page, is_foreign}
use Rattle.pe_laws.specs.HistoryLaws.{HistoryLaws}
use Rattle.pe_laws.specs.CausesLaws.{IsFaultless}
use Rattle.pe_isolation.proofs.Alike.{Alike, length-alike, clock-alike}
use Rattle.pe_isolation.proofs.Made.{is-frame-alike, is-status-alike, is-prompt-alike, page-of-frame-alike, depth-alike}
use Rattle.pe_isolation.proofs.Shown.{live-alike}
use Rattle.pe_isolation.proofs.Stored.{prompt-page-alike}
use Rattle.pe_isolation.proofs.Prompted.{settled-alike, waiting-alike, pending-alike, shown-prompt-alike}
use Rattle.pe_isolation.proofs.Listed.{statuses-alike, live-pages-alike, live-frames-alike, page-statuses-alike, found-alike, join-alike, exceeds-store-alike}
use Rattle.pe_rules.specs.Prompts.{pending}
use Rattle.pe_isolation.proofs.Pages.{this-page}
use Rattle.pe_isolation.proofs.Beside.{is_own}
use Rattle.pe_isolation.proofs.Agreeing.{Agrees, own-test-alike}
use Rattle.pe_isolation.proofs.Answered.{own-delivery}

count-in-alike : {T U : RepliedHistory} → Alike T U → (f : ℕ) (things others : ℕ → List ℕ) → ((top : ℕ) → things top ≡ others top) → count_in_page T f things ≡ count_in_page U f others
count-in-alike r f things others one = λ i. unwrap_or (option_map (λ top. length (one top i)) (page-of-frame-alike r f i)) 0

-- ---- tests that read no message

frames-known : {T U : RepliedHistory} → Alike T U → (e : Event) → list_any (λ f. not (is_frame T f)) (frames_named e) ≡ list_any (λ f. not (is_frame U f)) (frames_named e)
frames-known r e = λ i. list_any (λ f. not (is-frame-alike r f i)) (frames_named e)

closed-object : {T U : RepliedHistory} → Alike T U → (e : Event) → names_closed_object T e ≡ names_closed_object U e
closed-object r (event.DropStatus status) = λ i. not (list_any (λ x. x.number == status) (statuses-alike r i))
closed-object r (event.Answered prompt out given) = λ i. length (waiting-alike r prompt i) == 0
closed-object r e = refl

closed-alike : {T U : RepliedHistory} → Alike T U → (e : Event) → names_closed T e ≡ names_closed U e
unfolding names_closed
closed-alike r e = λ i. list_any (λ f. not (live-alike r f i)) (frames_named e) || closed-object r e i

not-shown-alike : {T U : RepliedHistory} → Alike T U → (e : Event) → names_not_shown T e ≡ names_not_shown U e
unfolding names_not_shown
not-shown-alike r (event.Answered prompt out given) = λ i. not (unwrap_or (option_map (λ k. k == prompt) (option_and_then (λ top. shown-prompt-alike r top i) (prompt-page-alike r prompt i))) false)
not-shown-alike r e = refl

other-page-alike : {T U : RepliedHistory} → Alike T U → (e : Event) → names_other_page T e ≡ names_other_page U e
unfolding names_other_page
other-page-alike r (event.Post sender target named capability) = λ i. not (is_same_number (page-of-frame-alike r sender i) (page-of-frame-alike r target i))
other-page-alike r e = refl

pages-alike : {T U : RepliedHistory} → Alike T U → (e : Event) → exceeds_pages T e ≡ exceeds_pages U e
unfolding exceeds_pages
pages-alike r (event.OpenPage url header) = λ i. nat_le PAGE_LIMIT (length (live-pages-alike r i))
pages-alike r e = refl

exceeds-depth-alike : {T U : RepliedHistory} → Alike T U → (e : Event) → exceeds_depth T e ≡ exceeds_depth U e
unfolding exceeds_depth
exceeds-depth-alike r (event.Embed parent src place allow sandbox fullscreen srcdoc header) = λ i. nat_le DEPTH_LIMIT (depth-alike r parent i)
exceeds-depth-alike r e = refl

frames-alike : {T U : RepliedHistory} → Alike T U → (e : Event) → exceeds_frames T e ≡ exceeds_frames U e
unfolding exceeds_frames
frames-alike {T} {U} r (event.Embed parent src place allow sandbox fullscreen srcdoc header) = ap (nat_le FRAME_LIMIT) (count-in-alike r parent (live_frames T) (live_frames U) (live-frames-alike r))
frames-alike r e = refl

exceeds-statuses-alike : {T U : RepliedHistory} → Alike T U → (e : Event) → exceeds_statuses T e ≡ exceeds_statuses U e
unfolding exceeds_statuses
exceeds-statuses-alike {T} {U} r (event.Query frame feature) = ap (nat_le STATUS_LIMIT) (count-in-alike r frame (page_statuses T) (page_statuses U) (page-statuses-alike r))
exceeds-statuses-alike r e = refl

-- ---- tests that read messages, of events that are not muted

module _ (top : ℕ) {T U : RepliedHistory} (a : Agrees top T U) where
  -- of a message of the page one test says the same in both, where it does with the test of the page before it
  beside-own : (m : ℕ) (b c : Bool) → is_other_page (option_map (λ x. x.page) (message T m)) top ≡ false → (is_own top (message T m) && b) ≡ (is_own top (message U m) && c) → b ≡ c
  beside-own m b c mine one =
      let passes : is_own top (message T m) ≡ true = own-delivery top (message T m) mine in
      ap (λ x. x && b) (sym passes) ∙ one ∙ ap (λ x. x && c) (sym (own-test-alike top (message T m) (message U m) (a.message m)) ∙ passes)

  unknown-object : (e : Event) → is_foreign T top e ≡ false → names_unknown_object T e ≡ names_unknown_object U e
  unfolding is_foreign
  unknown-object (event.DropStatus status) mine = ap not (is-status-alike a.alike status)
  unknown-object (event.Answered prompt out given) mine = ap not (is-prompt-alike a.alike prompt)
  unknown-object (event.Deliver m) mine = ap not (beside-own m (is_message T m) (is_message U m) mine (a.made m))
  unknown-object e mine = refl

  unknown-own : (e : Event) → is_foreign T top e ≡ false → names_unknown T e ≡ names_unknown U e
  unfolding names_unknown
  unknown-own e mine = λ i. frames-known a.alike e i || unknown-object e mine i

  settled-own : (e : Event) → is_foreign T top e ≡ false → names_settled T e ≡ names_settled U e
  unfolding is_foreign names_settled
  settled-own (event.Answered prompt out given) mine = settled-alike a.alike prompt
  settled-own (event.Deliver m) mine = beside-own m (is_message_settled T m) (is_message_settled U m) mine (a.settled m)
  settled-own e mine = refl

  -- a post counts the messages of its own page
  count-own : (frame : ℕ) → is_other_page (page_of_frame T frame) top ≡ false → count_in_page T frame (waiting_messages T) ≡ count_in_page U frame (waiting_messages U)
  count-own frame mine = by_page (page_of_frame T frame) mine ∙ ap (λ o. unwrap_or (option_map (λ p. length (waiting_messages U p)) o) 0) (page-of-frame-alike a.alike frame)
    where
      by_page : (o : Option ℕ) → is_other_page o top ≡ false → unwrap_or (option_map (λ p. length (waiting_messages T p)) o) 0 ≡ unwrap_or (option_map (λ p. length (waiting_messages U p)) o) 0
      by_page None h = refl
      by_page (Some p) h =
          let here : p ≡ top = this-page p (Some p) top refl h in
          ap (λ q. length (waiting_messages T q)) here ∙ ap length a.waiting ∙ ap (λ q. length (waiting_messages U q)) (sym here)

  pending-own : (now : ℕ) (e : Event) → is_foreign T top e ≡ false → exceeds_pending T now e ≡ exceeds_pending U now e
  unfolding is_foreign exceeds_pending
  pending-own now (event.Request frame feature) mine = λ i.
      is_prompt_state (found-alike a.alike now frame feature i) && is_none (join-alike a.alike frame feature i)
      && nat_le PENDING_LIMIT (count-in-alike a.alike frame (pending T) (pending U) (pending-alike a.alike) i)
  pending-own now (event.Post sender target named capability) mine = ap (nat_le MESSAGE_LIMIT) (count-own sender mine)
  pending-own now e mine = refl

  pub cause-own : (now : ℕ) (e : Event) → is_foreign T top e ≡ false → cause_of T now e ≡ cause_of U now e
  unfolding cause_of
  cause-own now e mine = λ i. first_some (λ (x : Cause × Bool). some_if x.1 x.0) (
      (cause.LimitEvents, nat_le EVENT_LIMIT (length-alike a.alike i))
      ∷ (cause.TimeBack, nat_lt now (clock-alike a.alike i))
      ∷ (cause.Unknown, unknown-own e mine i)
      ∷ (cause.Settled, settled-own e mine i)
      ∷ (cause.Closed, closed-alike a.alike e i)
      ∷ (cause.NotShown, not-shown-alike a.alike e i)
      ∷ (cause.Url, has_bad_url e)
      ∷ (cause.Feature, has_bad_feature e)
      ∷ (cause.Call, has_bad_call e)
      ∷ (cause.Capability, has_bad_capability e)
      ∷ (cause.OtherPage, other-page-alike a.alike e i)
      ∷ (cause.LimitPages, pages-alike a.alike e i)
      ∷ (cause.LimitDepth, exceeds-depth-alike a.alike e i)
      ∷ (cause.LimitFrames, frames-alike a.alike e i)
      ∷ (cause.LimitStatuses, exceeds-statuses-alike a.alike e i)
      ∷ (cause.LimitPending, pending-own now e mine i)
      ∷ (cause.LimitStore, exceeds-store-alike a.alike now e i)
      ∷ [])

-- ---- ticks

-- a tick is accepted where there is room for an event, and time does not go back
pub tick-faultless : (T : RepliedHistory) (now : ℕ) → nat_le EVENT_LIMIT (length T) ≡ false → nat_lt now (clock T) ≡ false → cause_of T now event.Tick ≡ None
unfolding cause_of names_unknown names_settled names_closed names_not_shown has_bad_url has_bad_feature has_bad_call has_bad_capability names_other_page exceeds_pages exceeds_depth exceeds_frames exceeds_statuses exceeds_pending exceeds_store setting_by setting_named
tick-faultless T now few in_time = rw (few, in_time) refl

-- so it is after a history that is alike, where any event was accepted at its time
pub tick-accepted : (laws : HistoryLaws) {T U : RepliedHistory} → Alike T U → (now : ℕ) (e : Event) → cause_of T now e ≡ None → cause_of U now event.Tick ≡ None
tick-accepted laws {T} {U} r now e ok =
    let faultless : IsFaultless T now e = laws.causes.accepted T now e ok in
    tick-faultless U now (ap (nat_le EVENT_LIMIT) (sym (length-alike r)) ∙ faultless.few) (ap (nat_lt now) (sym (clock-alike r)) ∙ faultless.in_time)
