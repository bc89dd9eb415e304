-- A regular history agrees for each page with its muted one, which is regular too; and so pages are isolated.
use Rattle.std.proofs.Common.{◌≡◌, ℕ, suc, ◌-◌, Bool, true, false, not, ◌==◌, cond, IsTrue, List, [], ◌∷◌, ◌++◌, length, filter, flat_map, None, is_none, unwrap_or, option_map, option_to_list, refl, sym, ◌∙◌, ap, subst}
use Rattle.std.specs.List.{list_any}
use Rattle.pe_events.specs.Timed.{Timed}
use Rattle.pe_events.specs.declared.event.Event.{Event}
use Rattle.pe_events.specs.declared.event.Event.TheVariants as event
use Rattle.pe_rules.specs.History.{StepAnswer, RepliedHistory, History, some_if, all_answers}
use Rattle.pe_rules.specs.Numbering.{makes_prompt}
use Rattle.pe_rules.specs.Delegation.{message, is_delivery_of}
use Rattle.pe_rules.specs.Causes.{cause_of}
use Rattle.pe_rules.specs.Replies.{answer_or_refusal, answer_of, step_answer, replied, reply_in, accepts_in, accepts, is_regular}
use Rattle.pe_rules.specs.Changes.{change_of, numbers_above, change_at, changes_at, changes_before, change_between, changes_after}
use Rattle.pe_rules.specs.Muting.{is_foreign, muted_event, muted}
use Rattle.pe_laws.specs.HistoryLaws.{HistoryLaws}
use Rattle.pe_laws.specs.Effects.{effects}
use Rattle.pe_isolation.specs.PageEvents.{page_of_event, is_of_page, page_answers, asks_elsewhere, IsUnmuted}
use Rattle.pe_isolation.specs.IsolationLaws.{replied_muted}
use Rattle.pe_isolation.proofs.Alike.{is_quiet, Alike, start, length-alike, clock-alike}
use Rattle.pe_isolation.proofs.Made.{page-alike, page-of-frame-alike}
use Rattle.pe_isolation.proofs.Stored.{prompt-page-alike, state-alike}
use Rattle.pe_isolation.proofs.Listed.{status-at-alike, statuses-alike}
use Rattle.pe_isolation.proofs.Pages.{same-numbers}
use Rattle.pe_isolation.proofs.Posted.{accepted}
use Rattle.pe_isolation.proofs.Beside.{is_own, IsBeside, tick-beside, ask-beside, foreign-beside}
use Rattle.pe_isolation.proofs.Agreeing.{Agrees, own-alike}
use Rattle.pe_isolation.proofs.Going.{kept, beside}
use Rattle.pe_isolation.proofs.Answered.{own-delivery, answer-own, step-answer-own}
use Rattle.pe_isolation.proofs.Refused.{cause-own, tick-accepted}

-- ---- events that are muted, and events of the page

foreign-quiet : (T : RepliedHistory) (top : ℕ) (e : Event) → is_foreign T top e ≡ true → is_quiet e ≡ true
unfolding is_foreign
foreign-quiet T top (event.Input frame kind) h = refl
foreign-quiet T top (event.History frame) h = refl
foreign-quiet T top (event.UseCall frame call) h = refl
foreign-quiet T top (event.Post sender target named capability) h = refl
foreign-quiet T top (event.Deliver m) h = refl
foreign-quiet T top e h = cc

quiet-requests : (e : Event) (item : StepAnswer) → is_quiet e ≡ true → (effects e item).requests ≡ false
quiet-requests (event.Request frame feature) item h = cc
quiet-requests e item h = refl

-- the message of a delivery that is not muted is one of the page
delivery-own : (T : RepliedHistory) (top : ℕ) (e : Event) → is_foreign T top e ≡ false → (m : ℕ) → is_delivery_of e m ≡ true → is_own top (message T m) ≡ true
unfolding is_foreign
delivery-own T top (event.Deliver n) mine m is = ap (λ k. is_own top (message T k)) (sym (same-numbers n m is)) ∙ own-delivery top (message T n) mine
delivery-own T top e mine m is = cc

-- an event of the page is not muted, nor does it ask for the user activation of another; and one that is muted is none of the page
page-own : (T : RepliedHistory) (top : ℕ) (e : Event) → IsTrue (is_of_page T top e) → is_foreign T top e ≡ false
unfolding page_of_event is_foreign
page-own T top (event.Input frame kind) h = ap not h
page-own T top (event.History frame) h = ap not h
page-own T top (event.UseCall frame call) h = ap not h
page-own T top (event.Post sender target named capability) h = ap not h
page-own T top (event.Deliver m) h = ap not h
page-own T top e h = refl

page-asks : (T : RepliedHistory) (top : ℕ) (e : Event) → IsTrue (is_of_page T top e) → asks_elsewhere T top e ≡ false
unfolding page_of_event asks_elsewhere
page-asks T top (event.Ask frame) h = ap not h
page-asks T top e h = refl

foreign-none : (T : RepliedHistory) (top : ℕ) (e : Event) → is_foreign T top e ≡ true → is_of_page T top e ≡ false
foreign-none T top e h = by_test (is_of_page T top e) refl
  where
    by_test : (b : Bool) → is_of_page T top e ≡ b → b ≡ false
    by_test true is = let never : is_foreign T top e ≡ false = page-own T top e is in cc
    by_test false is = refl

-- an event that is not muted is one of the same page in both
event-page-alike : (top : ℕ) {T U : RepliedHistory} → Agrees top T U → (e : Event) → is_foreign T top e ≡ false → page_of_event T e ≡ page_of_event U e
unfolding page_of_event is_foreign
event-page-alike top a (event.OpenPage url header) mine = refl
event-page-alike top a (event.Embed parent src place allow sandbox fullscreen srcdoc header) mine = page-of-frame-alike a.alike parent
event-page-alike top a (event.Navigate frame url header) mine = page-of-frame-alike a.alike frame
event-page-alike top a (event.Attr frame name value) mine = page-of-frame-alike a.alike frame
event-page-alike top a (event.Close frame) mine = page-of-frame-alike a.alike frame
event-page-alike top a (event.Input frame kind) mine = page-of-frame-alike a.alike frame
event-page-alike top a (event.Ask frame) mine = page-of-frame-alike a.alike frame
event-page-alike top a (event.History frame) mine = page-of-frame-alike a.alike frame
event-page-alike top a (event.PolicyOf frame feature) mine = page-of-frame-alike a.alike frame
event-page-alike top a (event.Features frame) mine = page-of-frame-alike a.alike frame
event-page-alike top a (event.UseCall frame call) mine = page-of-frame-alike a.alike frame
event-page-alike top a (event.Query frame feature) mine = page-of-frame-alike a.alike frame
event-page-alike top a (event.DropStatus status) mine = λ i. option_map (λ x. page-alike a.alike x.document i) (status-at-alike a.alike status i)
event-page-alike top a (event.Request frame feature) mine = page-of-frame-alike a.alike frame
event-page-alike top a (event.Answered prompt out given) mine = prompt-page-alike a.alike prompt
event-page-alike top a (event.SetState feature first second state span) mine = refl
event-page-alike top a (event.Post sender target named capability) mine = page-of-frame-alike a.alike sender
event-page-alike top {T} {U} a (event.Deliver m) mine = ap (option_map (λ x. x.page)) (own-alike top (message T m) (message U m) (a.message m) (own-delivery top (message T m) mine))
event-page-alike top a event.Tick mine = refl

-- the event asks for user activation, or it does not
data IsAsk (e : Event) : Type 0 where
  asks : (frame : ℕ) → e ≡ event.Ask frame → IsAsk e
  other : ((T : RepliedHistory) (top : ℕ) → asks_elsewhere T top e ≡ false) → IsAsk e

ask : (e : Event) → IsAsk e
unfolding asks_elsewhere
ask (event.Ask frame) = asks frame refl
ask e = other (λ T top. refl)

-- what was told at a position, where a test passes
abbrev told_if : Bool → ℕ → StepAnswer → List (ℕ × StepAnswer)
told_if b k item = option_to_list (some_if b (k, item))

-- ---- the two histories

is-accepted : (duration : ℕ) (H : History) (e : Timed) → cause_of (replied duration H) e.time e.event ≡ None → accepts duration H e ≡ true
unfolding accepts accepts_in
is-accepted duration H e h = ap is_none h

is-regular : (duration : ℕ) (e : Timed) (H : History) → IsTrue (is_regular duration H) → accepts duration H e ≡ true → IsTrue (is_regular duration (e ∷ H))
unfolding is_regular
is-regular duration e H before now = rw (before, now) refl

-- the tick that an event leaves where it is muted
abbrev tick_at : Timed → Timed
tick_at e = record { time = e.time; event = event.Tick }

-- a history is regular, and agrees with another for the page
record IsRegularAlike (duration top : ℕ) (H K : History) : Type 0 where
  regular : IsTrue (is_regular duration K)
  agrees : Agrees top (replied duration H) (replied duration K)

module _ (laws : HistoryLaws) (duration top : ℕ) where
  quiet-told : (H : History) (e : Timed) → is_quiet e.event ≡ true → makes_prompt (step_answer duration (replied duration H) e.time e.event) ≡ false
  quiet-told H e h = (laws.prompts.told_left duration H e (quiet-requests e.event (step_answer duration (replied duration H) e.time e.event) h)).1

  muted-step : (e : Timed) (H K : History) → IsTrue (is_regular duration H) → accepts duration H e ≡ true → is_foreign (replied duration H) top e.event ≡ true → IsRegularAlike duration top H K
      → IsRegularAlike duration top (e ∷ H) (tick_at e ∷ K)
  muted-step e H K regular ok mine is = record {
    regular = is-regular duration (tick_at e) K is.regular (is-accepted duration K (tick_at e) (tick-accepted laws is.agrees.alike e.time e.event (accepted duration H e ok)));
    agrees = beside laws top duration H K e (tick_at e) regular is.regular is.agrees refl
        (foreign-beside laws duration top H regular e.event (step_answer duration (replied duration H) e.time e.event) (quiet-told H e (foreign-quiet (replied duration H) top e.event mine)) mine)
        (tick-beside top (step_answer duration (replied duration K) e.time event.Tick) (replied duration K) (quiet-told K (tick_at e) refl));
  }

  own-step : (e : Timed) (H K : History) → IsTrue (is_regular duration H) → accepts duration H e ≡ true → is_foreign (replied duration H) top e.event ≡ false → IsRegularAlike duration top H K
      → IsRegularAlike duration top (e ∷ H) (e ∷ K)
  own-step e H K regular ok mine is = record {
    regular = is-regular duration e K is.regular (is-accepted duration K e (sym (cause-own top is.agrees e.time e.event mine) ∙ accepted duration H e ok));
    agrees = by_ask (ask e.event);
  }
    where
      by_ask : IsAsk e.event → Agrees top (replied duration (e ∷ H)) (replied duration (e ∷ K))
      by_ask (asks frame asked) =
          let silent : (G : History) → makes_prompt (step_answer duration (replied duration G) e.time e.event) ≡ false = λ G. quiet-told G e (ap is_quiet asked) in
          let of : (G : History) → IsBeside top e.event (step_answer duration (replied duration G) e.time e.event) (replied duration G) =
          λ G. subst (λ (x : Event). IsBeside top x (step_answer duration (replied duration G) e.time e.event) (replied duration G)) (sym asked)
          (ask-beside top frame (step_answer duration (replied duration G) e.time e.event) (replied duration G) (silent G)) in
          beside laws top duration H K e e regular is.regular is.agrees refl (of H) (of K)
      by_ask (other none) =
          kept laws top duration H K e regular is.regular is.agrees
          (λ i. record { time = e.time; event = e.event; item = step-answer-own laws duration top e.time is.agrees e.event mine (none (replied duration H) top) i })
          (delivery-own (replied duration H) top e.event mine)

  isolated : (H : History) → IsTrue (is_regular duration H) → IsRegularAlike duration top H (muted duration top H)
  unfolding replied muted muted_event is_regular
  isolated [] regular = record {
    regular = refl;
    agrees = record {
      alike = start;
      first = λ d h. refl;
      second = λ d h. refl;
      message = λ m. refl;
      made = λ m. refl;
      settled = λ m. refl;
      waiting = refl;
      delegated = λ d capability current h. refl;
    };
  }
  isolated (e ∷ H) regular =
      by_test (is_foreign (replied duration H) top e.event) refl (laws.steps.regular_step duration e H regular).0 (laws.steps.regular_step duration e H regular).1
      (isolated H (laws.steps.regular_step duration e H regular).0)
    where
      by_test : (b : Bool) → is_foreign (replied duration H) top e.event ≡ b → IsTrue (is_regular duration H) → accepts duration H e ≡ true → IsRegularAlike duration top H (muted duration top H)
          → IsRegularAlike duration top (e ∷ H) (cond b (tick_at e) e ∷ muted duration top H)
      by_test true mine before ok is = muted-step e H (muted duration top H) before ok mine is
      by_test false mine before ok is = own-step e H (muted duration top H) before ok mine is

  -- of an event that is not muted the same is told, where it is one of the page
  told-own : (e : Timed) (H K : History) → is_foreign (replied duration H) top e.event ≡ false → IsRegularAlike duration top H K → (b : Bool) → is_of_page (replied duration H) top e.event ≡ b
      → told_if b (suc (length (replied duration H))) (step_answer duration (replied duration H) e.time e.event)
      ≡ told_if b (suc (length (replied duration K))) (step_answer duration (replied duration K) e.time e.event)
  told-own e H K mine is true of = λ i. told_if true (suc (length-alike is.agrees.alike i)) (step-answer-own laws duration top e.time is.agrees e.event mine (page-asks (replied duration H) top e.event of) i)
  told-own e H K mine is false of = refl

  told-step : (e : Timed) (H K : History) → IsRegularAlike duration top H K → page_answers (replied duration H) top ≡ page_answers (replied duration K) top
      → (b : Bool) → is_foreign (replied duration H) top e.event ≡ b → page_answers (replied duration (e ∷ H)) top ≡ page_answers (replied duration (cond b (tick_at e) e ∷ K)) top
  unfolding replied page_answers all_answers page_of_event
  told-step e H K is before true foreign =
      ap (λ b. page_answers (replied duration H) top ++ told_if b (suc (length (replied duration H))) (step_answer duration (replied duration H) e.time e.event)) (foreign-none (replied duration H) top e.event foreign)
      ∙ ap (λ xs. xs ++ []) before
  told-step e H K is before false mine = λ i.
      before i
      ++ (told-own e H K mine is (is_of_page (replied duration H) top e.event) refl
      ∙ ap (λ o. told_if (unwrap_or (option_map (λ p. p == top) o) false) (suc (length (replied duration K))) (step_answer duration (replied duration K) e.time e.event)) (event-page-alike top is.agrees e.event mine)) i

  told-alike : (H : History) → IsTrue (is_regular duration H) → page_answers (replied duration H) top ≡ page_answers (replied duration (muted duration top H)) top
  unfolding muted muted_event replied
  told-alike [] regular = refl
  told-alike (e ∷ H) regular =
      told-step e H (muted duration top H) (isolated H (laws.steps.regular_step duration e H regular).0) (told-alike H (laws.steps.regular_step duration e H regular).0)
      (is_foreign (replied duration H) top e.event) refl

-- ---- changes

change-at-alike : {T U : RepliedHistory} → Alike T U → (now : ℕ) → changes_at T now ≡ changes_at U now
unfolding changes_at change_at
change-at-alike r now = λ i.
    flat_map (λ x. option_to_list (change_of now x (state-alike r (now - 1) x.document x.feature i) (state-alike r now x.document x.feature i))) (statuses-alike r i)

before-alike : {T U : RepliedHistory} → Alike T U → (now : ℕ) → changes_before T now ≡ changes_before U now
unfolding changes_before
before-alike r now = λ i. flat_map (λ moment. change-at-alike r moment i) (numbers_above (clock-alike r i) (now - clock-alike r i))

after-alike : {T U V W : RepliedHistory} → Alike T U → Alike V W → (now : ℕ) → changes_after T V now ≡ changes_after U W now
unfolding changes_after change_between
after-alike r v now = λ i.
    flat_map (λ x. option_to_list (change_of now x (state-alike r now x.document x.feature i) (state-alike v now x.document x.feature i)))
    (filter (λ x. list_any (λ y. y.number == x.number) (statuses-alike v i)) (statuses-alike r i))

-- ---- the laws

module _ (laws : HistoryLaws) where
  pub regular : (duration top : ℕ) (H : History) → IsTrue (is_regular duration H) → IsTrue (is_regular duration (muted duration top H))
  regular duration top H is = (isolated laws duration top H is).regular

  pub unmuted-cause : (duration top now : ℕ) (H : History) (e : Event) → IsTrue (is_regular duration H) → is_foreign (replied duration H) top e ≡ false
      → cause_of (replied duration H) now e ≡ cause_of (replied_muted duration top H) now e
  unmuted-cause duration top now H e is mine = cause-own top (isolated laws duration top H is).agrees now e mine

  pub unmuted-answer : (duration top now : ℕ) (H : History) (e : Event) → IsTrue (is_regular duration H) → IsUnmuted (replied duration H) top e
      → answer_of duration (replied duration H) now e ≡ answer_of duration (replied_muted duration top H) now e
  unmuted-answer duration top now H e is mine = answer-own laws duration top now (isolated laws duration top H is).agrees e mine.own mine.asked

  pub unmuted-told : (duration top now : ℕ) (H : History) (e : Event) → IsTrue (is_regular duration H) → IsUnmuted (replied duration H) top e
      → step_answer duration (replied duration H) now e ≡ step_answer duration (replied_muted duration top H) now e
  unmuted-told duration top now H e is mine = step-answer-own laws duration top now (isolated laws duration top H is).agrees e mine.own mine.asked

  pub told : (duration top : ℕ) (H : History) → IsTrue (is_regular duration H) → page_answers (replied duration H) top ≡ page_answers (replied_muted duration top H) top
  told duration top H is = told-alike laws duration top H is

  pub page-cause : (duration top now : ℕ) (H : History) (e : Event) → IsTrue (is_regular duration H) → IsTrue (is_of_page (replied duration H) top e)
      → cause_of (replied duration H) now e ≡ cause_of (replied_muted duration top H) now e
  page-cause duration top now H e is of = unmuted-cause duration top now H e is (page-own (replied duration H) top e of)

  pub page-answer : (duration top now : ℕ) (H : History) (e : Event) → IsTrue (is_regular duration H) → IsTrue (is_of_page (replied duration H) top e)
      → answer_of duration (replied duration H) now e ≡ answer_of duration (replied_muted duration top H) now e
  page-answer duration top now H e is of = unmuted-answer duration top now H e is (record { own = page-own (replied duration H) top e of; asked = page-asks (replied duration H) top e of })

  pub reply : (duration top now : ℕ) (H : History) (e : Event) → IsTrue (is_regular duration H) → IsTrue (is_of_page (replied duration H) top e)
      → reply_in duration (replied duration H) now e ≡ reply_in duration (replied_muted duration top H) now e
  unfolding reply_in
  reply duration top now H e is of = λ i. answer_or_refusal (page-cause duration top now H e is of i) (page-answer duration top now H e is of i)

  pub before : (duration top now : ℕ) (H : History) → IsTrue (is_regular duration H) → changes_before (replied duration H) now ≡ changes_before (replied_muted duration top H) now
  before duration top now H is = before-alike (isolated laws duration top H is).agrees.alike now

  pub after : (duration top : ℕ) (H : History) (e : Timed) → IsTrue (is_regular duration H) → IsTrue (accepts duration H e)
      → changes_after (replied duration H) (replied duration (e ∷ H)) e.time ≡ changes_after (replied_muted duration top H) (replied_muted duration top (e ∷ H)) e.time
  after duration top H e is ok =
      after-alike (isolated laws duration top H is).agrees.alike (isolated laws duration top (e ∷ H) (is-regular duration e H is ok)).agrees.alike e.time
