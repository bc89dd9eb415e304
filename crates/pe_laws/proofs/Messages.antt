-- What a step leaves of delegating messages.
use Rattle.std.proofs.Common.{◌≡◌, ℕ, suc, ◌+◌, ◌<◌, ◌≤◌, Bool, true, false, not, ◌&&◌, ◌||◌, ◌==◌, List, [], ◌∷◌, ◌++◌, length, filter, Option, Some, None, is_some, unwrap_or, option_map, option_and_then, option_to_list, refl, sym, ◌∙◌, ap, arith, cond, true≢false}
use Rattle.std.specs.Option.{option_or}
use Rattle.std.proofs.lemmas.List.Elements.{filter-append}
use Rattle.pe_base.specs.declared.state.State.{State}
use Rattle.pe_base.specs.declared.state.State.TheVariants as state
use Rattle.pe_features.specs.declared.capability.Capability.{Capability}
use Rattle.pe_features.specs.Capabilities.{capability_named}
use Rattle.pe_events.specs.Timed.{Timed}
use Rattle.pe_events.specs.declared.event.Event.{Event}
use Rattle.pe_events.specs.declared.event.Event.TheVariants as event
use Rattle.pe_rules.specs.History.{StepAnswer, Replied, Step, RepliedHistory, History, some_if, newest_answer, step_at}
use Rattle.pe_rules.specs.Numbering.{numbers_made, makes_message, is_message}
use Rattle.pe_rules.specs.Embedders.{page_of_frame}
use Rattle.pe_rules.specs.Current.{document_in}
use Rattle.pe_rules.specs.Settings.{word_origin}
use Rattle.pe_rules.specs.Activation.{is_one_of}
use Rattle.pe_rules.specs.Delegation.{Message, message_by, message, is_delivery_of, is_message_settled, is_waiting_in, waiting_messages}
use Rattle.pe_rules.specs.Causes.{state_found, prompt_to_join, names_unknown, cause_of}
use Rattle.pe_rules.specs.Replies.{answer_of_request, answer_or_done, answer_of, step_answer, replied, is_regular}
use Rattle.pe_laws.specs.Effects.{effects}
use Rattle.pe_laws.specs.EffectsLaws.{effects_of}
use Rattle.pe_laws.specs.PromptsLaws.{step_of}
use Rattle.pe_laws.proofs.Numbers.{same-numbers}
use Rattle.pe_laws.proofs.Lists.{left-by, filtered-are}
use Rattle.pe_laws.proofs.Steps.{told-start, told-step, step-older, step-newest, step-position, regular-step}
use Rattle.pe_laws.proofs.Numbering.{made-none, message-within}
use Rattle.pe_laws.proofs.Each.{filter-agree, filter-twice}
use Rattle.pe_laws.proofs.MadeNumbers.{made-are, made-unmade, made-new, made-positions, made-stays}
use Rattle.pe_laws.proofs.Current.{and-true, document-in-frame}
use Rattle.pe_laws.proofs.QuietAnswers.{told-quiet}
use Rattle.pe_laws.proofs.Causes.{faultless}
use Rattle.pe_laws.proofs.Statuses.{accepted}

-- ---- what was posted

pub message-older : (s : Step) (T : RepliedHistory) (m : ℕ) → m ≤ length T → message (s ∷ T) m ≡ message T m
unfolding message
message-older s T m h = rw (step-older s T m h) refl

pub message-newest : (s : Step) (T : RepliedHistory) → message (s ∷ T) (suc (length T)) ≡ message_by s.event T
unfolding message
message-newest s T = rw (step-newest s T) refl

-- the target of what is posted was made before
posted-target : (e : Event) (B : RepliedHistory) (x : Message) → message_by e B ≡ Some x → (1 ≤ x.target) × (x.target ≤ length B)
posted-target (event.Post sender target named capability) B x h = by_document (document_in B target) refl h
  where
    by_capability : (d p : ℕ) → document_in B target ≡ Some d → (o : Option Capability)
        → option_map (λ c. let y : Message = record { page = p; target = d; origin = option_and_then word_origin named; capability = c } in y) o ≡ Some x
        → (1 ≤ x.target) × (x.target ≤ length B)
    by_capability d p is None e = cc
    by_capability d p is (Some c) e =
        let y : Message = record { page = p; target = d; origin = option_and_then word_origin named; capability = c } in
        let same : y ≡ x = cc in
        let w = document-in-frame B target d is in
        let of : d ≡ x.target = ap (λ (z : Message). z.target) same in
        (omega (arith, w.2), omega (arith, w.3))

    by_page : (d : ℕ) → document_in B target ≡ Some d → (o : Option ℕ)
        → option_and_then (λ p. option_map (λ c. let y : Message = record { page = p; target = d; origin = option_and_then word_origin named; capability = c } in y) (capability_named capability)) o ≡ Some x
        → (1 ≤ x.target) × (x.target ≤ length B)
    by_page d is None e = cc
    by_page d is (Some p) e = by_capability d p is (capability_named capability) e

    by_document : (o : Option ℕ) → document_in B target ≡ o
        → option_and_then (λ d. option_and_then (λ p. option_map (λ c. let y : Message = record { page = p; target = d; origin = option_and_then word_origin named; capability = c } in y) (capability_named capability)) (page_of_frame B sender)) o ≡ Some x
        → (1 ≤ x.target) × (x.target ≤ length B)
    by_document None is e = cc
    by_document (Some d) is e = by_page d is (page_of_frame B sender) e
posted-target e B x h = cc

pub message-made : (T : RepliedHistory) (m : ℕ) (x : Message) → message T m ≡ Some x → (1 ≤ m) × (m ≤ length T) × (1 ≤ x.target) × (x.target < m)
unfolding message
message-made T m x h = by_step (step_at T m) refl h
  where
    by_step : (o : Option (Step × RepliedHistory)) → step_at T m ≡ o → option_and_then (λ a. message_by a.0.event a.1) o ≡ Some x → (1 ≤ m) × (m ≤ length T) × (1 ≤ x.target) × (x.target < m)
    by_step None is e = cc
    by_step (Some a) is e =
        let at = step-position T m a is in
        let w = posted-target a.0.event a.1 x e in
        (omega (arith, at.0), at.1, w.0, omega (arith, at.0, w.1))

-- ---- what is told of a post

request-none : (k : ℕ) (j : Option ℕ) (o : Option State) → makes_message (Replied (answer_or_done (option_map (λ s. answer_of_request s k j) o))) ≡ false
request-none k j None = refl
request-none k j (Some state.Granted) = refl
request-none k j (Some state.Denied) = refl
request-none k None (Some state.Prompt) = refl
request-none k (Some join) (Some state.Prompt) = refl

request-unposted : (duration : ℕ) (T : RepliedHistory) (now frame : ℕ) (feature : List ℕ) → makes_message (step_answer duration T now (event.Request frame feature)) ≡ false
unfolding answer_of
request-unposted duration T now frame feature = request-none (length T + 1) (prompt_to_join T frame feature) (state_found T now frame feature)

-- a message is told of posts alone
pub told-unposted : (duration : ℕ) (T : RepliedHistory) (now : ℕ) (e : Event) → (effects e (step_answer duration T now e)).posts ≡ false → makes_message (step_answer duration T now e) ≡ false
told-unposted duration T now (event.Request frame feature) h = request-unposted duration T now frame feature
told-unposted duration T now (event.Post sender target named capability) h = h
told-unposted duration T now e h = (told-quiet duration T now e refl).1

pub left-told : (duration : ℕ) (H : History) (e : Timed) → (effects_of (step_of duration H e)).posts ≡ false → makes_message (step_of duration H e).item ≡ false
left-told duration H e h = told-unposted duration (replied duration H) e.time e.event h

-- ---- settled messages

pub settled-step : (s : Step) (T : RepliedHistory) (m : ℕ) → is_message_settled (s ∷ T) m ≡ (is_delivery_of s.event m || is_message_settled T m)
unfolding is_message_settled newest_answer
settled-step s T m = by_delivery (is_delivery_of s.event m)
  where
    by_delivery : (b : Bool) → is_some (option_or (some_if b m) (newest_answer (λ s B. some_if (is_delivery_of s.event m) m) T)) ≡ (b || is_some (newest_answer (λ s B. some_if (is_delivery_of s.event m) m) T))
    by_delivery true = refl
    by_delivery false = refl

no-delivery : (e : Event) (item : StepAnswer) (m : ℕ) → (effects e item).settles_message ≡ false → is_delivery_of e m ≡ false
no-delivery (event.Deliver message) item m h = cc
no-delivery e item m h = refl

pub settled-stays : (s : Step) (T : RepliedHistory) (m : ℕ) → (effects_of s).settles_message ≡ false → is_message_settled (s ∷ T) m ≡ is_message_settled T m
settled-stays s T m h = settled-step s T m ∙ rw (no-delivery s.event s.item m h) refl

abbrev makes : Step → Bool
makes s = makes_message s.item

pub message-kept : (s : Step) (T : RepliedHistory) (m : ℕ) → is_message T m ≡ true → is_message (s ∷ T) m ≡ true
unfolding is_message
message-kept s T m h = made-stays makes s T m h

pub message-stays : (duration : ℕ) (H : History) (e : Timed) (m : ℕ) → (effects_of (step_of duration H e)).posts ≡ false
    → is_message (replied duration (e ∷ H)) m ≡ is_message (replied duration H) m
unfolding is_message
message-stays duration H e m h = rw (told-step duration e H) (made-none makes (step_of duration H e) (replied duration H) m (left-told duration H e h))

known-message : (T : RepliedHistory) (now m : ℕ) → cause_of T now (event.Deliver m) ≡ None → is_message T m ≡ true
unfolding names_unknown
known-message T now m h = by_made (is_message T m) ((faultless T now (event.Deliver m) h).known)
  where
    by_made : (b : Bool) → (false || not b) ≡ false → b ≡ true
    by_made true e = refl
    by_made false e = cc

delivered-known : (T : RepliedHistory) (now m : ℕ) (e : Event) → cause_of T now e ≡ None → is_delivery_of e m ≡ true → is_message T m ≡ true
delivered-known T now m (event.Deliver message) h is = ap (is_message T) (sym (same-numbers message m is)) ∙ known-message T now message h
delivered-known T now m e h is = cc

none-settled : (m : ℕ) → is_message_settled [] m ≡ false
unfolding is_message_settled newest_answer
none-settled m = refl

pub settled-made : (duration : ℕ) (H : History) (m : ℕ) → is_regular duration H ≡ true → is_message_settled (replied duration H) m ≡ true → is_message (replied duration H) m ≡ true
settled-made duration [] m regular h =
    let none : is_message_settled (replied duration []) m ≡ false = ap (λ (T : RepliedHistory). is_message_settled T m) (told-start duration) ∙ none-settled m in absurd (true≢false (sym h ∙ none))
settled-made duration (e ∷ H) m regular h =
    let w = regular-step duration e H regular in
    ap (λ (T : RepliedHistory). is_message T m) (told-step duration e H)
    ∙ message-kept (step_of duration H e) (replied duration H) m
    (by_delivery (is_delivery_of e.event m) refl (settled-made duration H m w.0) (accepted duration H e w.1)
    (sym (settled-step (step_of duration H e) (replied duration H) m) ∙ ap (λ (T : RepliedHistory). is_message_settled T m) (sym (told-step duration e H)) ∙ h))
  where
    by_delivery : (b : Bool) → is_delivery_of e.event m ≡ b → (is_message_settled (replied duration H) m ≡ true → is_message (replied duration H) m ≡ true) → cause_of (replied duration H) e.time e.event ≡ None
        → (b || is_message_settled (replied duration H) m) ≡ true → is_message (replied duration H) m ≡ true
    by_delivery true is older ok settled = delivered-known (replied duration H) e.time m e.event ok is
    by_delivery false is older ok settled = older settled

-- ---- the waiting messages of a page

waiting-is : (T : RepliedHistory) (top : ℕ) → waiting_messages T top ≡ filter (is_waiting_in T top) (numbers_made makes T)
unfolding waiting_messages
waiting-is T top = refl

-- an older message waits after a step where it did, and the step does not deliver it
waits-older : (s : Step) (T : RepliedHistory) (top m : ℕ) → m ≤ length T → is_waiting_in (s ∷ T) top m ≡ (is_waiting_in T top m && not (is_delivery_of s.event m))
waits-older s T top m le =
    rw (settled-step s T m, message-older s T m le) (left-by (is_delivery_of s.event m) (is_message_settled T m) (unwrap_or (option_map (λ x. x.page == top) (message T m)) false))

waiting-filter : (s : Step) (T : RepliedHistory) (top : ℕ) → makes_message s.item ≡ false → waiting_messages (s ∷ T) top ≡ filter (λ m. not (is_delivery_of s.event m)) (waiting_messages T top)
waiting-filter s T top unmade =
    waiting-is (s ∷ T) top
    ∙ ap (filter (is_waiting_in (s ∷ T) top)) (made-unmade makes s T unmade)
    ∙ filter-twice (λ m. m ≤ length T) (is_waiting_in (s ∷ T) top) (is_waiting_in T top) (λ m. not (is_delivery_of s.event m)) (numbers_made makes T) (λ m le. waits-older s T top m le) (made-positions makes T)
    ∙ ap (filter (λ m. not (is_delivery_of s.event m))) (sym (waiting-is T top))

waits-same : (s : Step) (T : RepliedHistory) (top m : ℕ) → (effects_of s).settles_message ≡ false → m ≤ length T → is_waiting_in (s ∷ T) top m ≡ is_waiting_in T top m
waits-same s T top m settles le = waits-older s T top m le ∙ rw (no-delivery s.event s.item m settles) (and-true (is_waiting_in T top m))

waiting-same : (s : Step) (T : RepliedHistory) (top : ℕ) → makes_message s.item ≡ false → (effects_of s).settles_message ≡ false → waiting_messages (s ∷ T) top ≡ waiting_messages T top
waiting-same s T top unmade settles =
    waiting-is (s ∷ T) top
    ∙ ap (filter (is_waiting_in (s ∷ T) top)) (made-unmade makes s T unmade)
    ∙ filter-agree (λ m. m ≤ length T) (is_waiting_in (s ∷ T) top) (is_waiting_in T top) (numbers_made makes T) (λ m le. waits-same s T top m settles le) (made-positions makes T)
    ∙ sym (waiting-is T top)

waiting-added : (s : Step) (T : RepliedHistory) (top : ℕ) → makes_message s.item ≡ true → (effects_of s).settles_message ≡ false → is_message_settled T (suc (length T)) ≡ false
    → waiting_messages (s ∷ T) top ≡ waiting_messages T top ++ option_to_list (some_if (unwrap_or (option_map (λ x. x.page == top) (message_by s.event T)) false) (suc (length T)))
waiting-added s T top makes_one settles unsettled =
    waiting-is (s ∷ T) top
    ∙ ap (filter (is_waiting_in (s ∷ T) top)) (made-new makes s T makes_one)
    ∙ filter-append (is_waiting_in (s ∷ T) top) (numbers_made makes T) (suc (length T) ∷ [])
    ∙ rw (
      filter-agree (λ m. m ≤ length T) (is_waiting_in (s ∷ T) top) (is_waiting_in T top) (numbers_made makes T) (λ m le. waits-same s T top m settles le) (made-positions makes T),
      ← waiting-is T top,
      settled-stays s T (suc (length T)) settles,
      unsettled,
      message-newest s T,
    )
    (ap (λ xs. waiting_messages T top ++ xs) (by_test (unwrap_or (option_map (λ x. x.page == top) (message_by s.event T)) false)))
  where
    by_test : (b : Bool) → cond b (suc (length T) ∷ []) [] ≡ option_to_list (some_if b (suc (length T)))
    by_test true = refl
    by_test false = refl

new-settled : (duration : ℕ) (H : History) → is_regular duration H ≡ true → is_message_settled (replied duration H) (suc (length (replied duration H))) ≡ false
new-settled duration H regular = by_settled (is_message_settled (replied duration H) (suc (length (replied duration H)))) refl
  where
    by_settled : (b : Bool) → is_message_settled (replied duration H) (suc (length (replied duration H))) ≡ b → b ≡ false
    by_settled false is = refl
    by_settled true is =
        let within = message-within (replied duration H) (suc (length (replied duration H))) (settled-made duration H (suc (length (replied duration H))) regular is) in
        absurd (omega (arith, within.1))

-- what makes a message settles none
posts-alone : (duration : ℕ) (T : RepliedHistory) (now : ℕ) (e : Event) → makes_message (step_answer duration T now e) ≡ true → (effects e (step_answer duration T now e)).settles_message ≡ false
posts-alone duration T now (event.Deliver m) h = absurd (true≢false (sym h ∙ told-unposted duration T now (event.Deliver m) refl))
posts-alone duration T now e h = refl

pub waiting-made : (duration : ℕ) (H : History) (e : Timed) (top : ℕ) → is_regular duration H ≡ true → makes_message (step_of duration H e).item ≡ true
    → waiting_messages (replied duration (e ∷ H)) top ≡ waiting_messages (replied duration H) top
    ++ option_to_list (some_if (unwrap_or (option_map (λ x. x.page == top) (message_by e.event (replied duration H))) false) (length (replied duration (e ∷ H))))
waiting-made duration H e top regular makes_one =
    rw (told-step duration e H)
    (waiting-added (step_of duration H e) (replied duration H) top makes_one (posts-alone duration (replied duration H) e.time e.event makes_one) (new-settled duration H regular))

pub waiting-delivered : (duration : ℕ) (H : History) (e : Timed) (m top : ℕ) → e.event ≡ event.Deliver m
    → waiting_messages (replied duration (e ∷ H)) top ≡ filter (λ j. not (m == j)) (waiting_messages (replied duration H) top)
waiting-delivered duration H e m top is =
    rw (told-step duration e H)
    (waiting-filter (step_of duration H e) (replied duration H) top (left-told duration H e (ap (λ x. (effects x (step_of duration H e).item).posts) is))
    ∙ ap (λ x. filter (λ j. not (is_delivery_of x j)) (waiting_messages (replied duration H) top)) is)

pub waiting-stay : (duration : ℕ) (H : History) (e : Timed) (top : ℕ) → (effects_of (step_of duration H e)).posts ≡ false → (effects_of (step_of duration H e)).settles_message ≡ false
    → waiting_messages (replied duration (e ∷ H)) top ≡ waiting_messages (replied duration H) top
waiting-stay duration H e top posts settles =
    rw (told-step duration e H) (waiting-same (step_of duration H e) (replied duration H) top (left-told duration H e posts) settles)

messages-made : (T : RepliedHistory) (m : ℕ) → is_one_of (numbers_made makes T) m ≡ is_message T m
unfolding is_message
messages-made T m = made-are makes T m

pub waiting-are : (T : RepliedHistory) (top m : ℕ) → is_one_of (waiting_messages T top) m ≡ (is_message T m && is_waiting_in T top m)
waiting-are T top m =
    ap (λ xs. is_one_of xs m) (waiting-is T top) ∙ filtered-are (is_waiting_in T top) (numbers_made makes T) m ∙ ap (λ b. b && is_waiting_in T top m) (messages-made T m)
