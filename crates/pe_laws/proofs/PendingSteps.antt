-- What a step of a history leaves of the pending prompts of a page.
use Rattle.std.proofs.Common.{◌≡◌, ◌≢◌, inl, inr, ℕ, suc, ◌+◌, ◌≤◌, Bool, true, false, not, ◌&&◌, ◌||◌, ◌==◌, List, [], ◌∷◌, ◌++◌, length, filter, Option, Some, None, is_some, option_map, option_and_then, option_to_list, refl, sym, ◌∙◌, ap, arith, cond, length-append, true≢false}
use Rattle.std.proofs.lemmas.List.Elements.{filter-append}
use Rattle.pe_base.specs.declared.state.State.{State}
use Rattle.pe_base.specs.declared.state.State.TheVariants as state
use Rattle.pe_events.specs.Timed.{Timed}
use Rattle.pe_events.specs.declared.answer.Answer.TheVariants as answer
use Rattle.pe_events.specs.declared.event.Event.{Event}
use Rattle.pe_events.specs.declared.event.Event.TheVariants as event
use Rattle.pe_events.specs.declared.event.EventLife.{EventLife}
use Rattle.pe_events.specs.declared.event.Outcome.{Outcome}
use Rattle.pe_rules.specs.History.{StepAnswer, Replied, Step, RepliedHistory, History, some_if, newest_answer}
use Rattle.pe_rules.specs.Numbering.{numbers_made, makes_prompt, is_prompt}
use Rattle.pe_rules.specs.Current.{is_current, document_in}
use Rattle.pe_rules.specs.Activation.{is_one_of}
use Rattle.pe_rules.specs.Prompts.{prompt_replied, requesting_document, requesting_document_of, requests, answers, is_settled, waiting, is_pending, is_prompt_of, pending}
use Rattle.pe_rules.specs.Causes.{state_found, prompt_to_join, names_unknown, cause_of}
use Rattle.pe_rules.specs.Replies.{answer_of_request, answer_or_done, answer_of, step_answer, replied, is_regular}
use Rattle.pe_laws.specs.Effects.{effects}
use Rattle.pe_laws.specs.EffectsLaws.{effects_of}
use Rattle.pe_laws.specs.PromptsLaws.{step_of}
use Rattle.pe_laws.proofs.Numbers.{not_same, same-numbers}
use Rattle.pe_laws.proofs.Lists.{both, left-by, filtered-are}
use Rattle.pe_laws.proofs.Steps.{told-start, told-step, regular-step}
use Rattle.pe_laws.proofs.Numbering.{made-none, prompt-newest, prompt-within}
use Rattle.pe_laws.proofs.Each.{append-none, filter-agree, filter-twice}
use Rattle.pe_laws.proofs.MadeNumbers.{made-are, made-unmade, made-new, made-positions, made-stays}
use Rattle.pe_laws.proofs.Current.{and-true}
use Rattle.pe_laws.proofs.Causes.{faultless}
use Rattle.pe_laws.proofs.Statuses.{apart, accepted}
use Rattle.pe_laws.proofs.PromptsTold.{AsksFor, told-asks, made-is-told, makes-by-request, MakesFor, told-makes}
use Rattle.pe_laws.proofs.PendingPrompts.{prompt-of-older, pending-parts, joined-is-pending}
use Rattle.pe_laws.proofs.PromptSteps.{asker-is, asker-other, asker-told, unasked, unasked-step, no-requests, settled-step, no-answer, waiting-step, waiting-left}

-- ---- what is told of a request

-- a step that requests nothing tells no prompt
pub told-unasked : (duration : ℕ) (T : RepliedHistory) (now : ℕ) (e : Event) → (effects e (step_answer duration T now e)).requests ≡ false → prompt_replied (step_answer duration T now e) ≡ None
told-unasked duration T now e h = by_told (prompt_replied (step_answer duration T now e)) refl
  where
    by_told : (o : Option ℕ) → prompt_replied (step_answer duration T now e) ≡ o → o ≡ None
    by_told None is = refl
    by_told (Some k) is =
        let asks = told-asks duration T now e k is in
        let requested : (effects e (step_answer duration T now e)).requests ≡ is_some (prompt_replied (step_answer duration T now e)) = ap (λ x. (effects x (step_answer duration T now e)).requests) asks.2 in
        absurd (true≢false (sym (requested ∙ ap is_some is) ∙ h))

-- what tells no prompt makes none
pub untold-unmade : (i : StepAnswer) → prompt_replied i ≡ None → makes_prompt i ≡ false
untold-unmade i h = by_makes (makes_prompt i) refl
  where
    by_makes : (b : Bool) → makes_prompt i ≡ b → b ≡ false
    by_makes false is = refl
    by_makes true is = let made = made-is-told i is in let some : prompt_replied i ≡ Some made.0 = ap prompt_replied made.1 in cc

pub told-unmade : (duration : ℕ) (T : RepliedHistory) (now : ℕ) (e : Event) → (effects e (step_answer duration T now e)).requests ≡ false → makes_prompt (step_answer duration T now e) ≡ false
told-unmade duration T now e h = untold-unmade (step_answer duration T now e) (told-unasked duration T now e h)

-- a prompt that is told where there is none to join is made
makes-told : (n k : ℕ) (o : Option State) (j : Option ℕ) → j ≡ None → prompt_replied (Replied (answer_or_done (option_map (λ s. answer_of_request s n j) o))) ≡ Some k
    → makes_prompt (Replied (answer_or_done (option_map (λ s. answer_of_request s n j) o))) ≡ true
makes-told n k o (Some p) none h = cc
makes-told n k None None none h = cc
makes-told n k (Some state.Granted) None none h = cc
makes-told n k (Some state.Denied) None none h = cc
makes-told n k (Some state.Prompt) None none h = refl

request-makes : (duration : ℕ) (T : RepliedHistory) (now frame : ℕ) (feature : List ℕ) (k : ℕ) → prompt_to_join T frame feature ≡ None
    → prompt_replied (step_answer duration T now (event.Request frame feature)) ≡ Some k → makes_prompt (step_answer duration T now (event.Request frame feature)) ≡ true
unfolding answer_of
request-makes duration T now frame feature k none h = makes-told (length T + 1) k (state_found T now frame feature) (prompt_to_join T frame feature) none h

-- a prompt that is told and not made was pending
pub told-joins : (duration : ℕ) (T : RepliedHistory) (now : ℕ) (e : Event) (k : ℕ) → prompt_replied (step_answer duration T now e) ≡ Some k → makes_prompt (step_answer duration T now e) ≡ false
    → is_pending T k ≡ true
told-joins duration T now e k h unmade = by_way (told-asks duration T now e k h)
  where
    by_way : AsksFor T e k → is_pending T k ≡ true
    by_way (frame, feature, is, inr join) = joined-is-pending T frame feature k join
    by_way (frame, feature, is, inl new) =
        let makes = request-makes duration T now frame feature k new.0 (ap (λ x. prompt_replied (step_answer duration T now x)) (sym is) ∙ h) in
        absurd (true≢false (sym makes ∙ ap (λ x. makes_prompt (step_answer duration T now x)) (sym is) ∙ unmade))

-- a prompt that is made has the number of its step
pub told-number : (duration : ℕ) (T : RepliedHistory) (now : ℕ) (e : Event) → makes_prompt (step_answer duration T now e) ≡ true → prompt_replied (step_answer duration T now e) ≡ Some (suc (length T))
told-number duration T now e h = by_way (told-asks duration T now e made.0 some)
  where
    made : (k : ℕ) × (step_answer duration T now e ≡ Replied (answer.PromptMade k))
    made = made-is-told (step_answer duration T now e) h

    some : prompt_replied (step_answer duration T now e) ≡ Some made.0
    some = ap prompt_replied made.1

    by_way : AsksFor T e made.0 → prompt_replied (step_answer duration T now e) ≡ Some (suc (length T))
    by_way (frame, feature, is, inl new) = let here : made.0 ≡ suc (length T) = omega (arith, new.1) in some ∙ ap Some here
    by_way (frame, feature, is, inr join) =
        let none = makes-by-request duration T now frame feature (ap (λ x. makes_prompt (step_answer duration T now x)) (sym is) ∙ h) in
        absurd (apart (sym none ∙ join))
      where
        apart : ◌≡◌ {A = Option ℕ} None (Some made.0) → ⊥
        apart e = cc

makes-document : (duration : ℕ) (T : RepliedHistory) (now frame : ℕ) (feature : List ℕ) → makes_prompt (step_answer duration T now (event.Request frame feature)) ≡ true
    → (d : ℕ) × (document_in T frame ≡ Some d)
unfolding answer_of state_found
makes-document duration T now frame feature h = by_document (document_in T frame) refl (state_found T now frame feature) refl h
  where
    by_document : (o : Option ℕ) → document_in T frame ≡ o → (q : Option State) → state_found T now frame feature ≡ q
        → makes_prompt (Replied (answer_or_done (option_map (λ s. answer_of_request s (length T + 1) (prompt_to_join T frame feature)) q))) ≡ true → (d : ℕ) × (o ≡ Some d)
    by_document (Some d) is q of e = (d, refl)
    by_document None is None of e = cc
    by_document None is (Some x) of e = cc

-- ---- whether a prompt is pending after a step

longer : (ws xs : List ℕ) → not (length ws == 0) ≡ true → not (length (ws ++ xs) == 0) ≡ true
longer [] xs h = cc
longer (w ∷ ws) xs h = let ne : suc (length (ws ++ xs)) ≢ 0 = omega arith in rw (not_same (suc (length (ws ++ xs))) 0 ne) refl

one-more : (ws : List ℕ) (d : ℕ) → not (length (ws ++ d ∷ []) == 0) ≡ true
one-more ws d = let ne : length (ws ++ d ∷ []) ≢ 0 = omega (arith, length-append ws (d ∷ [])) in rw (not_same (length (ws ++ d ∷ [])) 0 ne) refl

unasked-pending : (s : Step) (T : RepliedHistory) (k : ℕ) → requesting_document_of k s T ≡ None → (effects_of s).ends_documents ≡ false → is_pending (s ∷ T) k ≡ (is_pending T k && not (answers s.event k))
unfolding is_pending
unasked-pending s T k none end =
    rw (settled-step s T k, waiting-step s T k end, none, append-none (waiting T k)) (left-by (answers s.event k) (is_settled T k) (not (length (waiting T k) == 0)))

asked-pending : (s : Step) (T : RepliedHistory) (k : ℕ) → is_pending T k ≡ true → answers s.event k ≡ false → (effects_of s).ends_documents ≡ false → is_pending (s ∷ T) k ≡ true
unfolding is_pending
asked-pending s T k h unanswered end =
    let parts = both (not (is_settled T k)) (not (length (waiting T k) == 0)) h in
    rw (settled-step s T k, waiting-step s T k end, unanswered, parts.0, longer (waiting T k) (option_to_list (requesting_document_of k s T)) parts.1) refl

new-pending : (s : Step) (T : RepliedHistory) (k d : ℕ) → is_settled T k ≡ false → requesting_document_of k s T ≡ Some d → answers s.event k ≡ false → (effects_of s).ends_documents ≡ false
    → is_pending (s ∷ T) k ≡ true
unfolding is_pending
new-pending s T k d unsettled asks unanswered end =
    rw (settled-step s T k, waiting-step s T k end, unanswered, unsettled, asks, one-more (waiting T k) d) refl

left-pending : (s : Step) (T : RepliedHistory) (k : ℕ) → (effects_of s).requests ≡ false → (effects_of s).settles_prompt ≡ false
    → is_pending (s ∷ T) k ≡ (is_pending T k && not (length (waiting (s ∷ T) k) == 0))
unfolding is_pending
left-pending s T k h settles =
    rw (settled-step s T k, no-answer s.event s.item k settles, waiting-left s T k h) (by_list (not (is_settled T k)) (is_current (s ∷ T)) (waiting T k))
  where
    by_test : (a b : Bool) → (a && b) ≡ ((a && true) && b)
    by_test true b = refl
    by_test false b = refl

    none : (a : Bool) → (a && false) ≡ ((a && false) && false)
    none true = refl
    none false = refl

    by_list : (a : Bool) (test : ℕ → Bool) (ws : List ℕ) → (a && not (length (filter test ws) == 0)) ≡ ((a && not (length ws == 0)) && not (length (filter test ws) == 0))
    by_list a test [] = none a
    by_list a test (w ∷ ws) =
        let ne : suc (length ws) ≢ 0 = omega arith in
        let some : not (length (w ∷ ws) == 0) ≡ true = ap not (not_same (suc (length ws)) 0 ne) in
        rw some (by_test a (not (length (filter test (w ∷ ws)) == 0)))

-- ---- the pending prompts of a page

abbrev makes : Step → Bool
makes s = makes_prompt s.item

abbrev is_pending_of : RepliedHistory → ℕ → ℕ → Bool
is_pending_of T top k = is_pending T k && is_prompt_of T top k

pending-is : (T : RepliedHistory) (top : ℕ) → pending T top ≡ filter (is_pending_of T top) (numbers_made makes T)
unfolding pending
pending-is T top = refl

-- where no prompt is made, those are left that pass a test
pending-filter : (s : Step) (T : RepliedHistory) (top : ℕ) (test : ℕ → Bool) → makes_prompt s.item ≡ false
    → ((k : ℕ) → k ≤ length T → is_pending (s ∷ T) k ≡ (is_pending T k && test k)) → pending (s ∷ T) top ≡ filter test (pending T top)
pending-filter s T top test unmade same =
    pending-is (s ∷ T) top
    ∙ ap (filter (is_pending_of (s ∷ T) top)) (made-unmade makes s T unmade)
    ∙ filter-twice (λ k. k ≤ length T) (is_pending_of (s ∷ T) top) (is_pending_of T top) test (numbers_made makes T)
    (λ k le. rw (same k le, prompt-of-older s T top k le) (by_tests (is_pending T k) (test k) (is_prompt_of T top k))) (made-positions makes T)
    ∙ ap (filter test) (sym (pending-is T top))
  where
    by_tests : (a b c : Bool) → ((a && b) && c) ≡ ((a && c) && b)
    by_tests true true true = refl
    by_tests true true false = refl
    by_tests true false true = refl
    by_tests true false false = refl
    by_tests false b c = refl

pending-same : (s : Step) (T : RepliedHistory) (top : ℕ) → makes_prompt s.item ≡ false
    → ((k : ℕ) → k ≤ length T → is_pending (s ∷ T) k ≡ is_pending T k) → pending (s ∷ T) top ≡ pending T top
pending-same s T top unmade same =
    pending-is (s ∷ T) top
    ∙ ap (filter (is_pending_of (s ∷ T) top)) (made-unmade makes s T unmade)
    ∙ filter-agree (λ k. k ≤ length T) (is_pending_of (s ∷ T) top) (is_pending_of T top) (numbers_made makes T)
    (λ k le. rw (same k le, prompt-of-older s T top k le) refl) (made-positions makes T)
    ∙ sym (pending-is T top)

pending-added : (s : Step) (T : RepliedHistory) (top : ℕ) → makes_prompt s.item ≡ true
    → ((k : ℕ) → k ≤ length T → is_pending (s ∷ T) k ≡ is_pending T k) → is_pending (s ∷ T) (suc (length T)) ≡ true
    → pending (s ∷ T) top ≡ pending T top ++ option_to_list (some_if (is_prompt_of (s ∷ T) top (suc (length T))) (suc (length T)))
pending-added s T top makes_one same waits =
    pending-is (s ∷ T) top
    ∙ ap (filter (is_pending_of (s ∷ T) top)) (made-new makes s T makes_one)
    ∙ filter-append (is_pending_of (s ∷ T) top) (numbers_made makes T) (suc (length T) ∷ [])
    ∙ rw (filter-agree (λ k. k ≤ length T) (is_pending_of (s ∷ T) top) (is_pending_of T top) (numbers_made makes T) (λ k le. rw (same k le, prompt-of-older s T top k le) refl) (made-positions makes T), ← pending-is T top, waits)
    (ap (λ xs. pending T top ++ xs) (by_test (is_prompt_of (s ∷ T) top (suc (length T)))))
  where
    by_test : (b : Bool) → cond b (suc (length T) ∷ []) [] ≡ option_to_list (some_if b (suc (length T)))
    by_test true = refl
    by_test false = refl

-- ---- along a history

pub prompt-left : (duration : ℕ) (H : History) (e : Timed) (k : ℕ) → (effects_of (step_of duration H e)).requests ≡ false
    → is_prompt (replied duration (e ∷ H)) k ≡ is_prompt (replied duration H) k
unfolding is_prompt
prompt-left duration H e k h =
    rw (told-step duration e H) (made-none makes (step_of duration H e) (replied duration H) k (told-unmade duration (replied duration H) e.time e.event h))

pub told-left : (duration : ℕ) (H : History) (e : Timed) → (effects_of (step_of duration H e)).requests ≡ false
    → (prompt_replied (step_of duration H e).item ≡ None) × (makes_prompt (step_of duration H e).item ≡ false)
told-left duration H e h = (told-unasked duration (replied duration H) e.time e.event h, told-unmade duration (replied duration H) e.time e.event h)

pub number-told : (duration : ℕ) (H : History) (e : Timed) → makes_prompt (step_of duration H e).item ≡ true
    → prompt_replied (step_of duration H e).item ≡ Some (length (replied duration (e ∷ H)))
number-told duration H e h = told-number duration (replied duration H) e.time e.event h ∙ ap (λ (T : RepliedHistory). Some (length T)) (sym (told-step duration e H))

pub joins-pending : (duration : ℕ) (H : History) (e : Timed) (k : ℕ) → prompt_replied (step_of duration H e).item ≡ Some k → makes_prompt (step_of duration H e).item ≡ false
    → is_pending (replied duration H) k ≡ true
joins-pending duration H e k h unmade = told-joins duration (replied duration H) e.time e.event k h unmade

-- a step that makes no prompt leaves pending what was, save by an answer and where documents end
joined-same : (duration : ℕ) (H : History) (e : Timed) (k : ℕ) → makes_prompt (step_of duration H e).item ≡ false
    → (effects_of (step_of duration H e)).settles_prompt ≡ false → (effects_of (step_of duration H e)).ends_documents ≡ false
    → is_pending (step_of duration H e ∷ replied duration H) k ≡ is_pending (replied duration H) k
joined-same duration H e k unmade settles end = by_told (prompt_replied s.item) refl
  where
    s : Step
    s = step_of duration H e

    T : RepliedHistory
    T = replied duration H

    unanswered : answers s.event k ≡ false
    unanswered = no-answer s.event s.item k settles

    by_none : requesting_document_of k s T ≡ None → is_pending (s ∷ T) k ≡ is_pending T k
    by_none none = unasked-pending s T k none end ∙ rw unanswered (and-true (is_pending T k))

    by_same : (p : ℕ) → prompt_replied s.item ≡ Some p → (b : Bool) → (p == k) ≡ b → is_pending (s ∷ T) k ≡ is_pending T k
    by_same p is true same =
        let waits : is_pending T k ≡ true = joins-pending duration H e k (is ∙ ap Some (same-numbers p k same)) unmade in
        asked-pending s T k waits unanswered end ∙ sym waits
    by_same p is false same = by_none (asker-other s T p k is (apart p k same))

    by_told : (o : Option ℕ) → prompt_replied s.item ≡ o → is_pending (s ∷ T) k ≡ is_pending T k
    by_told None is = by_none (ap (option_and_then (λ p. option_and_then (λ d. some_if (p == k) d) (requesting_document s.event T))) is)
    by_told (Some p) is = by_same p is (p == k) refl

pub pending-unmade : (duration : ℕ) (H : History) (e : Timed) (top : ℕ) → makes_prompt (step_of duration H e).item ≡ false
    → (effects_of (step_of duration H e)).settles_prompt ≡ false → (effects_of (step_of duration H e)).ends_documents ≡ false
    → pending (replied duration (e ∷ H)) top ≡ pending (replied duration H) top
pending-unmade duration H e top unmade settles end =
    rw (told-step duration e H) (pending-same (step_of duration H e) (replied duration H) top unmade (λ k le. joined-same duration H e k unmade settles end))

pub pending-stay : (duration : ℕ) (H : History) (e : Timed) (top : ℕ) → (effects_of (step_of duration H e)).requests ≡ false
    → (effects_of (step_of duration H e)).settles_prompt ≡ false → (effects_of (step_of duration H e)).ends_documents ≡ false
    → pending (replied duration (e ∷ H)) top ≡ pending (replied duration H) top
pending-stay duration H e top h settles end = pending-unmade duration H e top (told-left duration H e h).1 settles end

pub pending-left : (duration : ℕ) (H : History) (e : Timed) (top : ℕ) → (effects_of (step_of duration H e)).requests ≡ false
    → (effects_of (step_of duration H e)).settles_prompt ≡ false
    → pending (replied duration (e ∷ H)) top ≡ filter (λ k. not (length (waiting (replied duration (e ∷ H)) k) == 0)) (pending (replied duration H) top)
pending-left duration H e top h settles =
    rw (told-step duration e H)
    (pending-filter (step_of duration H e) (replied duration H) top (λ k. not (length (waiting (step_of duration H e ∷ replied duration H) k) == 0)) (told-left duration H e h).1
    (λ k le. left-pending (step_of duration H e) (replied duration H) k h settles))

pub pending-answered : (duration : ℕ) (H : History) (e : Timed) (k : ℕ) (out : Outcome) (given : EventLife) (top : ℕ) → e.event ≡ event.Answered k out given
    → pending (replied duration (e ∷ H)) top ≡ filter (λ j. not (k == j)) (pending (replied duration H) top)
pending-answered duration H e k out given top is =
    rw (told-step duration e H)
    (pending-filter s T top (λ j. not (k == j)) (told-left duration H e unrequested).1
    (λ j le. unasked-pending s T j (unasked s T j unrequested) (ap (λ x. (effects x s.item).ends_documents) is) ∙ ap (λ x. is_pending T j && not (answers x j)) is))
  where
    s : Step
    s = step_of duration H e

    T : RepliedHistory
    T = replied duration H

    unrequested : (effects_of s).requests ≡ false
    unrequested = ap (λ x. (effects x s.item).requests) is

-- ---- prompts that were not made

known-prompt : (T : RepliedHistory) (now k : ℕ) (out : Outcome) (given : EventLife) → cause_of T now (event.Answered k out given) ≡ None → is_prompt T k ≡ true
unfolding names_unknown
known-prompt T now k out given h = by_made (is_prompt T k) ((faultless T now (event.Answered k out given) h).known)
  where
    by_made : (b : Bool) → (false || not b) ≡ false → b ≡ true
    by_made true e = refl
    by_made false e = cc

answered-known : (T : RepliedHistory) (now k : ℕ) (e : Event) → cause_of T now e ≡ None → answers e k ≡ true → is_prompt T k ≡ true
answered-known T now k (event.Answered prompt out given) h is = ap (is_prompt T) (sym (same-numbers prompt k is)) ∙ known-prompt T now prompt out given h
answered-known T now k e h is = cc

pub prompt-stays : (s : Step) (T : RepliedHistory) (k : ℕ) → is_prompt T k ≡ true → is_prompt (s ∷ T) k ≡ true
unfolding is_prompt
prompt-stays s T k h = made-stays makes s T k h

none-settled : (k : ℕ) → is_settled [] k ≡ false
unfolding is_settled newest_answer
none-settled k = refl

pub settled-made : (duration : ℕ) (H : History) (k : ℕ) → is_regular duration H ≡ true → is_settled (replied duration H) k ≡ true → is_prompt (replied duration H) k ≡ true
settled-made duration [] k regular h =
    let none : is_settled (replied duration []) k ≡ false = ap (λ (T : RepliedHistory). is_settled T k) (told-start duration) ∙ none-settled k in absurd (true≢false (sym h ∙ none))
settled-made duration (e ∷ H) k regular h =
    let w = regular-step duration e H regular in
    ap (λ (T : RepliedHistory). is_prompt T k) (told-step duration e H)
    ∙ prompt-stays (step_of duration H e) (replied duration H) k
    (by_answer (answers e.event k) refl (settled-made duration H k w.0) (accepted duration H e w.1)
    (sym (settled-step (step_of duration H e) (replied duration H) k) ∙ ap (λ (T : RepliedHistory). is_settled T k) (sym (told-step duration e H)) ∙ h))
  where
    by_answer : (b : Bool) → answers e.event k ≡ b → (is_settled (replied duration H) k ≡ true → is_prompt (replied duration H) k ≡ true) → cause_of (replied duration H) e.time e.event ≡ None
        → (b || is_settled (replied duration H) k) ≡ true → is_prompt (replied duration H) k ≡ true
    by_answer true is older ok settled = answered-known (replied duration H) e.time k e.event ok is
    by_answer false is older ok settled = older settled

-- a prompt that is not made was not made
unmade-before : (s : Step) (T : RepliedHistory) (k : ℕ) → is_prompt (s ∷ T) k ≡ false → is_prompt T k ≡ false
unmade-before s T k h = by_made (is_prompt T k) refl
  where
    by_made : (b : Bool) → is_prompt T k ≡ b → b ≡ false
    by_made false is = refl
    by_made true is = absurd (true≢false (sym (prompt-stays s T k is) ∙ h))

-- no document asks for it
unmade-unasked : (duration : ℕ) (H : History) (e : Timed) (k : ℕ) → is_prompt (step_of duration H e ∷ replied duration H) k ≡ false → requests (replied duration H) k ≡ []
    → requesting_document_of k (step_of duration H e) (replied duration H) ≡ None
unmade-unasked duration H e k unmade none = by_asker (requesting_document_of k s T) refl
  where
    s : Step
    s = step_of duration H e

    T : RepliedHistory
    T = replied duration H

    not-pending : is_pending T k ≡ false
    not-pending = pending-parts T k ∙ rw none (by_test (not (is_settled T k)))
      where
        by_test : (b : Bool) → (b && false) ≡ false
        by_test true = refl
        by_test false = refl

    by_makes : (b : Bool) → makes_prompt s.item ≡ b → prompt_replied s.item ≡ Some k → ⊥
    by_makes true is told_one =
        let here : Some (suc (length T)) ≡ Some k = sym (told-number duration T e.time e.event is) ∙ told_one in
        let same : suc (length T) ≡ k = cc in
        true≢false (sym (ap (is_prompt (s ∷ T)) (sym same) ∙ prompt-newest s T ∙ is) ∙ unmade)
    by_makes false is told_one = true≢false (sym (joins-pending duration H e k told_one is) ∙ not-pending)

    by_asker : (o : Option ℕ) → requesting_document_of k s T ≡ o → requesting_document_of k s T ≡ None
    by_asker None is = is
    by_asker (Some d) is = absurd (by_makes (makes_prompt s.item) refl (asker-is k s T d is).1)

-- a prompt that was not made has no requests
pub requests-unmade : (duration : ℕ) (H : History) (k : ℕ) → is_prompt (replied duration H) k ≡ false → requests (replied duration H) k ≡ []
requests-unmade duration [] k h = ap (λ (T : RepliedHistory). requests T k) (told-start duration) ∙ no-requests k
requests-unmade duration (e ∷ H) k h =
    let unmade : is_prompt (step_of duration H e ∷ replied duration H) k ≡ false = ap (λ (T : RepliedHistory). is_prompt T k) (sym (told-step duration e H)) ∙ h in
    let older : requests (replied duration H) k ≡ [] = requests-unmade duration H k (unmade-before (step_of duration H e) (replied duration H) k unmade) in
    ap (λ (T : RepliedHistory). requests T k) (told-step duration e H)
    ∙ unasked-step (step_of duration H e) (replied duration H) k (unmade-unasked duration H e k unmade older)
    ∙ older

-- ---- a new prompt

new-settled : (duration : ℕ) (H : History) → is_regular duration H ≡ true → is_settled (replied duration H) (suc (length (replied duration H))) ≡ false
new-settled duration H regular = by_settled (is_settled (replied duration H) (suc (length (replied duration H)))) refl
  where
    by_settled : (b : Bool) → is_settled (replied duration H) (suc (length (replied duration H))) ≡ b → b ≡ false
    by_settled false is = refl
    by_settled true is =
        let within = prompt-within (replied duration H) (suc (length (replied duration H))) (settled-made duration H (suc (length (replied duration H))) regular is) in
        absurd (omega (arith, within.1))

pub pending-made : (duration : ℕ) (H : History) (e : Timed) (top : ℕ) → is_regular duration H ≡ true → makes_prompt (step_of duration H e).item ≡ true
    → pending (replied duration (e ∷ H)) top
    ≡ pending (replied duration H) top ++ option_to_list (some_if (is_prompt_of (replied duration (e ∷ H)) top (length (replied duration (e ∷ H)))) (length (replied duration (e ∷ H))))
pending-made duration H e top regular makes_one =
    rw (told-step duration e H) (pending-added s T top makes_one older new)
  where
    s : Step
    s = step_of duration H e

    T : RepliedHistory
    T = replied duration H

    request : MakesFor T e.event
    request = told-makes duration T e.time e.event makes_one

    unanswered : (k : ℕ) → answers s.event k ≡ false
    unanswered k = ap (λ x. answers x k) request.2

    end : (effects_of s).ends_documents ≡ false
    end = ap (λ x. (effects x s.item).ends_documents) request.2

    number : prompt_replied s.item ≡ Some (suc (length T))
    number = told-number duration T e.time e.event makes_one

    older : (k : ℕ) → k ≤ length T → is_pending (s ∷ T) k ≡ is_pending T k
    older k le =
        let ne : suc (length T) ≢ k = omega arith in
        unasked-pending s T k (asker-other s T (suc (length T)) k number ne) end ∙ rw (unanswered k) (and-true (is_pending T k))

    document : (d : ℕ) × (document_in T request.0 ≡ Some d)
    document = makes-document duration T e.time request.0 request.1 (ap (λ x. makes_prompt (step_answer duration T e.time x)) (sym request.2) ∙ makes_one)

    asks : requesting_document_of (suc (length T)) s T ≡ Some document.0
    asks = asker-told s T (suc (length T)) number ∙ ap (λ x. requesting_document x T) request.2 ∙ document.1

    new : is_pending (s ∷ T) (suc (length T)) ≡ true
    new = new-pending s T (suc (length T)) document.0 (new-settled duration H regular) asks (unanswered (suc (length T))) end

-- ---- which prompts are pending in a page

prompts-made : (T : RepliedHistory) (k : ℕ) → is_one_of (numbers_made makes T) k ≡ is_prompt T k
unfolding is_prompt
prompts-made T k = made-are makes T k

pub pending-are : (T : RepliedHistory) (top k : ℕ) → is_one_of (pending T top) k ≡ (is_prompt T k && (is_pending T k && is_prompt_of T top k))
pending-are T top k =
    ap (λ xs. is_one_of xs k) (pending-is T top) ∙ filtered-are (is_pending_of T top) (numbers_made makes T) k ∙ ap (λ b. b && is_pending_of T top k) (prompts-made T k)
