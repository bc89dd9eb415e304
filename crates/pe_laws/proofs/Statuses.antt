-- Which statuses were made, and what a step leaves of the live ones.
use Rattle.std.proofs.Common.{◌≡◌, ◌≢◌, ℕ, suc, ◌<◌, ◌≤◌, Bool, true, false, not, ◌&&◌, ◌||◌, ◌==◌, List, [], ◌∷◌, ◌++◌, length, map, filter, Option, Some, None, is_some, is_none, unwrap_or, option_map, option_and_then, option_to_list, refl, sym, ◌∙◌, ap, arith, cond, true≢false}
use Rattle.std.specs.Option.{option_or}
use Rattle.std.proofs.lemmas.List.{map-append}
use Rattle.std.specs.List.{list_any}
use Rattle.std.proofs.lemmas.List.Folds.{list_any-append}
use Rattle.std.proofs.lemmas.List.Elements.{filter-append}
use Rattle.pe_features.specs.declared.feature.Feature.{Feature}
use Rattle.pe_features.specs.Features.{feature_named, key_of}
use Rattle.pe_events.specs.declared.event.Event.{Event}
use Rattle.pe_events.specs.declared.event.Event.TheVariants as event
use Rattle.pe_events.specs.declared.cause.Cause.{Cause}
use Rattle.pe_events.specs.Timed.{Timed}
use Rattle.pe_rules.specs.History.{StepAnswer, Step, RepliedHistory, History, some_if, newest_answer, all_answers, step_at}
use Rattle.pe_rules.specs.Numbering.{makes_status, is_status}
use Rattle.pe_rules.specs.Embedders.{page}
use Rattle.pe_rules.specs.Current.{ends, frames_above, is_current, document_in, is_live}
use Rattle.pe_rules.specs.Statuses.{Status, status_by, drops, is_live_status, live_statuses}
use Rattle.pe_rules.specs.Causes.{names_unknown, names_closed, has_bad_feature, cause_of, page_statuses}
use Rattle.pe_rules.specs.Replies.{replied, accepts, accepts_in, is_regular}
use Rattle.pe_laws.specs.Effects.{effects}
use Rattle.pe_laws.specs.EffectsLaws.{effects_of}
use Rattle.pe_laws.specs.PromptsLaws.{step_of}
use Rattle.pe_laws.specs.StatusesLaws.{statuses_made, status_at, leaves, Each, AreRising, IsKept}
use Rattle.pe_laws.proofs.Numbers.{not_same, is_same, same-numbers}
use Rattle.pe_laws.proofs.Lists.{both}
use Rattle.pe_laws.proofs.Each.{each-weaker, each-filter, each-append, each-option, filter-agree, filter-all, filter-twice, append-none, each-passes}
use Rattle.pe_laws.proofs.Steps.{told-start, told-step, told-length, step-other, step-older, step-newest, regular-step}
use Rattle.pe_laws.proofs.Numbering.{same-back, made-none, status-within, made-other, status-newest}
use Rattle.pe_laws.proofs.Embedders.{page-older}
use Rattle.pe_laws.proofs.Current.{and-true, current-older, document-in-frame}
use Rattle.pe_laws.proofs.Causes.{faultless}
use Rattle.pe_laws.proofs.Effects.{no-end}

-- ---- lists that rise

rise-append : (xs ys : List Status) → AreRising xs → AreRising ys → Each (λ x. Each (λ y. x.number < y.number) ys) xs → AreRising (xs ++ ys)
rise-append [] ys h k both = k
rise-append (x ∷ xs) ys h k both = (each-append (λ y. x.number < y.number) xs ys h.0 both.0, rise-append xs ys h.1 k both.1)

rise-filter : (test : Status → Bool) (xs : List Status) → AreRising xs → AreRising (filter test xs)
rise-filter test [] h = tt
rise-filter test (x ∷ xs) h = by_test (test x) (rise-filter test xs h.1)
  where
    by_test : (b : Bool) → AreRising (filter test xs) → AreRising (cond b (x ∷ filter test xs) (filter test xs))
    by_test true rest = (each-filter (λ y. x.number < y.number) test xs h.0, rest)
    by_test false rest = rest

rise-option : (o : Option Status) → AreRising (option_to_list o)
rise-option None = tt
rise-option (Some x) = (tt, tt)

-- ---- the status that a step makes

-- it has the number of its step, and its document was current before
made-at : (e : Event) (B : RepliedHistory) (k : ℕ) (x : Status) → status_by e B k ≡ Some x → (x.number ≡ k) × (is_current B x.document ≡ true) × (1 ≤ x.document) × (x.document ≤ length B)
made-at (event.Query frame feature) B k x h = by_document (document_in B frame) refl h
  where
    by_feature : (d : ℕ) → document_in B frame ≡ Some d → (o : Option Feature) → option_map (λ f. let y : Status = record { number = k; document = d; feature = f } in y) o ≡ Some x
        → (x.number ≡ k) × (is_current B x.document ≡ true) × (1 ≤ x.document) × (x.document ≤ length B)
    by_feature d is None e = cc
    by_feature d is (Some f) e =
        let y : Status = record { number = k; document = d; feature = f } in
        let same : y ≡ x = cc in
        let w = document-in-frame B frame d is in
        let of : d ≡ x.document = ap (λ (z : Status). z.document) same in
        (sym (ap (λ (z : Status). z.number) same), ap (is_current B) (sym of) ∙ w.0, omega (arith, w.2), omega (arith, w.3))

    by_document : (o : Option ℕ) → document_in B frame ≡ o → option_and_then (λ d. option_map (λ f. let y : Status = record { number = k; document = d; feature = f } in y) (feature_named feature)) o ≡ Some x
        → (x.number ≡ k) × (is_current B x.document ≡ true) × (1 ≤ x.document) × (x.document ≤ length B)
    by_document None is e = cc
    by_document (Some d) is e = by_feature d is (feature_named feature) e
made-at e B k x h = cc

pub made-start : statuses_made [] ≡ []
unfolding statuses_made all_answers
made-start = refl

pub made-step : (s : Step) (T : RepliedHistory) → statuses_made (s ∷ T) ≡ statuses_made T ++ option_to_list (status_by s.event T (suc (length T)))
unfolding statuses_made all_answers
made-step s T = refl

pub status-older : (s : Step) (T : RepliedHistory) (k : ℕ) → k ≤ length T → status_at (s ∷ T) k ≡ status_at T k
unfolding status_at
status-older s T k h = rw (step-older s T k h) refl

pub status-at-newest : (s : Step) (T : RepliedHistory) → status_at (s ∷ T) (suc (length T)) ≡ status_by s.event T (suc (length T))
unfolding status_at
status-at-newest s T = rw (step-newest s T) refl

-- ---- those that were made

kept-older : (s : Step) (T : RepliedHistory) (x : Status) → IsKept T x → IsKept (s ∷ T) x
kept-older s T x (from, to, of, before, is) = (from, omega (arith, to), of, before, status-older s T x.number to ∙ is)

kept-newest : (s : Step) (T : RepliedHistory) (x : Status) → status_by s.event T (suc (length T)) ≡ Some x → IsKept (s ∷ T) x
kept-newest s T x h =
    let w = made-at s.event T (suc (length T)) x h in
    (omega (arith, w.0), omega (arith, w.0), w.2, omega (arith, w.0, w.3), ap (status_at (s ∷ T)) w.0 ∙ status-at-newest s T ∙ h)

pub made-kept : (T : RepliedHistory) → Each (IsKept T) (statuses_made T)
made-kept [] = rw made-start tt
made-kept (s ∷ T) =
    rw (made-step s T)
    (each-append (IsKept (s ∷ T)) (statuses_made T) (option_to_list (status_by s.event T (suc (length T))))
    (each-weaker (IsKept T) (IsKept (s ∷ T)) (statuses_made T) (λ x k. kept-older s T x k) (made-kept T))
    (each-option (IsKept (s ∷ T)) (status_by s.event T (suc (length T))) (λ x h. kept-newest s T x h)))

pub made-rise : (T : RepliedHistory) → AreRising (statuses_made T)
made-rise [] = rw made-start tt
made-rise (s ∷ T) =
    rw (made-step s T)
    (rise-append (statuses_made T) (option_to_list (status_by s.event T (suc (length T)))) (made-rise T) (rise-option (status_by s.event T (suc (length T))))
    (each-weaker (IsKept T) (λ x. Each (λ y. x.number < y.number) (option_to_list (status_by s.event T (suc (length T))))) (statuses_made T)
    (λ x k. each-option (λ y. x.number < y.number) (status_by s.event T (suc (length T))) (λ y h. let w = made-at s.event T (suc (length T)) y h in omega (arith, w.0, k.1))) (made-kept T)))

-- ---- those that are live

pub live-of-made : (T : RepliedHistory) → live_statuses T ≡ filter (is_live_status T) (statuses_made T)
unfolding live_statuses statuses_made
live-of-made T = refl

pub live-start : live_statuses [] ≡ []
live-start = live-of-made [] ∙ ap (filter (is_live_status [])) made-start

pub live-rise : (T : RepliedHistory) → AreRising (live_statuses T)
live-rise T = rw (live-of-made T) (rise-filter (is_live_status T) (statuses_made T) (made-rise T))

pub live-kept : (T : RepliedHistory) → Each (IsKept T) (live_statuses T)
live-kept T = rw (live-of-made T) (each-filter (IsKept T) (is_live_status T) (statuses_made T) (made-kept T))

none-or : (b : Bool) (n : ℕ) (o : Option ℕ) → is_none (option_or (some_if b n) o) ≡ (not b && is_none o)
none-or true n o = refl
none-or false n o = refl

table : (a b c d : Bool) → ((a && b) && (c && d)) ≡ ((b && c) && (a && d))
table true true c d = refl
table true false c d = refl
table false true true d = refl
table false true false d = refl
table false false c d = refl

pub is-live-older : (s : Step) (T : RepliedHistory) (x : Status) → x.document ≤ length T → is_live_status (s ∷ T) x ≡ (is_live_status T x && leaves s T x)
unfolding is_live_status leaves newest_answer
is-live-older s T x le =
    rw (none-or (drops s.event x.number) x.number (newest_answer (λ s B. some_if (drops s.event x.number) x.number) T), current-older s T x.document le)
    (table (not (drops s.event x.number)) (is_none (newest_answer (λ s B. some_if (drops s.event x.number) x.number) T)) (is_current T x.document) (not (ends (frames_above T x.document) s.event)))

pub live-step : (s : Step) (T : RepliedHistory)
    → live_statuses (s ∷ T) ≡ filter (leaves s T) (live_statuses T) ++ filter (is_live_status (s ∷ T)) (option_to_list (status_by s.event T (suc (length T))))
live-step s T =
    live-of-made (s ∷ T)
    ∙ ap (filter (is_live_status (s ∷ T))) (made-step s T)
    ∙ filter-append (is_live_status (s ∷ T)) (statuses_made T) (option_to_list (status_by s.event T (suc (length T))))
    ∙ ap (λ (xs : List Status). xs ++ filter (is_live_status (s ∷ T)) (option_to_list (status_by s.event T (suc (length T)))))
    (filter-twice (IsKept T) (is_live_status (s ∷ T)) (is_live_status T) (leaves s T) (statuses_made T) (λ x k. is-live-older s T x (omega (arith, k.1, k.3))) (made-kept T)
    ∙ ap (filter (leaves s T)) (sym (live-of-made T)))

-- ---- what the table of effects says

no-status : (e : Event) (item : StepAnswer) → (effects e item).makes_status ≡ false → makes_status e ≡ false
no-status (event.Query frame feature) item h = h
no-status e item h = refl

pub no-status-by : (e : Event) (item : StepAnswer) (T : RepliedHistory) (k : ℕ) → (effects e item).makes_status ≡ false → status_by e T k ≡ None
no-status-by (event.Query frame feature) item T k h = cc
no-status-by e item T k h = refl

no-drop : (e : Event) (item : StepAnswer) (k : ℕ) → (effects e item).drops_status ≡ false → drops e k ≡ false
no-drop (event.DropStatus status) item k h = cc
no-drop e item k h = refl

pub is-status-stays : (s : Step) (T : RepliedHistory) (k : ℕ) → (effects_of s).makes_status ≡ false → is_status (s ∷ T) k ≡ is_status T k
unfolding is_status
is-status-stays s T k h = made-none (λ s. makes_status s.event) s T k (no-status s.event s.item h)

pub made-stay : (s : Step) (T : RepliedHistory) → (effects_of s).makes_status ≡ false → statuses_made (s ∷ T) ≡ statuses_made T
made-stay s T h = made-step s T ∙ rw (no-status-by s.event s.item T (suc (length T)) h) (append-none (statuses_made T))

at-beyond : (T : RepliedHistory) (k : ℕ) → length T < k → status_at T k ≡ None
unfolding status_at step_at newest_answer
at-beyond [] k h = refl
at-beyond (s ∷ T) k h = let ne : k ≢ suc (length T) = omega arith in rw (not_same k (suc (length T)) ne) (at-beyond T k (omega arith))

status-other : (s : Step) (T : RepliedHistory) (k : ℕ) → k ≢ suc (length T) → status_at (s ∷ T) k ≡ status_at T k
unfolding status_at
status-other s T k ne = rw (step-other s T k ne) refl

pub apart : (a b : ℕ) → (a == b) ≡ false → a ≢ b
apart a b h same = absurd (true≢false (sym (ap (λ n. n == b) same ∙ is_same b) ∙ h))

pub status-stays : (s : Step) (T : RepliedHistory) (k : ℕ) → (effects_of s).makes_status ≡ false → status_at (s ∷ T) k ≡ status_at T k
status-stays s T k h = by_place (k == suc (length T)) refl
  where
    by_place : (b : Bool) → (k == suc (length T)) ≡ b → status_at (s ∷ T) k ≡ status_at T k
    by_place true is =
        let here : k ≡ suc (length T) = same-numbers k (suc (length T)) is in
        ap (status_at (s ∷ T)) here ∙ status-at-newest s T ∙ no-status-by s.event s.item T (suc (length T)) h ∙ sym (at-beyond T k (omega arith))
    by_place false is = status-other s T k (apart k (suc (length T)) is)

-- ---- the live statuses after a step

pub live-unmade : (s : Step) (T : RepliedHistory) → status_by s.event T (suc (length T)) ≡ None → live_statuses (s ∷ T) ≡ filter (leaves s T) (live_statuses T)
live-unmade s T h = live-step s T ∙ rw h (append-none (filter (leaves s T) (live_statuses T)))

drop-leaves : (s : Step) (T : RepliedHistory) (k : ℕ) (x : Status) → s.event ≡ event.DropStatus k → leaves s T x ≡ not (k == x.number)
unfolding leaves
drop-leaves s T k x h = rw h (by_test (not (k == x.number)))
  where
    by_test : (b : Bool) → (b && true) ≡ b
    by_test true = refl
    by_test false = refl

pub live-drop : (s : Step) (T : RepliedHistory) (k : ℕ) → s.event ≡ event.DropStatus k → live_statuses (s ∷ T) ≡ filter (λ x. not (k == x.number)) (live_statuses T)
live-drop s T k h =
    live-unmade s T (ap (λ e. status_by e T (suc (length T))) h)
    ∙ filter-agree (IsKept T) (leaves s T) (λ x. not (k == x.number)) (live_statuses T) (λ x kept. drop-leaves s T k x h) (live-kept T)

-- a status that was live stays live exactly where its document is still current
current-leaves : (s : Step) (T : RepliedHistory) (x : Status) → drops s.event x.number ≡ false → x.document ≤ length T → is_current T x.document ≡ true
    → leaves s T x ≡ is_current (s ∷ T) x.document
unfolding leaves
current-leaves s T x undropped le current = rw (undropped, current-older s T x.document le, current) refl

live-current : (T : RepliedHistory) (x : Status) → is_live_status T x ≡ true → is_current T x.document ≡ true
unfolding is_live_status
live-current T x h = (both (is_none (newest_answer (λ s B. some_if (drops s.event x.number) x.number) T)) (is_current T x.document) h).1

-- each live status is kept, and passes the test
live-passes : (T : RepliedHistory) → Each (λ x. IsKept T x × (is_live_status T x ≡ true)) (live_statuses T)
live-passes T = rw (live-of-made T) (each-passes (IsKept T) (is_live_status T) (statuses_made T) (made-kept T))

pub live-ended : (s : Step) (T : RepliedHistory) → (effects_of s).drops_status ≡ false → (effects_of s).makes_status ≡ false
    → live_statuses (s ∷ T) ≡ filter (λ x. is_current (s ∷ T) x.document) (live_statuses T)
live-ended s T drop make =
    live-unmade s T (no-status-by s.event s.item T (suc (length T)) make)
    ∙ filter-agree (λ x. IsKept T x × (is_live_status T x ≡ true)) (leaves s T) (λ x. is_current (s ∷ T) x.document) (live_statuses T)
    (λ x h. let kept = h.0 in current-leaves s T x (no-drop s.event s.item x.number drop) (omega (arith, kept.1, kept.3)) (live-current T x h.1)) (live-passes T)

leaves-all : (s : Step) (T : RepliedHistory) (x : Status) → (effects_of s).drops_status ≡ false → (effects_of s).ends_documents ≡ false → leaves s T x ≡ true
unfolding leaves
leaves-all s T x drop end = rw (no-drop s.event s.item x.number drop, no-end s.event s.item (frames_above T x.document) end) refl

pub live-stay : (s : Step) (T : RepliedHistory) → (effects_of s).makes_status ≡ false → (effects_of s).drops_status ≡ false → (effects_of s).ends_documents ≡ false
    → live_statuses (s ∷ T) ≡ live_statuses T
live-stay s T make drop end =
    live-unmade s T (no-status-by s.event s.item T (suc (length T)) make) ∙ filter-all (leaves s T) (live_statuses T) (λ x. leaves-all s T x drop end)

-- ---- in a regular history no number is dropped before it is made

known-status : (T : RepliedHistory) (now k : ℕ) → cause_of T now (event.DropStatus k) ≡ None → is_status T k ≡ true
unfolding names_unknown
known-status T now k h = by_made (is_status T k) ((faultless T now (event.DropStatus k) h).known)
  where
    by_made : (b : Bool) → (false || not b) ≡ false → b ≡ true
    by_made true e = refl
    by_made false e = cc

pub accepted : (duration : ℕ) (H : History) (e : Timed) → accepts duration H e ≡ true → cause_of (replied duration H) e.time e.event ≡ None
unfolding accepts accepts_in
accepted duration H e h = by_cause (cause_of (replied duration H) e.time e.event) h
  where
    by_cause : (o : Option Cause) → is_none o ≡ true → o ≡ None
    by_cause None e = refl
    by_cause (Some why) e = cc

undropped-by : (T : RepliedHistory) (now k : ℕ) (e : Event) → length T < k → cause_of T now e ≡ None → drops e k ≡ false
undropped-by T now k (event.DropStatus status) le h =
    let within = status-within T status (known-status T now status h) in
    let ne : status ≢ k = omega (arith, within.1) in
    not_same status k ne
undropped-by T now k e le h = refl

undropped : (duration : ℕ) (H : History) (k : ℕ) → is_regular duration H ≡ true → length H < k → newest_answer (λ s B. some_if (drops s.event k) k) (replied duration H) ≡ None
unfolding replied newest_answer
undropped duration [] k regular le = refl
undropped duration (e ∷ H) k regular le =
    let w = regular-step duration e H regular in
    let n = told-length duration H in
    rw (undropped-by (replied duration H) e.time k e.event (omega (arith, n)) (accepted duration H e w.1), undropped duration H k w.0 (omega arith)) refl

-- a status of a new number was dropped by none
was-live : (duration : ℕ) (H : History) (x : Status) → is_regular duration H ≡ true
    → x.number ≡ suc (length (replied duration H)) → is_current (replied duration H) x.document ≡ true → is_live_status (replied duration H) x ≡ true
unfolding is_live_status
was-live duration H x regular number current =
    let n = told-length duration H in rw (undropped duration H x.number regular (omega (arith, n, number)), current) refl

-- the status that a step makes in a regular history is live
query-live : (duration : ℕ) (H : History) (s : Step) (x : Status) → is_regular duration H ≡ true
    → (effects_of s).drops_status ≡ false → (effects_of s).ends_documents ≡ false
    → status_by s.event (replied duration H) (suc (length (replied duration H))) ≡ Some x → is_live_status (s ∷ replied duration H) x ≡ true
query-live duration H s x regular drop end made =
    let T : RepliedHistory = replied duration H in
    let w = made-at s.event T (suc (length T)) x made in
    is-live-older s T x w.3 ∙ rw (leaves-all s T x drop end) (and-true (is_live_status T x) ∙ was-live duration H x regular w.0 w.1)

pub live-query : (duration : ℕ) (H : History) (s : Step) → is_regular duration H ≡ true
    → (effects_of s).drops_status ≡ false → (effects_of s).ends_documents ≡ false
    → live_statuses (s ∷ replied duration H) ≡ live_statuses (replied duration H) ++ option_to_list (status_by s.event (replied duration H) (suc (length (replied duration H))))
live-query duration H s regular drop end =
    let T : RepliedHistory = replied duration H in
    live-step s T
    ∙ rw (filter-all (leaves s T) (live_statuses T) (λ x. leaves-all s T x drop end))
    (ap (λ xs. live_statuses T ++ xs) (by_made (status_by s.event T (suc (length T))) (λ x made. query-live duration H s x regular drop end made)))
  where
    by_made : (o : Option Status) → ((x : Status) → o ≡ Some x → is_live_status (s ∷ replied duration H) x ≡ true)
        → filter (is_live_status (s ∷ replied duration H)) (option_to_list o) ≡ option_to_list o
    by_made None live = refl
    by_made (Some x) live = rw (live x refl) refl

-- ---- the live statuses of a page

-- those of the page, by the pages before the step
page-same : (s : Step) (T : RepliedHistory) (top : ℕ) (xs : List Status) → Each (λ x. x.document ≤ length T) xs
    → filter (λ x. page (s ∷ T) x.document == top) xs ≡ filter (λ x. page T x.document == top) xs
page-same s T top xs h = filter-agree (λ x. x.document ≤ length T) (λ x. page (s ∷ T) x.document == top) (λ x. page T x.document == top) xs (λ x le. rw (page-older s T x.document le) refl) h

pub live-documents : (T : RepliedHistory) → Each (λ x. x.document ≤ length T) (live_statuses T)
live-documents T = each-weaker (IsKept T) (λ x. x.document ≤ length T) (live_statuses T) (λ x k. omega (arith, k.1, k.3)) (live-kept T)

page-of-live : (s : Step) (T : RepliedHistory) (top : ℕ) (xs : List Status) → live_statuses (s ∷ T) ≡ xs → Each (λ x. x.document ≤ length T) xs
    → page_statuses (s ∷ T) top ≡ map (λ x. x.number) (filter (λ x. page T x.document == top) xs)
unfolding page_statuses
page-of-live s T top xs is h = rw is (ap (map (λ x. x.number)) (page-same s T top xs h))

page-is : (T : RepliedHistory) (top : ℕ) → page_statuses T top ≡ map (λ x. x.number) (filter (λ x. page T x.document == top) (live_statuses T))
unfolding page_statuses
page-is T top = refl

pub page-stay : (s : Step) (T : RepliedHistory) (top : ℕ) → (effects_of s).makes_status ≡ false → (effects_of s).drops_status ≡ false → (effects_of s).ends_documents ≡ false
    → page_statuses (s ∷ T) top ≡ page_statuses T top
page-stay s T top make drop end = page-of-live s T top (live_statuses T) (live-stay s T make drop end) (live-documents T) ∙ sym (page-is T top)

pub page-ended : (s : Step) (T : RepliedHistory) (top : ℕ) → (effects_of s).drops_status ≡ false → (effects_of s).makes_status ≡ false
    → page_statuses (s ∷ T) top ≡ map (λ x. x.number) (filter (λ x. page T x.document == top) (filter (λ x. is_current (s ∷ T) x.document) (live_statuses T)))
page-ended s T top drop make =
    page-of-live s T top (filter (λ x. is_current (s ∷ T) x.document) (live_statuses T)) (live-ended s T drop make)
    (each-filter (λ x. x.document ≤ length T) (λ x. is_current (s ∷ T) x.document) (live_statuses T) (live-documents T))

-- a test of numbers may come after the test of the page
numbers-filtered : (of test : ℕ → Bool) (xs : List Status)
    → map (λ x. x.number) (filter (λ x. of x.document) (filter (λ x. test x.number) xs)) ≡ filter test (map (λ x. x.number) (filter (λ x. of x.document) xs))
numbers-filtered of test [] = refl
numbers-filtered of test (x ∷ xs) = by_tests (of x.document) refl (test x.number) refl (numbers-filtered of test xs)
  where
    by_tests : (a : Bool) → of x.document ≡ a → (b : Bool) → test x.number ≡ b
        → map (λ x. x.number) (filter (λ x. of x.document) (filter (λ x. test x.number) xs)) ≡ filter test (map (λ x. x.number) (filter (λ x. of x.document) xs))
        → map (λ x. x.number) (filter (λ x. of x.document) (cond b (x ∷ filter (λ x. test x.number) xs) (filter (λ x. test x.number) xs)))
        ≡ filter test (map (λ x. x.number) (cond a (x ∷ filter (λ x. of x.document) xs) (filter (λ x. of x.document) xs)))
    by_tests true is true at rest = rw (is, at, rest) refl
    by_tests true is false at rest = rw (at, rest) refl
    by_tests false is true at rest = rw (is, rest) refl
    by_tests false is false at rest = rest

pub page-drop : (s : Step) (T : RepliedHistory) (k top : ℕ) → s.event ≡ event.DropStatus k → page_statuses (s ∷ T) top ≡ filter (λ n. not (k == n)) (page_statuses T top)
page-drop s T k top h =
    page-of-live s T top (filter (λ x. not (k == x.number)) (live_statuses T)) (live-drop s T k h)
    (each-filter (λ x. x.document ≤ length T) (λ x. not (k == x.number)) (live_statuses T) (live-documents T))
    ∙ numbers-filtered (λ d. page T d == top) (λ n. not (k == n)) (live_statuses T)
    ∙ ap (filter (λ n. not (k == n))) (sym (page-is T top))

pub page-query : (duration : ℕ) (H : History) (s : Step) (top : ℕ) → is_regular duration H ≡ true
    → (effects_of s).drops_status ≡ false → (effects_of s).ends_documents ≡ false
    → page_statuses (s ∷ replied duration H) top ≡ page_statuses (replied duration H) top
    ++ map (λ x. x.number) (filter (λ x. page (replied duration H) x.document == top) (option_to_list (status_by s.event (replied duration H) (suc (length (replied duration H))))))
page-query duration H s top regular drop end =
    let T : RepliedHistory = replied duration H in
    let new : List Status = option_to_list (status_by s.event T (suc (length T))) in
    page-of-live s T top (live_statuses T ++ new) (live-query duration H s regular drop end)
    (each-append (λ x. x.document ≤ length T) (live_statuses T) new (live-documents T)
    (each-option (λ x. x.document ≤ length T) (status_by s.event T (suc (length T))) (λ x made. let w = made-at s.event T (suc (length T)) x made in w.3)))
    ∙ ap (map (λ x. x.number)) (filter-append (λ x. page T x.document == top) (live_statuses T) new)
    ∙ map-append (λ (x : Status). x.number) (filter (λ x. page T x.document == top) (live_statuses T)) (filter (λ x. page T x.document == top) new)
    ∙ ap (λ xs. xs ++ map (λ x. x.number) (filter (λ x. page T x.document == top) new)) (sym (page-is T top))

-- ---- statuses by their numbers

any-filtered : {A : Type 0} (p q : A → Bool) (xs : List A) → list_any p (filter q xs) ≡ list_any (λ x. p x && q x) xs
any-filtered p q [] = refl
any-filtered p q (x ∷ xs) = by_test (q x) (any-filtered p q xs)
  where
    and-false : (b : Bool) → (b && false) ≡ false
    and-false true = refl
    and-false false = refl

    by_test : (b : Bool) → list_any p (filter q xs) ≡ list_any (λ x. p x && q x) xs → list_any p (cond b (x ∷ filter q xs) (filter q xs)) ≡ ((p x && b) || list_any (λ x. p x && q x) xs)
    by_test true rest = rw (and-true (p x), rest) refl
    by_test false rest = rw (and-false (p x)) rest

-- the status of a number passes the test
abbrev passes_at : (Status → Bool) → RepliedHistory → ℕ → Bool
passes_at test T k = unwrap_or (option_map test (status_at T k)) false

new-passes : (test : Status → Bool) (T : RepliedHistory) (k : ℕ) (o : Option Status) → ((x : Status) → o ≡ Some x → x.number ≡ suc (length T))
    → list_any (λ x. x.number == k && test x) (option_to_list o) ≡ (k == suc (length T) && unwrap_or (option_map test o) false)
new-passes test T k None number = by_test (k == suc (length T))
  where
    by_test : (b : Bool) → false ≡ (b && false)
    by_test true = refl
    by_test false = refl
new-passes test T k (Some x) number =
    ap (λ n. (n == k && test x) || false) (number x refl) ∙ ap (λ b. (b && test x) || false) (same-back (suc (length T)) k) ∙ by_test (k == suc (length T) && test x)
  where
    by_test : (b : Bool) → (b || false) ≡ b
    by_test true = refl
    by_test false = refl

nothing-at : (k : ℕ) → status_at [] k ≡ None
unfolding status_at step_at newest_answer
nothing-at k = refl

made-passes : (test : Status → Bool) (T : RepliedHistory) (k : ℕ) → list_any (λ x. x.number == k && test x) (statuses_made T) ≡ passes_at test T k
made-passes test [] k = rw (made-start, nothing-at k) refl
made-passes test (s ∷ T) k =
    ap (list_any (λ x. x.number == k && test x)) (made-step s T)
    ∙ list_any-append (λ x. x.number == k && test x) (statuses_made T) (option_to_list (status_by s.event T (suc (length T))))
    ∙ rw (made-passes test T k, new-passes test T k (status_by s.event T (suc (length T))) (λ x made. (made-at s.event T (suc (length T)) x made).0)) (by_place (k == suc (length T)) refl)
  where
    or-false : (b : Bool) → (b || false) ≡ b
    or-false true = refl
    or-false false = refl

    by_place : (b : Bool) → (k == suc (length T)) ≡ b → (passes_at test T k || (b && unwrap_or (option_map test (status_by s.event T (suc (length T)))) false)) ≡ passes_at test (s ∷ T) k
    by_place true is =
        let here : k ≡ suc (length T) = same-numbers k (suc (length T)) is in
        rw (at-beyond T k (omega arith), ap (status_at (s ∷ T)) here ∙ status-at-newest s T) refl
    by_place false is = rw (status-other s T k (apart k (suc (length T)) is)) (or-false (passes_at test T k))

-- a number is that of a live status where the status of that number is live
pub live-number : (T : RepliedHistory) (k : ℕ) → list_any (λ x. x.number == k) (live_statuses T) ≡ unwrap_or (option_map (is_live_status T) (status_at T k)) false
live-number T k =
    ap (list_any (λ x. x.number == k)) (live-of-made T) ∙ any-filtered (λ x. x.number == k) (is_live_status T) (statuses_made T) ∙ made-passes (is_live_status T) T k

-- ---- in a regular history each query makes its status

live-named : (T : RepliedHistory) (now frame : ℕ) (feature : List ℕ) → cause_of T now (event.Query frame feature) ≡ None → is_some (document_in T frame) ≡ true
unfolding names_closed is_live
live-named T now frame feature h = by_live (is_some (document_in T frame)) ((faultless T now (event.Query frame feature) h).opened)
  where
    by_live : (b : Bool) → ((not b || false) || false) ≡ false → b ≡ true
    by_live true e = refl
    by_live false e = cc

feature-named : (T : RepliedHistory) (now frame : ℕ) (feature : List ℕ) → cause_of T now (event.Query frame feature) ≡ None → is_some (feature_named feature) ≡ true
unfolding has_bad_feature
feature-named T now frame feature h = by_feature (feature_named feature) ((faultless T now (event.Query frame feature) h).feature)
  where
    by_feature : (o : Option Feature) → is_none (option_and_then key_of o) ≡ false → is_some o ≡ true
    by_feature None e = cc
    by_feature (Some f) e = refl

query-makes : (T : RepliedHistory) (now : ℕ) (e : Event) (k : ℕ) → cause_of T now e ≡ None → is_some (status_by e T k) ≡ makes_status e
query-makes T now (event.Query frame feature) k h = by_both (document_in T frame) (feature_named feature) (live-named T now frame feature h) (feature-named T now frame feature h)
  where
    by_both : (o : Option ℕ) (q : Option Feature) → is_some o ≡ true → is_some q ≡ true
        → is_some (option_and_then (λ d. option_map (λ f. let y : Status = record { number = k; document = d; feature = f } in y) q) o) ≡ true
    by_both None q live named = cc
    by_both (Some d) None live named = cc
    by_both (Some d) (Some f) live named = refl
query-makes T now e k h = refl

is-status-newest : (s : Step) (T : RepliedHistory) (k : ℕ) → k ≡ suc (length T) → is_status (s ∷ T) k ≡ makes_status s.event
is-status-newest s T k here = ap (is_status (s ∷ T)) here ∙ status-newest s T

number-other : (s : Step) (T : RepliedHistory) (k : ℕ) → k ≢ suc (length T) → is_status (s ∷ T) k ≡ is_status T k
unfolding is_status
number-other s T k ne = made-other (λ s. makes_status s.event) s T k ne

no-status-yet : (k : ℕ) → is_status [] k ≡ false
unfolding is_status newest_answer
no-status-yet k = refl

pub status-known : (duration : ℕ) (H : History) (k : ℕ) → is_regular duration H ≡ true → is_some (status_at (replied duration H) k) ≡ is_status (replied duration H) k
status-known duration [] k regular = rw (told-start duration) (ap is_some (nothing-at k) ∙ sym (no-status-yet k))
status-known duration (e ∷ H) k regular =
    let w = regular-step duration e H regular in
    rw (told-step duration e H)
    (by_place (step_of duration H e) (replied duration H) (k == suc (length (replied duration H))) refl (status-known duration H k w.0)
    (query-makes (replied duration H) e.time e.event (suc (length (replied duration H))) (accepted duration H e w.1)))
  where
    by_place : (s : Step) (T : RepliedHistory) (b : Bool) → (k == suc (length T)) ≡ b → is_some (status_at T k) ≡ is_status T k → is_some (status_by s.event T (suc (length T))) ≡ makes_status s.event
        → is_some (status_at (s ∷ T) k) ≡ is_status (s ∷ T) k
    by_place s T true is older new =
        let here : k ≡ suc (length T) = same-numbers k (suc (length T)) is in
        ap (λ n. is_some (status_at (s ∷ T) n)) here ∙ ap is_some (status-at-newest s T) ∙ new ∙ sym (is-status-newest s T k here)
    by_place s T false is older new =
        let ne : k ≢ suc (length T) = apart k (suc (length T)) is in
        ap is_some (status-other s T k ne) ∙ older ∙ sym (number-other s T k ne)
