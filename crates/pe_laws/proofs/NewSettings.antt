-- What holds of the setting that an event makes.
use Rattle.std.proofs.Common.{◌≡◌, ◌≢◌, ◌⊎◌, inl, inr, ℕ, ◌+◌, ◌<◌, ◌≤◌, Bool, true, false, ◌&&◌, nat_le, List, ◌∷◌, Option, Some, None, unwrap_or, option_map, option_and_then, refl, sym, ◌∙◌, ap, arith}
use Rattle.std.specs.Option.{option_or}
use Rattle.std.proofs.lemmas.Bool.Decides.{nat_tests}
use Rattle.pe_base.specs.declared.state.State.{State}
use Rattle.pe_base.specs.declared.state.State.TheVariants as state
use Rattle.pe_base.specs.declared.limits.TheConstants.{EMBARGO_SPAN, TIME_LIMIT}
use Rattle.pe_features.specs.declared.feature.Feature.{Feature}
use Rattle.pe_features.specs.Features.{feature_named}
use Rattle.pe_origin.specs.declared.origin.Origin.{Origin}
use Rattle.pe_store.specs.declared.key.Life.{Life}
use Rattle.pe_store.specs.declared.key.Life.TheVariants as life
use Rattle.pe_store.specs.Pairs.{Pair}
use Rattle.pe_events.specs.Fitting.{is_text, is_text_or_none, is_name, is_span, is_span_or_none, is_life, is_fitting}
use Rattle.pe_events.specs.declared.event.Event.{Event}
use Rattle.pe_events.specs.declared.event.Event.TheVariants as event
use Rattle.pe_events.specs.declared.event.EventLife.{EventLife}
use Rattle.pe_events.specs.declared.event.EventLife.TheVariants as given
use Rattle.pe_events.specs.declared.event.Outcome.{Outcome}
use Rattle.pe_events.specs.declared.event.Outcome.TheVariants as outcome
use Rattle.pe_rules.specs.History.{StepAnswer, Step, RepliedHistory, some_if}
use Rattle.pe_rules.specs.Current.{ends, frames_above, is_current, document_in}
use Rattle.pe_rules.specs.Settings.{Setting, prompt_pair, prompt_page, word_origin, key_of_words, life_for, life_of_answer, stored_by_outcome, setting_named, setting_by, holds, counts, completes_embargo, embargo, embargo_for, dismissed_pair, standing_of}
use Rattle.pe_laws.specs.Effects.{effects}
use Rattle.pe_laws.proofs.Lists.{both}
use Rattle.pe_laws.proofs.Current.{current-older, current-within}
use Rattle.pe_laws.proofs.Lives.{not-page, life-current}

-- ---- what a setting is made of

-- the feature and the origin, or the state and the pair, that a setting is made of
made-of : {A B : Type 0} (g : A → B → Setting) (o : Option A) (q : Option B) (x : Setting) → option_and_then (λ a. option_map (λ b. g a b) q) o ≡ Some x
    → (a : A) × (b : B) × (o ≡ Some a) × (g a b ≡ x)
made-of g None q x h = cc
made-of g (Some a) None x h = cc
made-of g (Some a) (Some b) x h = (a, b, refl, ap (λ o. unwrap_or o (g a b)) h)

-- the setting by name, of a `set`
pub set-life : (time : ℕ) (feature first : List ℕ) (second : Option (List ℕ)) (stored : State) (span : Option ℕ) (T : RepliedHistory) (x : Setting)
    → setting_named time (event.SetState feature first second stored span) T ≡ Some x → x.life ≡ life_for time span
unfolding setting_named
set-life time feature first second stored span T x h =
    let k = made-of (λ (f : Feature) (o : Origin). let y : Setting = record { pair = (f, key_of_words o (option_and_then word_origin second)); state = stored; life = life_for time span } in y) (feature_named feature) (word_origin first) x h in
    ap (λ (y : Setting). y.life) (sym k.3)

-- the setting by name, of an answer
abbrev pub AnswerLife : ℕ → Outcome → EventLife → ℕ → RepliedHistory → Setting → Type 0
AnswerLife time out given prompt T x = (stored_by_outcome out ≡ Some x.state) × (x.life ≡ life_of_answer time given (option_and_then (document_in T) (prompt_page T prompt)))

pub answer-life : (time prompt : ℕ) (out : Outcome) (given : EventLife) (T : RepliedHistory) (x : Setting) → setting_named time (event.Answered prompt out given) T ≡ Some x
    → AnswerLife time out given prompt T x
unfolding setting_named
answer-life time prompt out given T x h =
    let top : Option ℕ = option_and_then (document_in T) (prompt_page T prompt) in
    let k = made-of (λ (stored : State) (pair : Pair). let y : Setting = record { pair = pair; state = stored; life = life_of_answer time given top } in y) (stored_by_outcome out) (prompt_pair T prompt) x h in
    (k.2 ∙ ap (λ (y : Setting). Some y.state) k.3, ap (λ (y : Setting). y.life) (sym k.3))

-- the setting of an embargo
embargo-life : (time : ℕ) (T : RepliedHistory) (q : Pair) (x : Setting) → embargo_for time T q ≡ Some x → x.life ≡ life.Until (time + EMBARGO_SPAN)
unfolding embargo_for
embargo-life time T q x h = by_test (counts T time (standing_of T q) && completes_embargo (standing_of T q)) h
  where
    by_test : (b : Bool) → some_if b (embargo time q) ≡ Some x → x.life ≡ life.Until (time + EMBARGO_SPAN)
    by_test true e = ap (λ (o : Option Setting). unwrap_or (option_map (λ (y : Setting). y.life) o) x.life) (sym e)
    by_test false e = cc

-- a setting is made by name, or is an embargo
abbrev pub ByWay : ℕ → Event → RepliedHistory → Setting → Type 0
ByWay time e T x = (setting_named time e T ≡ Some x) ⊎ (x.life ≡ life.Until (time + EMBARGO_SPAN))

pub by-way : (time : ℕ) (e : Event) (T : RepliedHistory) (x : Setting) → setting_by time e T ≡ Some x → ByWay time e T x
unfolding setting_by
by-way time e T x h = by_named (setting_named time e T) refl h
  where
    by_dismissed : (o : Option Pair) → option_and_then (embargo_for time T) o ≡ Some x → ByWay time e T x
    by_dismissed None k = cc
    by_dismissed (Some q) k = inr (embargo-life time T q x k)

    by_named : (o : Option Setting) → setting_named time e T ≡ o → option_or o (option_and_then (embargo_for time T) (dismissed_pair e T)) ≡ Some x → ByWay time e T x
    by_named None made k = by_dismissed (dismissed_pair e T) k
    by_named (Some y) made k = inl (made ∙ k)

-- ---- a setting whose life names a document does not store prompt

decided : (out : Outcome) (x : State) → stored_by_outcome out ≡ Some x → x ≢ state.Prompt
decided outcome.Allow x h = λ e. let no : ◌≡◌ {A = Option State} (Some state.Granted) (Some state.Prompt) = h ∙ ap Some e in cc
decided outcome.Block x h = λ e. let no : ◌≡◌ {A = Option State} (Some state.Denied) (Some state.Prompt) = h ∙ ap Some e in cc
decided outcome.Dismiss x h = cc

unnamed : (time : ℕ) (e : Event) (T : RepliedHistory) (x : Setting) (d : ℕ) → setting_named time e T ≡ Some x → x.life ≡ life.Page d → x.state ≢ state.Prompt
unfolding setting_named
unnamed time (event.SetState feature first second stored span) T x d h is = absurd (not-page time span d (sym (set-life time feature first second stored span T x h) ∙ is))
unnamed time (event.Answered prompt out given) T x d h is = decided out x.state (answer-life time prompt out given T x h).0
unnamed time e T x d h is = cc

pub page-decides : (time : ℕ) (e : Event) (T : RepliedHistory) (x : Setting) (d : ℕ) → setting_by time e T ≡ Some x → x.life ≡ life.Page d → x.state ≢ state.Prompt
page-decides time e T x d h is = by_way (by-way time e T x h)
  where
    by_way : ByWay time e T x → x.state ≢ state.Prompt
    by_way (inl named) = unnamed time e T x d named is
    by_way (inr embargo) = let no : life.Until (time + EMBARGO_SPAN) ≡ life.Page d = sym embargo ∙ is in cc

-- ---- a setting holds when it is made

holds-before : (T : RepliedHistory) (time end : ℕ) → time < end → holds T time (life.Until end) ≡ true
unfolding holds
holds-before T time end h = grind (arith, nat_tests)

holds-forever : (T : RepliedHistory) (time : ℕ) → holds T time life.Forever ≡ true
unfolding holds
holds-forever T time = refl

holds-page : (T : RepliedHistory) (time d : ℕ) → is_current T d ≡ true → holds T time (life.Page d) ≡ true
unfolding holds
holds-page T time d h = h

-- an event that makes a setting ends no frame
ends-none : (time : ℕ) (e : Event) (T : RepliedHistory) (x : Setting) (frames : List ℕ) → setting_by time e T ≡ Some x → ends frames e ≡ false
unfolding setting_by setting_named
ends-none time (event.Navigate frame url header) T x frames h = cc
ends-none time (event.Close frame) T x frames h = cc
ends-none time e T x frames h = refl

-- nor does it make a status, or drop one
alone : (time : ℕ) (e : Event) (item : StepAnswer) (T : RepliedHistory) (x : Setting) → setting_by time e T ≡ Some x
    → ((effects e item).makes_status ≡ false) × ((effects e item).drops_status ≡ false) × ((effects e item).ends_documents ≡ false)
unfolding setting_by setting_named
alone time (event.SetState feature first second state span) item T x h = (refl, refl, refl)
alone time (event.Answered prompt out given) item T x h = (refl, refl, refl)
alone time e item T x h = cc

pub set-alone : (s : Step) (T : RepliedHistory) (x : Setting) → setting_by s.time s.event T ≡ Some x
    → ((effects s.event s.item).makes_status ≡ false) × ((effects s.event s.item).drops_status ≡ false) × ((effects s.event s.item).ends_documents ≡ false)
set-alone s T x h = alone s.time s.event s.item T x h

-- the end of a life, or another time
abbrev end_or : Life → ℕ → ℕ
end_or (life.Until end) other = end
end_or l other = other

-- the span of an event that a line can say is at least 1
span-end : (time ms end : ℕ) → is_span ms ≡ true → life.Until (time + ms) ≡ life.Until end → time < end
span-end time ms end fits e =
    let least = (both (nat_le 1 ms) (nat_le ms TIME_LIMIT) fits).0 in
    let one : 1 ≤ ms = grind (arith, nat_tests) in
    let same : time + ms ≡ end = ap (λ l. end_or l (time + ms)) e in
    omega arith

set-end : (time end : ℕ) (span : Option ℕ) → is_span_or_none span ≡ true → life_for time span ≡ life.Until end → time < end
set-end time end None fits e = cc
set-end time end (Some ms) fits e = span-end time ms end fits e

answer-end : (time end : ℕ) (out : Outcome) (given : EventLife) (top : Option ℕ) (x : State) → is_life out given ≡ true → stored_by_outcome out ≡ Some x
    → life_of_answer time given top ≡ life.Until end → life.Until end ≢ life.Until 0 → time < end
answer-end time end out given.Forever top x fits made e away = cc
answer-end time end out given.Once (Some d) x fits made e away = cc
answer-end time end out given.Once None x fits made e away = absurd (away (sym e))
answer-end time end outcome.Allow (given.For ms) top x fits made e away = span-end time ms end fits e
answer-end time end outcome.Block (given.For ms) top x fits made e away = span-end time ms end fits e
answer-end time end outcome.Dismiss (given.For ms) top x fits made e away = cc

named-end : (time end : ℕ) (e : Event) (T : RepliedHistory) (x : Setting) → is_fitting e ≡ true → setting_named time e T ≡ Some x → x.life ≡ life.Until end
    → life.Until end ≢ life.Until 0 → time < end
unfolding setting_named
named-end time end (event.SetState feature first second stored span) T x fits h is away =
    set-end time end span (both (is_text feature && is_text first && is_text_or_none second) (is_span_or_none span) fits).1 (sym (set-life time feature first second stored span T x h) ∙ is)
named-end time end (event.Answered prompt out given) T x fits h is away =
    let k = answer-life time prompt out given T x h in
    answer-end time end out given (option_and_then (document_in T) (prompt_page T prompt)) x.state (both (is_name prompt) (is_life out given) fits).1 k.0 (sym k.1 ∙ is) away
named-end time end e T x fits h is away = cc

pub set-holds : (s : Step) (T : RepliedHistory) (x : Setting) → is_fitting s.event ≡ true → setting_by s.time s.event T ≡ Some x → x.life ≢ life.Until 0 → holds (s ∷ T) s.time x.life ≡ true
set-holds s T x fits h away = by_life x.life refl
  where
    ended : (end : ℕ) → x.life ≡ life.Until end → ByWay s.time s.event T x → s.time < end
    ended end is (inl named) = named-end s.time end s.event T x fits named is (λ e. away (is ∙ e))
    ended end is (inr embargo) = span-end s.time EMBARGO_SPAN end refl (sym embargo ∙ is)

    by_life : (l : Life) → x.life ≡ l → holds (s ∷ T) s.time l ≡ true
    by_life life.Forever is = holds-forever (s ∷ T) s.time
    by_life (life.Until end) is = holds-before (s ∷ T) s.time end (ended end is (by-way s.time s.event T x h))
    by_life (life.Page d) is =
        let now = life-current s.time s.event T x d h is in
        holds-page (s ∷ T) s.time d (current-older s T d (current-within T d now).1 ∙ rw (now, ends-none s.time s.event T x (frames_above T d) h) refl)
