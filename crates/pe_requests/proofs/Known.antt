-- What is known of the numbers of prompts: the page of each, and whether it is settled.
use Rattle.std.proofs.Common.{◌≡◌, ℕ, suc, ◌+◌, ◌≤◌, Bool, true, false, ◌==◌, List, [], ◌∷◌, length, Option, Some, None, is_some, option_map, option_and_then, refl, sym, ◌∙◌, ap, arith}
use Rattle.pe_base.specs.declared.state.State.{State}
use Rattle.pe_features.specs.declared.feature.Feature.{Feature}
use Rattle.pe_features.specs.Features.{feature_named}
use Rattle.pe_prompts.specs.declared.given.Given.{Given}
use Rattle.pe_events.specs.Timed.{Timed}
use Rattle.pe_events.specs.declared.event.Event.{Event}
use Rattle.pe_events.specs.declared.event.Event.TheVariants as event
use Rattle.pe_rules.specs.History.{Replied, Step, RepliedHistory, History}
use Rattle.pe_rules.specs.Numbering.{makes_prompt, is_prompt}
use Rattle.pe_rules.specs.Embedders.{page}
use Rattle.pe_rules.specs.Current.{document_in}
use Rattle.pe_rules.specs.Settings.{asking, prompt_page}
use Rattle.pe_rules.specs.PermissionState.{permission_state}
use Rattle.pe_rules.specs.Prompts.{is_settled}
use Rattle.pe_rules.specs.Causes.{state_found, prompt_to_join}
use Rattle.pe_rules.specs.Replies.{answer_of_request, answer_or_done, answer_of, step_answer, replied}
use Rattle.pe_laws.specs.HistoryLaws.{HistoryLaws}
use Rattle.pe_laws.specs.Effects.{effects}
use Rattle.pe_laws.specs.EffectsLaws.{effects_of}
use Rattle.pe_laws.specs.PromptsLaws.{step_of}
use Rattle.pe_requests.specs.Parts.{page_of_prompt, given_by}
use Rattle.pe_requests.proofs.Lists.{same-numbers, is-same}

-- what the definitions know of a number
abbrev pub known : RepliedHistory → ℕ → Option Given
known T k = option_map (given_by (is_settled T k)) (page_of_prompt T k)

pub known-same : (T U : RepliedHistory) (k : ℕ) → is_settled U k ≡ is_settled T k → page_of_prompt U k ≡ page_of_prompt T k → known T k ≡ known U k
known-same T U k settled paged = rw (settled, paged) refl

pub page-none : (T : RepliedHistory) (k : ℕ) → is_prompt T k ≡ false → page_of_prompt T k ≡ None
unfolding page_of_prompt
page-none T k h = rw h refl

pub page-some : (T : RepliedHistory) (k : ℕ) → is_prompt T k ≡ true → page_of_prompt T k ≡ prompt_page T k
unfolding page_of_prompt
page-some T k h = rw h refl

pub some-of : {A : Type 0} (o : Option A) → is_some o ≡ true → (x : A) × (o ≡ Some x)
some-of None h = cc
some-of (Some x) h = (x, refl)

-- ---- a prompt that is made has a request

found-alike : (T : RepliedHistory) (now : ℕ) (o : Option ℕ) (named : Option Feature)
    → is_some (option_and_then (λ d. option_map (λ f. let q : ℕ × Feature = (d, f) in q) named) o) ≡ is_some (option_and_then (λ d. option_map (permission_state T now d) named) o)
found-alike T now None named = refl
found-alike T now (Some d) None = refl
found-alike T now (Some d) (Some f) = refl

found-asks : (T : RepliedHistory) (now frame : ℕ) (feature : List ℕ) → is_some (asking (event.Request frame feature) T) ≡ is_some (state_found T now frame feature)
unfolding state_found
found-asks T now frame feature = found-alike T now (document_in T frame) (feature_named feature)

request-makes : (duration : ℕ) (T : RepliedHistory) (now frame : ℕ) (feature : List ℕ) → makes_prompt (step_answer duration T now (event.Request frame feature)) ≡ true
    → is_some (state_found T now frame feature) ≡ true
unfolding answer_of
request-makes duration T now frame feature h = by_found (state_found T now frame feature) h
  where
    by_found : (o : Option State) → makes_prompt (Replied (answer_or_done (option_map (λ s. answer_of_request s (length T + 1) (prompt_to_join T frame feature)) o))) ≡ true → is_some o ≡ true
    by_found None e = cc
    by_found (Some x) e = refl

module _ (laws : HistoryLaws) where
  asks-some : (duration : ℕ) (H : History) (e : Timed) → makes_prompt (step_of duration H e).item ≡ true → is_some (asking e.event (replied duration H)) ≡ true
  asks-some duration H e makes = by_event e.event refl
    where
      no-request : (effects_of (step_of duration H e)).requests ≡ false → is_some (asking e.event (replied duration H)) ≡ true
      no-request none = let unmade : makes_prompt (step_of duration H e).item ≡ false = (laws.prompts.told_left duration H e none).1 in cc

      by_event : (x : Event) → e.event ≡ x → is_some (asking e.event (replied duration H)) ≡ true
      by_event (event.Request frame feature) is =
          let T = replied duration H in
          ap (λ y. is_some (asking y T)) is ∙ found-asks T e.time frame feature
          ∙ request-makes duration T e.time frame feature (ap (λ y. makes_prompt (step_answer duration T e.time y)) (sym is) ∙ makes)
      by_event x is = no-request (ap (λ y. (effects y (step_of duration H e).item).requests) is)

  -- ---- numbers

  -- the next position is that of no prompt
  pub beyond : (T : RepliedHistory) (k : ℕ) → k ≡ suc (length T) → is_prompt T k ≡ false
  beyond T k next = by_made (is_prompt T k) refl
    where
      by_made : (b : Bool) → is_prompt T k ≡ b → b ≡ false
      by_made false is = refl
      by_made true is = let within : k ≤ length T = (laws.numbering.prompt_within T k is).1 in absurd (omega arith)

  -- an older number keeps what it is
  pub prompt-older : (s : Step) (T : RepliedHistory) (k : ℕ) → (k == suc (length T)) ≡ false → is_prompt (s ∷ T) k ≡ is_prompt T k
  prompt-older s T k other = laws.numbering.is_prompt_older s T k (λ next. absurd (apart (sym other ∙ sym (ap (λ n. k == n) next) ∙ is-same k)))
    where
      apart : false ≡ true → ⊥
      apart e = cc

  -- a step that makes no prompt leaves the numbers
  pub prompt-unmade : (s : Step) (T : RepliedHistory) (k : ℕ) → makes_prompt s.item ≡ false → is_prompt (s ∷ T) k ≡ is_prompt T k
  prompt-unmade s T k unmade = by_number (k == suc (length T)) refl
    where
      by_number : (b : Bool) → (k == suc (length T)) ≡ b → is_prompt (s ∷ T) k ≡ is_prompt T k
      by_number true is =
          let next : k ≡ suc (length T) = same-numbers k (suc (length T)) is in
          ap (is_prompt (s ∷ T)) next ∙ laws.numbering.is_prompt_newest s T ∙ unmade ∙ sym (beyond T k next)
      by_number false is = prompt-older s T k is

  -- a number that is that of a prompt as before has its page as before
  pub page-stays : (s : Step) (T : RepliedHistory) (k : ℕ) → is_prompt (s ∷ T) k ≡ is_prompt T k → page_of_prompt (s ∷ T) k ≡ page_of_prompt T k
  page-stays s T k same = by_made (is_prompt T k) refl
    where
      by_made : (b : Bool) → is_prompt T k ≡ b → page_of_prompt (s ∷ T) k ≡ page_of_prompt T k
      by_made true made = page-some (s ∷ T) k (same ∙ made) ∙ laws.prompts.page_older s T k (laws.numbering.prompt_within T k made).1 ∙ sym (page-some T k made)
      by_made false none = page-none (s ∷ T) k (same ∙ none) ∙ sym (page-none T k none)

  -- in a history a prompt has a page
  pub has-page : (duration : ℕ) (H : History) (k : ℕ) → is_prompt (replied duration H) k ≡ true → (p : ℕ) × (prompt_page (replied duration H) k ≡ Some p)
  unfolding replied
  has-page duration [] k h = let within = laws.numbering.prompt_within [] k h in absurd (omega arith)
  has-page duration (e ∷ H) k h = by_number (k == suc (length (replied duration H))) refl (has-page duration H k)
    where
      by_number : (b : Bool) → (k == suc (length (replied duration H))) ≡ b → (is_prompt (replied duration H) k ≡ true → (p : ℕ) × (prompt_page (replied duration H) k ≡ Some p))
          → (p : ℕ) × (prompt_page (step_of duration H e ∷ replied duration H) k ≡ Some p)
      by_number false other before =
          let T = replied duration H in
          let s = step_of duration H e in
          let was : is_prompt T k ≡ true = sym (prompt-older s T k other) ∙ h in
          let old = before was in
          (old.0, laws.prompts.page_older s T k (laws.numbering.prompt_within T k was).1 ∙ old.1)
      by_number true is before =
          let T = replied duration H in
          let s = step_of duration H e in
          let next : k ≡ suc (length T) = same-numbers k (suc (length T)) is in
          let makes : makes_prompt s.item ≡ true = sym (laws.numbering.is_prompt_newest s T) ∙ ap (is_prompt (s ∷ T)) (sym next) ∙ h in
          let asked = some-of (asking e.event T) (asks-some duration H e makes) in
          (page T (asked.0).0, ap (prompt_page (s ∷ T)) next ∙ laws.prompts.page_newest s T ∙ ap (option_map (λ (q : ℕ × Feature). page T q.0)) asked.1)
