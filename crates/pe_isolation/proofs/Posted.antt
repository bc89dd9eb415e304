-- The message of a number step by step, and that a message is one of the page of its target.
use Rattle.std.proofs.Common.{◌≡◌, ℕ, suc, ◌<◌, ◌≤◌, Bool, true, false, not, ◌==◌, cond, IsTrue, List, [], ◌∷◌, length, Option, Some, None, is_none, option_map, option_and_then, refl, sym, ◌∙◌, ap, arith}
use Rattle.std.specs.Option.{option_or}
use Rattle.pe_features.specs.Capabilities.{capability_named}
use Rattle.pe_features.specs.declared.capability.Capability.{Capability}
use Rattle.pe_events.specs.Timed.{Timed}
use Rattle.pe_events.specs.declared.cause.Cause.{Cause}
use Rattle.pe_events.specs.declared.event.Event.{Event}
use Rattle.pe_events.specs.declared.event.Event.TheVariants as event
use Rattle.pe_rules.specs.History.{Step, RepliedHistory, History, some_if, newest_answer, step_at}
use Rattle.pe_rules.specs.Embedders.{page, page_of_frame}
use Rattle.pe_rules.specs.Current.{document_in}
use Rattle.pe_rules.specs.Settings.{word_origin}
use Rattle.pe_rules.specs.Delegation.{Message, message_by, message}
use Rattle.pe_rules.specs.Causes.{is_same_number, names_other_page, cause_of}
use Rattle.pe_rules.specs.Replies.{replied, is_regular, accepts, accepts_in}
use Rattle.pe_laws.specs.HistoryLaws.{HistoryLaws}
use Rattle.pe_laws.specs.PromptsLaws.{step_of}
use Rattle.pe_isolation.proofs.Pages.{same-numbers, shown-page}

-- the message of a number after a step
pub message-step : (s : Step) (T : RepliedHistory) (m : ℕ) → message (s ∷ T) m ≡ cond (m == suc (length T)) (message_by s.event T) (message T m)
unfolding message step_at newest_answer
message-step s T m = by_test (m == suc (length T))
  where
    by_test : (b : Bool) → option_and_then (λ (a : Step × RepliedHistory). message_by a.0.event a.1) (option_or (some_if b (s, T)) (step_at T m))
        ≡ cond b (message_by s.event T) (option_and_then (λ (a : Step × RepliedHistory). message_by a.0.event a.1) (step_at T m))
    by_test true = refl
    by_test false = refl

-- the sender of a message that is posted is in the page of the document for which it is
by-sender : (T : RepliedHistory) (sender target : ℕ) (named : Option (List ℕ)) (capability : List ℕ) (x : Message) → names_other_page T (event.Post sender target named capability) ≡ false
    → message_by (event.Post sender target named capability) T ≡ Some x → x.page ≡ page T x.target
unfolding names_other_page
by-sender T sender target named capability x same is = by_target (document_in T target) refl is
  where
    by_name : (d p : ℕ) → page T d ≡ p → (o : Option Capability) → option_map (λ c. record { page = p; target = d; origin = option_and_then word_origin named; capability = c }) o ≡ Some x → x.page ≡ page T x.target
    by_name d p of None e = cc
    by_name d p of (Some c) e =
        let y : Message = record { page = p; target = d; origin = option_and_then word_origin named; capability = c } in
        let one : y ≡ x = cc in
        sym (ap (λ (z : Message). z.page) one) ∙ sym of ∙ ap (λ (z : Message). page T z.target) one

    by_page : (d : ℕ) → page_of_frame T target ≡ Some (page T d) → (o : Option ℕ) → page_of_frame T sender ≡ o
        → option_and_then (λ p. option_map (λ c. record { page = p; target = d; origin = option_and_then word_origin named; capability = c }) (capability_named capability)) o ≡ Some x → x.page ≡ page T x.target
    by_page d of None from e = cc
    by_page d of (Some p) from e =
        by_name d p (sym (same-numbers p (page T d) (twice (p == page T d) (ap (λ (o : Option ℕ). not (is_same_number (Some p) o)) (sym of) ∙ ap (λ (o : Option ℕ). not (is_same_number o (page_of_frame T target))) (sym from) ∙ same)))) (capability_named capability) e
      where
        twice : (b : Bool) → not b ≡ false → b ≡ true
        twice true h = refl
        twice false h = cc

    by_target : (o : Option ℕ) → document_in T target ≡ o
        → option_and_then (λ d. option_and_then (λ p. option_map (λ c. record { page = p; target = d; origin = option_and_then word_origin named; capability = c }) (capability_named capability)) (page_of_frame T sender)) o ≡ Some x
        → x.page ≡ page T x.target
    by_target None at e = cc
    by_target (Some d) at e = by_page d (shown-page T target d at) (page_of_frame T sender) refl e

by-post : (T : RepliedHistory) (e : Event) (x : Message) → names_other_page T e ≡ false → message_by e T ≡ Some x → x.page ≡ page T x.target
by-post T (event.Post sender target named capability) x same is = by-sender T sender target named capability x same is
by-post T e x same is = cc

pub accepted : (duration : ℕ) (H : History) (e : Timed) → accepts duration H e ≡ true → cause_of (replied duration H) e.time e.event ≡ None
unfolding accepts accepts_in
accepted duration H e h = by_cause (cause_of (replied duration H) e.time e.event) h
  where
    by_cause : (o : Option Cause) → is_none o ≡ true → o ≡ None
    by_cause None e = refl
    by_cause (Some why) e = cc

module _ (laws : HistoryLaws) where
  -- in a regular history each message is one of the page of its target
  pub message-page : (duration : ℕ) (H : History) → IsTrue (is_regular duration H) → (m : ℕ) (x : Message) → message (replied duration H) m ≡ Some x → x.page ≡ page (replied duration H) x.target
  unfolding replied
  message-page duration [] regular m x is = let w : (1 ≤ m) × (m ≤ 0) × (1 ≤ x.target) × (x.target < m) = laws.delegation.message_within [] m x is in absurd (omega arith)
  message-page duration (e ∷ H) regular m x is =
      by_test (m == suc (length (replied duration H))) (sym (message-step (step_of duration H e) (replied duration H) m) ∙ is)
      (message-page duration H (laws.steps.regular_step duration e H regular).0 m x)
    where
      within : x.target ≤ length (replied duration H)
      within =
          let w : (1 ≤ m) × (m ≤ suc (length (replied duration H))) × (1 ≤ x.target) × (x.target < m) = laws.delegation.message_within (step_of duration H e ∷ replied duration H) m x is in
          omega arith

      here : message_by e.event (replied duration H) ≡ Some x → x.page ≡ page (replied duration H) x.target
      here by =
          by-post (replied duration H) e.event x
          (laws.causes.accepted (replied duration H) e.time e.event (accepted duration H e (laws.steps.regular_step duration e H regular).1)).same_page by

      by_test : (b : Bool) → cond b (message_by e.event (replied duration H)) (message (replied duration H) m) ≡ Some x → (message (replied duration H) m ≡ Some x → x.page ≡ page (replied duration H) x.target)
          → x.page ≡ page (step_of duration H e ∷ replied duration H) x.target
      by_test true by older = here by ∙ sym (laws.embedders.page_older (step_of duration H e) (replied duration H) x.target within)
      by_test false by older = older by ∙ sym (laws.embedders.page_older (step_of duration H e) (replied duration H) x.target within)
