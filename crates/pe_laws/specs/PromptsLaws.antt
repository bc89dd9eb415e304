-- Laws of prompts: what one step makes of requests, of the documents that wait and of the pending prompts of a page; and that of each pair one is pending in a page.
use Rattle.std.specs.Prelude.{◌≡◌, ◌≢◌, ℕ, ◌≤◌, true, false, not, ◌&&◌, ◌||◌, ◌==◌, IsTrue, [], ◌∷◌, ◌++◌, length, filter, Some, None, option_map, option_and_then, option_to_list}
use Rattle.pe_events.specs.Timed.{Timed}
use Rattle.pe_events.specs.declared.event.Event.TheVariants as event
use Rattle.pe_events.specs.declared.event.EventLife.{EventLife}
use Rattle.pe_events.specs.declared.event.Outcome.{Outcome}
use Rattle.pe_rules.specs.History.{Step, RepliedHistory, History, some_if}
use Rattle.pe_rules.specs.Numbering.{makes_prompt, is_prompt}
use Rattle.pe_rules.specs.Embedders.{page}
use Rattle.pe_rules.specs.Current.{is_current}
use Rattle.pe_rules.specs.Activation.{is_one_of}
use Rattle.pe_rules.specs.Settings.{pair_for, asking, prompt_pair, prompt_page}
use Rattle.pe_rules.specs.Prompts.{prompt_replied, requesting_document, requesting_document_of, requests, answers, is_settled, waiting, is_pending, is_prompt_of, pending}
use Rattle.pe_rules.specs.Replies.{step_answer, replied, is_regular}
use Rattle.pe_laws.specs.EffectsLaws.{effects_of}
use Rattle.pe_laws.specs.PendingPrompts.{IsOnePerPair}

-- the step of an event after a history, with what is told of it
abbrev pub step_of : ℕ → History → Timed → Step
step_of duration H e = record { time = e.time; event = e.event; item = step_answer duration (replied duration H) e.time e.event }

-- what holds of prompts
pub record PromptsLaws : Type 0 where
  -- a prompt that was there before a step keeps the pair and the page of its request
  pub pair_older : (s : Step) (T : RepliedHistory) (k : ℕ) → k ≤ length T → prompt_pair (s ∷ T) k ≡ prompt_pair T k
  pub page_older : (s : Step) (T : RepliedHistory) (k : ℕ) → k ≤ length T → prompt_page (s ∷ T) k ≡ prompt_page T k
  -- the newest position has the pair and the page of what the step asks for
  pub pair_newest : (s : Step) (T : RepliedHistory) → prompt_pair (s ∷ T) (length (s ∷ T)) ≡ option_and_then (λ q. pair_for T q.0 q.1) (asking s.event T)
  pub page_newest : (s : Step) (T : RepliedHistory) → prompt_page (s ∷ T) (length (s ∷ T)) ≡ option_map (λ q. page T q.0) (asking s.event T)
  -- one that was settled stays settled
  pub settled_stays : (s : Step) (T : RepliedHistory) (k : ℕ) → is_settled T k ≡ true → is_settled (s ∷ T) k ≡ true
  -- a prompt that was there and is not pending is never pending again: its documents are gone or it is settled, and requests join pending prompts only
  pub gone_stays_gone : (duration : ℕ) (newer H : History) (k : ℕ) → k ≤ length H → is_pending (replied duration H) k ≡ false → is_pending (replied duration (newer ++ H)) k ≡ false
  -- two pending prompts of a page that ask for one pair are one prompt: a later request of the pair joins it
  pub one_per_pair : (duration : ℕ) (H : History) → IsOnePerPair (replied duration H)
  -- the requests of a prompt after a step: a document that asks, and was told this prompt, comes last
  pub requests_start : (k : ℕ) → requests [] k ≡ []
  pub requests_step : (s : Step) (T : RepliedHistory) (k : ℕ) → requests (s ∷ T) k ≡ requests T k ++ option_to_list (requesting_document_of k s T)
  -- of the prompt that was told, of another prompt, and where the table of effects says that there is no request
  pub requests_told : (s : Step) (T : RepliedHistory) (k : ℕ) → prompt_replied s.item ≡ Some k → requests (s ∷ T) k ≡ requests T k ++ option_to_list (requesting_document s.event T)
  pub requests_other : (s : Step) (T : RepliedHistory) (p k : ℕ) → prompt_replied s.item ≡ Some p → p ≢ k → requests (s ∷ T) k ≡ requests T k
  pub requests_stay : (s : Step) (T : RepliedHistory) (k : ℕ) → (effects_of s).requests ≡ false → requests (s ∷ T) k ≡ requests T k
  -- the documents of requests are positions of the history, and one that asks is current before the step
  pub requests_within : (T : RepliedHistory) (k d : ℕ) → IsTrue (is_one_of (requests T k) d) → (1 ≤ d) × (d ≤ length T)
  pub asker_current : (k : ℕ) (s : Step) (T : RepliedHistory) (d : ℕ) → requesting_document_of k s T ≡ Some d → IsTrue (is_current T d) × (1 ≤ d) × (d ≤ length T)
  -- a number that is that of no prompt has no requests
  pub requests_unmade : (duration : ℕ) (H : History) (k : ℕ) → is_prompt (replied duration H) k ≡ false → requests (replied duration H) k ≡ []
  -- a step settles exactly the prompt that its answer names
  pub settled_step : (s : Step) (T : RepliedHistory) (k : ℕ) → is_settled (s ∷ T) k ≡ (answers s.event k || is_settled T k)
  pub settled_left : (s : Step) (T : RepliedHistory) (k : ℕ) → (effects_of s).settles_prompt ≡ false → is_settled (s ∷ T) k ≡ is_settled T k
  -- in a regular history a settled prompt was made
  pub settled_made : (duration : ℕ) (H : History) (k : ℕ) → IsTrue (is_regular duration H) → is_settled (replied duration H) k ≡ true → is_prompt (replied duration H) k ≡ true
  -- the documents that wait, after a step that ends no document, and after one that requests nothing: those whose documents are still current
  pub waiting_step : (s : Step) (T : RepliedHistory) (k : ℕ) → (effects_of s).ends_documents ≡ false → waiting (s ∷ T) k ≡ waiting T k ++ option_to_list (requesting_document_of k s T)
  pub waiting_left : (s : Step) (T : RepliedHistory) (k : ℕ) → (effects_of s).requests ≡ false → waiting (s ∷ T) k ≡ filter (is_current (s ∷ T)) (waiting T k)
  pub waiting_stay : (s : Step) (T : RepliedHistory) (k : ℕ) → (effects_of s).requests ≡ false → (effects_of s).ends_documents ≡ false → waiting (s ∷ T) k ≡ waiting T k
  -- a number that was that of a prompt stays one, and a step that requests nothing tells no prompt and makes none
  pub prompt_stays : (s : Step) (T : RepliedHistory) (k : ℕ) → is_prompt T k ≡ true → is_prompt (s ∷ T) k ≡ true
  pub prompt_left : (duration : ℕ) (H : History) (e : Timed) (k : ℕ) → (effects_of (step_of duration H e)).requests ≡ false
      → is_prompt (replied duration (e ∷ H)) k ≡ is_prompt (replied duration H) k
  pub told_left : (duration : ℕ) (H : History) (e : Timed) → (effects_of (step_of duration H e)).requests ≡ false
      → (prompt_replied (step_of duration H e).item ≡ None) × (makes_prompt (step_of duration H e).item ≡ false)
  -- a prompt that is made has the number of its step, and one that is told and not made was pending
  pub told_number : (duration : ℕ) (H : History) (e : Timed) → makes_prompt (step_of duration H e).item ≡ true
      → prompt_replied (step_of duration H e).item ≡ Some (length (replied duration (e ∷ H)))
  pub told_pending : (duration : ℕ) (H : History) (e : Timed) (k : ℕ) → prompt_replied (step_of duration H e).item ≡ Some k → makes_prompt (step_of duration H e).item ≡ false
      → is_pending (replied duration H) k ≡ true
  -- the pending prompts of a page are the prompts that are pending and of the page
  pub pending_are : (T : RepliedHistory) (top k : ℕ) → is_one_of (pending T top) k ≡ (is_prompt T k && (is_pending T k && is_prompt_of T top k))
  -- in a regular history a new prompt comes last among the pending ones of the page of its request
  pub pending_made : (duration : ℕ) (H : History) (e : Timed) (top : ℕ) → IsTrue (is_regular duration H) → makes_prompt (step_of duration H e).item ≡ true
      → pending (replied duration (e ∷ H)) top
      ≡ pending (replied duration H) top ++ option_to_list (some_if (is_prompt_of (replied duration (e ∷ H)) top (length (replied duration (e ∷ H)))) (length (replied duration (e ∷ H))))
  -- an answer removes exactly the prompt that it names
  pub pending_answered : (duration : ℕ) (H : History) (e : Timed) (k : ℕ) (out : Outcome) (given : EventLife) (top : ℕ) → e.event ≡ event.Answered k out given
      → pending (replied duration (e ∷ H)) top ≡ filter (λ j. not (k == j)) (pending (replied duration H) top)
  -- a step that requests nothing and settles none, such as one that ends documents, leaves those for which some document still waits
  pub pending_left : (duration : ℕ) (H : History) (e : Timed) (top : ℕ) → (effects_of (step_of duration H e)).requests ≡ false
      → (effects_of (step_of duration H e)).settles_prompt ≡ false
      → pending (replied duration (e ∷ H)) top ≡ filter (λ k. not (length (waiting (replied duration (e ∷ H)) k) == 0)) (pending (replied duration H) top)
  -- a step that makes no prompt, such as a request that joins one, leaves them, where it neither settles one nor ends documents
  pub pending_unmade : (duration : ℕ) (H : History) (e : Timed) (top : ℕ) → makes_prompt (step_of duration H e).item ≡ false
      → (effects_of (step_of duration H e)).settles_prompt ≡ false → (effects_of (step_of duration H e)).ends_documents ≡ false
      → pending (replied duration (e ∷ H)) top ≡ pending (replied duration H) top
  -- where the table of effects says no, they stay
  pub pending_stay : (duration : ℕ) (H : History) (e : Timed) (top : ℕ) → (effects_of (step_of duration H e)).requests ≡ false
      → (effects_of (step_of duration H e)).settles_prompt ≡ false → (effects_of (step_of duration H e)).ends_documents ≡ false
      → pending (replied duration (e ∷ H)) top ≡ pending (replied duration H) top
