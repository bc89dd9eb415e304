-- The page of a pending prompt: its top frame shows a document, since a document of the page waits.
use Rattle.std.proofs.Common.{◌≡◌, ℕ, suc, ◌+◌, ◌≤◌, Bool, true, false, not, ◌&&◌, ◌==◌, List, [], ◌∷◌, length, filter, Option, Some, None, is_some, unwrap_or, option_map, option_and_then, option_to_list, refl, sym, ◌∙◌, ap, subst, arith}
use Rattle.pe_features.specs.declared.feature.Feature.{Feature}
use Rattle.pe_features.specs.Features.{feature_named}
use Rattle.pe_store.specs.Pairs.{Pair}
use Rattle.pe_prompts.specs.declared.given.Given.{Given}
use Rattle.pe_prompts.specs.declared.queue.Prompt.{Prompt}
use Rattle.pe_prompts.specs.Pending.{prompt_in}
use Rattle.pe_prompts.specs.Queues as queue
use Rattle.pe_prompts.specs.Queues.{Queues}
use Rattle.pe_events.specs.Timed.{Timed}
use Rattle.pe_events.specs.declared.answer.Answer.{Answer}
use Rattle.pe_events.specs.declared.answer.Answer.TheVariants as answer
use Rattle.pe_events.specs.declared.event.Event.{Event}
use Rattle.pe_events.specs.declared.event.Event.TheVariants as event
use Rattle.pe_rules.specs.History.{Replied, Step, RepliedHistory, History, some_if}
use Rattle.pe_rules.specs.Numbering.{numbers_made, makes_prompt, is_prompt}
use Rattle.pe_rules.specs.Making.{frame_of}
use Rattle.pe_rules.specs.Embedders.{chain, first_or, top_document, page}
use Rattle.pe_rules.specs.Current.{is_current, document_in}
use Rattle.pe_rules.specs.Settings.{pair_for, prompt_page}
use Rattle.pe_rules.specs.Settings as settings
use Rattle.pe_rules.specs.Prompts.{prompt_replied, requesting_document, requesting_document_of, requests, waiting, is_pending, is_prompt_of, is_prompt_for, first_of, pending, pending_prompt_of}
use Rattle.pe_rules.specs.Causes.{state_found, prompt_to_join}
use Rattle.pe_rules.specs.Replies.{answer_or_done, answer_of_request, answer_of, step_answer, replied, is_regular}
use Rattle.pe_base.specs.declared.state.State.{State}
use Rattle.pe_laws.specs.HistoryLaws.{HistoryLaws}
use Rattle.pe_laws.specs.PromptsLaws.{step_of}
use Rattle.pe_laws.specs.StatusesLaws.{Each}
use Rattle.pe_requests.specs.Parts.{IsPrompts}
use Rattle.pe_requests.proofs.Lists.{each-weaker, each-both, each-filter, each-passes, each-append, each-unmap, same-numbers, is-same}
use Rattle.pe_requests.proofs.Rising.{pending-within}
use Rattle.pe_requests.proofs.Reading.{at-number, asked}
use Rattle.pe_requests.proofs.Asking.{joined-is, pending-of-page}

-- what each has, the first has
first-has : {A : Type 0} (P : A → Type 0) (xs : List A) (x : A) → Each P xs → first_of xs ≡ Some x → P x
first-has P [] x h is = cc
first-has P (y ∷ ys) x h is = let same : y ≡ x = cc in subst P same h.0

-- a request that was told a prompt which it did not make joined it
joined-answer : (a : Answer) (k : ℕ) → prompt_replied (Replied a) ≡ Some k → makes_prompt (Replied a) ≡ false → a ≡ answer.PromptJoined k
joined-answer (answer.PromptMade n) k told made = cc
joined-answer (answer.PromptJoined n) k told made = let same : n ≡ k = cc in ap answer.PromptJoined same
joined-answer other k told made = cc

joined-by-request : (duration : ℕ) (T : RepliedHistory) (now f : ℕ) (name : List ℕ) (k : ℕ) → answer_of duration T now (event.Request f name) ≡ answer.PromptJoined k → prompt_to_join T f name ≡ Some k
unfolding answer_of
joined-by-request duration T now f name k is = by_state (state_found T now f name) is
  where
    by_state : (o : Option State) → answer_or_done (option_map (λ s. answer_of_request s (length T + 1) (prompt_to_join T f name)) o) ≡ answer.PromptJoined k → prompt_to_join T f name ≡ Some k
    by_state None e = cc
    by_state (Some x) e = joined-is x (length T + 1) k (prompt_to_join T f name) e

-- a prompt that a request joins is one of the page of its document
joined-page : (T : RepliedHistory) (f d : ℕ) (name : List ℕ) (k p : ℕ) → document_in T f ≡ Some d → prompt_to_join T f name ≡ Some k → (k ≤ length T) × (prompt_page T k ≡ Some p → page T d ≡ p)
unfolding prompt_to_join pending_prompt_of
joined-page T f d name k p shown joins = by_feature (feature_named name) (sym (rw shown refl) ∙ joins)
  where
    by_page : (o : Option ℕ) → unwrap_or (option_map (λ q. q == page T d) o) false ≡ true → o ≡ Some p → page T d ≡ p
    by_page None is e = cc
    by_page (Some q) is e = let same : q ≡ p = cc in sym (same-numbers q (page T d) is) ∙ same

    by_pair : (o : Option Pair) → option_and_then (λ pair. first_of (filter (is_prompt_for T pair) (pending T (page T d)))) o ≡ Some k → (k ≤ length T) × (prompt_page T k ≡ Some p → page T d ≡ p)
    by_pair None e = cc
    by_pair (Some pair) e = (
      first-has (λ j. j ≤ length T) (filter (is_prompt_for T pair) (pending T (page T d))) k (each-filter (λ j. j ≤ length T) (is_prompt_for T pair) (pending T (page T d)) (pending-within T (page T d))) e,
      by_page (prompt_page T k) (first-has (λ j. is_prompt_of T (page T d) j ≡ true) (filter (is_prompt_for T pair) (pending T (page T d))) k
          (each-filter (λ j. is_prompt_of T (page T d) j ≡ true) (is_prompt_for T pair) (pending T (page T d)) (pending-of-page T (page T d))) e),
    )

    by_feature : (o : Option Feature) → option_and_then (λ x. option_and_then (pending_prompt_of T (page T d)) (pair_for T d x)) o ≡ Some k → (k ≤ length T) × (prompt_page T k ≡ Some p → page T d ≡ p)
    by_feature None e = cc
    by_feature (Some x) e = by_pair (pair_for T d x) e

-- the document of a request that is told a prompt
asker-parts : (k d : ℕ) (o a : Option ℕ) → option_and_then (λ p. option_and_then (λ x. some_if (p == k) x) a) o ≡ Some d → (o ≡ Some k) × (a ≡ Some d)
asker-parts k d None a h = cc
asker-parts k d (Some p) None h = cc
asker-parts k d (Some p) (Some x) h = by_test (p == k) refl h
  where
    by_test : (b : Bool) → (p == k) ≡ b → some_if b x ≡ Some d → (◌≡◌ {A = Option ℕ} (Some p) (Some k)) × (◌≡◌ {A = Option ℕ} (Some x) (Some d))
    by_test true same e = (ap Some (same-numbers p k same), e)
    by_test false other e = cc

module _ (laws : HistoryLaws) where
  -- the document of a request is of the page of the prompt that the request is told
  asker-paged : (duration : ℕ) (H : History) (e : Timed) (k d p : ℕ) → requesting_document_of k (step_of duration H e) (replied duration H) ≡ Some d
      → prompt_page (step_of duration H e ∷ replied duration H) k ≡ Some p → page (replied duration H) d ≡ p
  unfolding replied
  asker-paged duration H e k d p asks paged = let (told, asker) = asker-parts k d (prompt_replied s.item) (requesting_document s.event T) asks in by_event e.event refl told asker
    where
      T : RepliedHistory
      T = replied duration H

      s : Step
      s = step_of duration H e

      by_feature : (f : ℕ) (o : Option Feature) → option_map (λ (q : ℕ × Feature). page T q.0) (option_map (λ x. (d, x)) o) ≡ Some p → page T d ≡ p
      by_feature f None h = cc
      by_feature f (Some x) h = cc

      newest : (f : ℕ) (name : List ℕ) → e.event ≡ event.Request f name → document_in T f ≡ Some d → k ≡ suc (length T) → page T d ≡ p
      newest f name is shown next =
          by_feature f (feature_named name)
          (sym (ap (option_map (λ (q : ℕ × Feature). page T q.0)) (ap (λ v. settings.asking v T) is ∙ rw shown refl)) ∙ sym (laws.prompts.page_newest s T) ∙ ap (prompt_page (s ∷ T)) (sym next) ∙ paged)

      joined : (f : ℕ) (name : List ℕ) → document_in T f ≡ Some d → prompt_to_join T f name ≡ Some k → page T d ≡ p
      joined f name shown joins = let (within, same) = joined-page T f d name k p shown joins in same (sym (laws.prompts.page_older s T k within) ∙ paged)

      by_made : (f : ℕ) (name : List ℕ) → e.event ≡ event.Request f name → document_in T f ≡ Some d → prompt_replied s.item ≡ Some k → (b : Bool) → makes_prompt s.item ≡ b → page T d ≡ p
      by_made f name is shown told true makes =
          newest f name is shown (let both : ◌≡◌ {A = Option ℕ} (Some k) (Some (suc (length T))) = sym told ∙ laws.prompts.told_number duration H e makes in cc)
      by_made f name is shown told false makes =
          let item : s.item ≡ Replied (answer_of duration T e.time (event.Request f name)) = ap (step_answer duration T e.time) is in
          joined f name shown (joined-by-request duration T e.time f name k (joined-answer (answer_of duration T e.time (event.Request f name)) k (sym (ap prompt_replied item) ∙ told) (sym (ap makes_prompt item) ∙ makes)))

      by_event : (v : Event) → e.event ≡ v → prompt_replied s.item ≡ Some k → requesting_document v T ≡ Some d → page T d ≡ p
      by_event (event.Request f name) is told asker = by_made f name is asker told (makes_prompt s.item) refl
      by_event other is told asker = cc

  -- so the documents of all requests of a prompt are of its page
  askers-paged : (duration : ℕ) (H : History) (k p : ℕ) → prompt_page (replied duration H) k ≡ Some p → Each (λ d. (page (replied duration H) d ≡ p) × (d ≤ length (replied duration H))) (requests (replied duration H) k)
  askers-paged duration [] k p paged =
      subst (Each (λ d. (page (replied duration []) d ≡ p) × (d ≤ length (replied duration [])))) (sym (ap (λ T. requests T k) (laws.steps.told_start duration) ∙ laws.prompts.requests_start k)) tt
  askers-paged duration (e ∷ H) k p paged =
      subst (λ U. Each (λ d. (page U d ≡ p) × (d ≤ length U)) (requests U k)) (sym told)
      (subst (Each Is) (sym (laws.prompts.requests_step s T k))
      (each-append Is (requests T k) (option_to_list (requesting_document_of k s T)) (older (askers-paged duration H k p) (is_prompt T k) refl) (by_asker (requesting_document_of k s T) refl)))
    where
      T : RepliedHistory
      T = replied duration H

      s : Step
      s = step_of duration H e

      Is : ℕ → Type 0
      Is d = (page (s ∷ T) d ≡ p) × (d ≤ length (s ∷ T))

      told : replied duration (e ∷ H) ≡ s ∷ T
      told = laws.steps.told_step duration e H

      there : prompt_page (s ∷ T) k ≡ Some p
      there = subst (λ U. prompt_page U k ≡ Some p) told paged

      older : (prompt_page T k ≡ Some p → Each (λ d. (page T d ≡ p) × (d ≤ length T)) (requests T k)) → (b : Bool) → is_prompt T k ≡ b → Each Is (requests T k)
      older before true made =
          let most = (laws.numbering.prompt_within T k made).1 in
          each-weaker (λ d. (page T d ≡ p) × (d ≤ length T)) Is (requests T k) (λ d h. (laws.embedders.page_older s T d h.1 ∙ h.0, (let z = h.1 in omega arith)))
          (before (sym (laws.prompts.page_older s T k most) ∙ there))
      older before false none = subst (Each Is) (sym (laws.prompts.requests_unmade duration H k none)) tt

      by_asker : (o : Option ℕ) → requesting_document_of k s T ≡ o → Each Is (option_to_list o)
      by_asker None is = tt
      by_asker (Some d) is =
          let (current, least, most) = laws.prompts.asker_current k s T d is in
          ((laws.embedders.page_older s T d most ∙ asker-paged duration H e k d p is there, (let z = most in omega arith)), tt)

  -- the page of a current document shows one
  page-of-current : (duration : ℕ) (H : History) (d : ℕ) → is_regular duration H ≡ true → is_current (replied duration H) d ≡ true → is_some (document_in (replied duration H) (page (replied duration H) d)) ≡ true
  unfolding page top_document
  page-of-current duration H d regular current = by_chain (chain T d) refl
    where
      T : RepliedHistory
      T = replied duration H

      by_chain : (ds : List ℕ) → chain T d ≡ ds → is_some (document_in T (frame_of T (first_or d ds))) ≡ true
      by_chain [] is = ap is_some (laws.current.shown_in_frame duration H d regular current)
      by_chain (c ∷ cs) is = ap is_some (laws.current.shown_in_frame duration H c regular ((laws.tree.tree duration H regular).above_current d c current (rw (is, is-same c) refl)))

  pub page-shown : (duration : ℕ) (H : History) (queues : Queues) (k : ℕ) (p : Prompt) → is_regular duration H ≡ true → IsPrompts (replied duration H) queues → queue.prompt_at queues k ≡ Some p
      → is_some (document_in (replied duration H) p.page) ≡ true
  unfolding pending is_pending waiting
  page-shown duration H queues k p regular is at = by_given (queue.given_of queues k) at
    where
      T : RepliedHistory
      T = replied duration H

      first : (a b : Bool) → (a && b) ≡ true → a ≡ true
      first true b h = refl
      first false b h = h

      are-pending : (top : ℕ) → Each (λ j. is_pending T j ≡ true) (pending T top)
      are-pending top =
          each-weaker (λ j. (is_pending T j && is_prompt_of T top j) ≡ true) (λ j. is_pending T j ≡ true) (pending T top) (λ j h. first (is_pending T j) (is_prompt_of T top j) h)
          (each-passes (λ j. is_pending T j && is_prompt_of T top j) (numbers_made (λ s. makes_prompt s.item) T))

      some-wait : (ds : List ℕ) (b : Bool) → (not b && not (length ds == 0)) ≡ true → Each (λ d. (is_current T d ≡ true) × (page T d ≡ p.page)) ds → is_some (document_in T p.page) ≡ true
      some-wait [] true h each = cc
      some-wait [] false h each = cc
      some-wait (d ∷ ds) b h each = subst (λ f. is_some (document_in T f) ≡ true) each.0.1 (page-of-current duration H d regular each.0.0)

      by_given : (o : Option Given) → option_and_then (λ g. prompt_in k (queue.pending queues g.page)) o ≡ Some p → is_some (document_in T p.page) ≡ true
      by_given None e = cc
      by_given (Some g) e =
          let pending = at-number (λ j x. is_pending T j ≡ true) (queue.pending queues g.page) k p
          (each-unmap (λ j. is_pending T j ≡ true) (λ (x : ℕ × Prompt). x.0) (queue.pending queues g.page) (subst (Each (λ j. is_pending T j ≡ true)) (sym (is.pending g.page)) (are-pending g.page))) e in
          some-wait (waiting T k) _ pending
          (each-both (λ d. is_current T d ≡ true) (λ d. page T d ≡ p.page) (waiting T k) (each-passes (is_current T) (requests T k))
          (each-filter (λ d. page T d ≡ p.page) (is_current T) (requests T k)
          (each-weaker (λ d. (page T d ≡ p.page) × (d ≤ length T)) (λ d. page T d ≡ p.page) (requests T k) (λ d h. h.0) (askers-paged duration H k p.page (asked T queues k p is at).page))))
