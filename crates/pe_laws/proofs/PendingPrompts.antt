-- Of each pair, one prompt of a page is pending.
use Rattle.std.proofs.Common.{◌≡◌, ◌⊎◌, inl, inr, ℕ, suc, ◌+◌, ◌≤◌, Bool, true, false, not, ◌&&◌, ◌||◌, ◌==◌, List, [], ◌∷◌, ◌++◌, length, filter, Option, Some, None, is_some, unwrap_or, option_map, option_and_then, option_to_list, refl, sym, ◌∙◌, ap, arith, length-append}
use Rattle.std.specs.Option.{option_or}
use Rattle.std.specs.Bool.{Decides}
use Rattle.std.specs.List.{list_any}
use Rattle.std.proofs.lemmas.List.Folds.{list_any-append}
use Rattle.pe_features.specs.declared.feature.Feature.{Feature}
use Rattle.pe_features.specs.Features.{feature_named}
use Rattle.pe_store.specs.Pairs.{Pair, is_same_pair}
use Rattle.pe_events.specs.declared.event.Event.{Event}
use Rattle.pe_events.specs.declared.event.Event.TheVariants as event
use Rattle.pe_rules.specs.History.{Step, RepliedHistory, History, some_if, newest_answer, all_answers}
use Rattle.pe_rules.specs.Numbering.{numbers_made, makes_prompt}
use Rattle.pe_rules.specs.Embedders.{page}
use Rattle.pe_rules.specs.Current.{is_current, document_in}
use Rattle.pe_rules.specs.Activation.{is_one_of}
use Rattle.pe_rules.specs.Settings.{pair_for, asking, prompt_pair, prompt_page}
use Rattle.pe_rules.specs.Prompts.{prompt_replied, requesting_document, requesting_document_of, requests, answers, is_settled, waiting, is_pending, is_prompt_of, pending, first_of, is_prompt_for, pending_prompt_of}
use Rattle.pe_rules.specs.Causes.{prompt_to_join}
use Rattle.pe_rules.specs.Replies.{step_answer, replied}
use Rattle.pe_laws.specs.PendingPrompts.{IsOnePerPair}
use Rattle.pe_laws.proofs.Numbers.{same-numbers}
use Rattle.pe_laws.proofs.Older.{AllWithin}
use Rattle.pe_laws.proofs.Current.{was-current, document-in-below}
use Rattle.pe_laws.proofs.Lists.{both, of-filtered, into-filtered, left-of-filtered, first-is-one, none-without-first}
use Rattle.pe_laws.proofs.Steps.{told-length, step-older, step-newest}
use Rattle.pe_laws.proofs.PromptsTold.{AsksFor, told-asks, MakesFor, told-makes}

-- ---- the request of a prompt

pub prompt-pair-older : (s : Step) (T : RepliedHistory) (k : ℕ) → k ≤ length T → prompt_pair (s ∷ T) k ≡ prompt_pair T k
unfolding prompt_pair
prompt-pair-older s T k h = rw (step-older s T k h) refl

pub prompt-page-older : (s : Step) (T : RepliedHistory) (k : ℕ) → k ≤ length T → prompt_page (s ∷ T) k ≡ prompt_page T k
unfolding prompt_page
prompt-page-older s T k h = rw (step-older s T k h) refl

pub prompt-pair-newest : (s : Step) (T : RepliedHistory) → prompt_pair (s ∷ T) (suc (length T)) ≡ option_and_then (λ (q : ℕ × Feature). pair_for T q.0 q.1) (asking s.event T)
unfolding prompt_pair
prompt-pair-newest s T = rw (step-newest s T) refl

pub prompt-page-newest : (s : Step) (T : RepliedHistory) → prompt_page (s ∷ T) (suc (length T)) ≡ option_map (λ (q : ℕ × Feature). page T q.0) (asking s.event T)
unfolding prompt_page
prompt-page-newest s T = rw (step-newest s T) refl

pub prompt-of-older : (s : Step) (T : RepliedHistory) (top k : ℕ) → k ≤ length T → is_prompt_of (s ∷ T) top k ≡ is_prompt_of T top k
prompt-of-older s T top k h = ap (λ o. unwrap_or (option_map (λ p. p == top) o) false) (prompt-page-older s T k h)

-- ---- the prompts that were made

made-step : (s : Step) (T : RepliedHistory) → numbers_made (λ s. makes_prompt s.item) (s ∷ T) ≡ numbers_made (λ s. makes_prompt s.item) T ++ option_to_list (some_if (makes_prompt s.item) (suc (length T)))
unfolding all_answers
made-step s T = refl

-- a prompt that was made is older than the last step, or made by it
abbrev MadeBy : Step → RepliedHistory → ℕ → Type 0
MadeBy s T k = (is_one_of (numbers_made (λ s. makes_prompt s.item) T) k ≡ true) ⊎ ((k ≡ suc (length T)) × (makes_prompt s.item ≡ true))

made-by : (s : Step) (T : RepliedHistory) (k : ℕ) → is_one_of (numbers_made (λ s. makes_prompt s.item) (s ∷ T)) k ≡ true → MadeBy s T k
made-by s T k h = by_made (is_one_of (numbers_made (λ s. makes_prompt s.item) T) k) refl (makes_prompt s.item) refl
    (sym (list_any-append (λ x. x == k) (numbers_made (λ s. makes_prompt s.item) T) (option_to_list (some_if (makes_prompt s.item) (suc (length T)))))
    ∙ ap (λ xs. is_one_of xs k) (sym (made-step s T)) ∙ h)
  where
    by_number : makes_prompt s.item ≡ true → (b : Bool) → (suc (length T) == k) ≡ b → (b || false) ≡ true → MadeBy s T k
    by_number makes true is e = inr (sym (same-numbers (suc (length T)) k is), makes)
    by_number makes false is e = cc

    by_made : (b : Bool) → is_one_of (numbers_made (λ s. makes_prompt s.item) T) k ≡ b → (m : Bool) → makes_prompt s.item ≡ m
        → (b || is_one_of (option_to_list (some_if m (suc (length T)))) k) ≡ true → MadeBy s T k
    by_made true older m makes e = inl older
    by_made false older true makes e = by_number makes (suc (length T) == k) refl e
    by_made false older false makes e = cc

nothing-made : (k : ℕ) → is_one_of (numbers_made (λ s. makes_prompt s.item) []) k ≡ true → k ≤ 0
unfolding all_answers
nothing-made k h = cc

pub made-within : (T : RepliedHistory) (k : ℕ) → is_one_of (numbers_made (λ s. makes_prompt s.item) T) k ≡ true → k ≤ length T
made-within [] k h = nothing-made k h
made-within (s ∷ T) k h = by_step (made-by s T k h) (made-within T k)
  where
    by_step : MadeBy s T k → (is_one_of (numbers_made (λ s. makes_prompt s.item) T) k ≡ true → k ≤ length T) → k ≤ suc (length T)
    by_step (inl older) within = omega (arith, within older)
    by_step (inr newest_answer) within = omega (arith, newest_answer.0)

-- ---- a prompt that is pending was pending, if it was made

settled-older : (s : Step) (T : RepliedHistory) (k : ℕ) → is_settled (s ∷ T) k ≡ false → is_settled T k ≡ false
unfolding is_settled newest_answer
settled-older s T k h = by_answer (answers s.event k) h
  where
    by_answer : (b : Bool) → is_some (option_or (some_if b k) (newest_answer (λ s B. some_if (answers s.event k) k) T)) ≡ false → is_some (newest_answer (λ s B. some_if (answers s.event k) k) T) ≡ false
    by_answer true e = cc
    by_answer false e = e

pub requests-step : (s : Step) (T : RepliedHistory) (k : ℕ) → requests (s ∷ T) k ≡ requests T k ++ option_to_list (requesting_document_of k s T)
unfolding requests all_answers
requests-step s T k = refl

asker-below : (e : Event) (T : RepliedHistory) (d : ℕ) → requesting_document e T ≡ Some d → d ≤ length T
asker-below (event.Request frame feature) T d h = document-in-below T frame d h
asker-below e T d h = cc

asker-of-below : (k : ℕ) (s : Step) (T : RepliedHistory) (d : ℕ) → requesting_document_of k s T ≡ Some d → d ≤ length T
asker-of-below k s T d h = by_told (prompt_replied s.item) h
  where
    by_same : (b : Bool) (x : ℕ) → requesting_document s.event T ≡ Some x → some_if b x ≡ Some d → d ≤ length T
    by_same true x is e = asker-below s.event T d (is ∙ e)
    by_same false x is e = cc

    by_asker : (p : ℕ) (o : Option ℕ) → requesting_document s.event T ≡ o → option_and_then (λ d. some_if (p == k) d) o ≡ Some d → d ≤ length T
    by_asker p None is e = cc
    by_asker p (Some x) is e = by_same (p == k) x is e

    by_told : (o : Option ℕ) → option_and_then (λ p. option_and_then (λ d. some_if (p == k) d) (requesting_document s.event T)) o ≡ Some d → d ≤ length T
    by_told None e = cc
    by_told (Some p) e = by_asker p (requesting_document s.event T) refl e

within-more : (n : ℕ) (ds new : List ℕ) → AllWithin n ds → AllWithin n new → AllWithin (suc n) (ds ++ new)
within-more n [] [] h g = tt
within-more n [] (x ∷ new) h g = (omega (arith, g.0), within-more n [] new tt g.1)
within-more n (d ∷ ds) new h g = (omega (arith, h.0), within-more n ds new h.1 g)

pub requests-within : (T : RepliedHistory) (k : ℕ) → AllWithin (length T) (requests T k)
unfolding requests all_answers
requests-within [] k = tt
requests-within (s ∷ T) k = within-more (length T) (requests T k) (option_to_list (requesting_document_of k s T)) (requests-within T k) (of_asker (requesting_document_of k s T) (asker-of-below k s T))
  where
    of_asker : (o : Option ℕ) → ((d : ℕ) → o ≡ Some d → d ≤ length T) → AllWithin (length T) (option_to_list o)
    of_asker None below = tt
    of_asker (Some d) below = (below d refl, tt)

-- some document of the list is current only where one was
any-was-current : (s : Step) (T : RepliedHistory) (ds : List ℕ) → AllWithin (length T) ds → list_any (is_current (s ∷ T)) ds ≡ true → list_any (is_current T) ds ≡ true
any-was-current s T [] h e = cc
any-was-current s T (d ∷ ds) h e = by_now (is_current (s ∷ T) d) refl e (any-was-current s T ds h.1)
  where
    by_before : (b : Bool) → list_any (is_current T) ds ≡ true → (b || list_any (is_current T) ds) ≡ true
    by_before true e = refl
    by_before false e = e

    by_now : (b : Bool) → is_current (s ∷ T) d ≡ b → (b || list_any (is_current (s ∷ T)) ds) ≡ true
        → (list_any (is_current (s ∷ T)) ds ≡ true → list_any (is_current T) ds ≡ true) → (is_current T d || list_any (is_current T) ds) ≡ true
    by_now true now e rest = rw (was-current s T d h.0 now) refl
    by_now false now e rest = by_before (is_current T d) (rest e)

-- a prompt is pending where it is not settled and a document of its requests is current
pub pending-parts : (T : RepliedHistory) (k : ℕ) → is_pending T k ≡ (not (is_settled T k) && list_any (is_current T) (requests T k))
unfolding is_pending waiting
pending-parts T k = rw (left-of-filtered (is_current T) (requests T k)) refl

-- the request that joins a prompt tells that it is pending
pub joined-is-pending : (T : RepliedHistory) (frame : ℕ) (feature : List ℕ) (k : ℕ) → prompt_to_join T frame feature ≡ Some k → is_pending T k ≡ true
unfolding prompt_to_join pending_prompt_of pending
joined-is-pending T frame feature k h = by_document (document_in T frame) h
  where
    of_first : (top : ℕ) (pair : Pair) → first_of (filter (is_prompt_for T pair) (pending T top)) ≡ Some k → is_pending T k ≡ true
    of_first top pair e =
        let one : is_one_of (filter (is_prompt_for T pair) (pending T top)) k ≡ true = first-is-one (filter (is_prompt_for T pair) (pending T top)) k e in
        let listed : is_one_of (pending T top) k ≡ true = (of-filtered (is_prompt_for T pair) (pending T top) k one).1 in
        (both (is_pending T k) (is_prompt_of T top k) ((of-filtered (λ k. is_pending T k && is_prompt_of T top k) (numbers_made (λ s. makes_prompt s.item) T) k listed).0)).0

    by_pair : (top : ℕ) (o : Option Pair) → option_and_then (pending_prompt_of T top) o ≡ Some k → is_pending T k ≡ true
    by_pair top None e = cc
    by_pair top (Some pair) e = of_first top pair e

    by_feature : (d : ℕ) (o : Option Feature) → option_and_then (λ f. option_and_then (pending_prompt_of T (page T d)) (pair_for T d f)) o ≡ Some k → is_pending T k ≡ true
    by_feature d None e = cc
    by_feature d (Some f) e = by_pair (page T d) (pair_for T d f) e

    by_document : (o : Option ℕ) → option_and_then (λ d. option_and_then (λ f. option_and_then (pending_prompt_of T (page T d)) (pair_for T d f)) (feature_named feature)) o ≡ Some k → is_pending T k ≡ true
    by_document None e = cc
    by_document (Some d) e = by_feature d (feature_named feature) e

-- the event of a request
abbrev Asked : Step → RepliedHistory → ℕ → Type 0
Asked s T k = prompt_replied s.item ≡ Some k → AsksFor T s.event k

-- a document that asks now, of a prompt that was made before, found it pending
asked-is-pending : (s : Step) (T : RepliedHistory) (k d : ℕ) → ((p : ℕ) → Asked s T p) → k ≤ length T → requesting_document_of k s T ≡ Some d → is_pending T k ≡ true
asked-is-pending s T k d asked below h = by_told (prompt_replied s.item) refl h
  where
    by_way : AsksFor T s.event k → is_pending T k ≡ true
    by_way (frame, feature, is, inl new) = let numbers_made : k ≡ length T + 1 = new.1 in absurd (omega arith)
    by_way (frame, feature, is, inr join) = joined-is-pending T frame feature k join

    by_same : (p : ℕ) → prompt_replied s.item ≡ Some p → (o : Option ℕ) → (b : Bool) → (p == k) ≡ b → option_and_then (λ d. some_if b d) o ≡ Some d → is_pending T k ≡ true
    by_same p is o true same e = by_way (asked k (is ∙ ap Some (same-numbers p k same)))
    by_same p is None false same e = cc
    by_same p is (Some x) false same e = cc

    by_told : (o : Option ℕ) → prompt_replied s.item ≡ o → option_and_then (λ p. option_and_then (λ d. some_if (p == k) d) (requesting_document s.event T)) o ≡ Some d → is_pending T k ≡ true
    by_told None is e = cc
    by_told (Some p) is e = by_same p is (requesting_document s.event T) (p == k) refl e

-- a prompt that is pending, and was made before, was pending
pub was-pending : (s : Step) (T : RepliedHistory) (k : ℕ) → ((p : ℕ) → Asked s T p) → k ≤ length T → is_pending (s ∷ T) k ≡ true → is_pending T k ≡ true
was-pending s T k asked below h =
    let now = both (not (is_settled (s ∷ T) k)) (list_any (is_current (s ∷ T)) (requests (s ∷ T) k)) (sym (pending-parts (s ∷ T) k) ∙ h) in
    by_older (list_any (is_current (s ∷ T)) (requests T k)) refl (not-settled (is_settled (s ∷ T) k) refl now.0)
    (sym (list_any-append (is_current (s ∷ T)) (requests T k) (option_to_list (requesting_document_of k s T))) ∙ ap (list_any (is_current (s ∷ T))) (sym (requests-step s T k)) ∙ now.1)
  where
    not-settled : (b : Bool) → is_settled (s ∷ T) k ≡ b → not b ≡ true → is_settled T k ≡ false
    not-settled true is e = cc
    not-settled false is e = settled-older s T k is

    by_asker : (o : Option ℕ) → requesting_document_of k s T ≡ o → list_any (is_current (s ∷ T)) (option_to_list o) ≡ true → is_pending T k ≡ true
    by_asker None is e = cc
    by_asker (Some d) is e = asked-is-pending s T k d asked below is

    by_older : (b : Bool) → list_any (is_current (s ∷ T)) (requests T k) ≡ b → is_settled T k ≡ false
        → (b || list_any (is_current (s ∷ T)) (option_to_list (requesting_document_of k s T))) ≡ true → is_pending T k ≡ true
    by_older true older unsettled e = rw (pending-parts T k, unsettled, any-was-current s T (requests T k) (requests-within T k) older) refl
    by_older false older unsettled e = by_asker (requesting_document_of k s T) refl e

-- ---- the pending prompts of a page, and those before

abbrev is_pending_of : RepliedHistory → ℕ → ℕ → Bool
is_pending_of T top k = is_pending T k && is_prompt_of T top k

-- a pending prompt of the page was pending there, or is made by the last step
abbrev Before : Step → RepliedHistory → ℕ → ℕ → Type 0
Before s T top k = ((is_one_of (pending T top) k ≡ true) × (k ≤ length T)) ⊎ ((k ≡ suc (length T)) × (makes_prompt s.item ≡ true) × (is_prompt_of (s ∷ T) top k ≡ true))

before : (s : Step) (T : RepliedHistory) (top k : ℕ) → ((p : ℕ) → Asked s T p) → is_one_of (pending (s ∷ T) top) k ≡ true → Before s T top k
unfolding pending
before s T top k asked h =
    let parts = of-filtered (is_pending_of (s ∷ T) top) (numbers_made (λ s. makes_prompt s.item) (s ∷ T)) k h in
    let two = both (is_pending (s ∷ T) k) (is_prompt_of (s ∷ T) top k) parts.0 in
    by_made (made-by s T k parts.1) two.0 two.1
  where
    by_made : MadeBy s T k → is_pending (s ∷ T) k ≡ true → is_prompt_of (s ∷ T) top k ≡ true → Before s T top k
    by_made (inl older) waits of_page =
        let below : k ≤ length T = made-within T k older in
        inl (
          into-filtered (is_pending_of T top) (numbers_made (λ s. makes_prompt s.item) T) k
              (rw (was-pending s T k asked below waits) (sym (prompt-of-older s T top k below) ∙ of_page)) older,
          below,
        )
    by_made (inr newest_answer) waits of_page = inr (newest_answer.0, newest_answer.1, of_page)

-- ---- a new prompt asks for a pair of which none is pending

module _ (pairs : (p q : Pair) → Decides (is_same_pair p q) (p ≡ q)) where
  -- no pending prompt of the page asks for the pair, where a request of it joins none
  none-pending : (T : RepliedHistory) (top l : ℕ) (pair : Pair) → pending_prompt_of T top pair ≡ None → is_one_of (pending T top) l ≡ true → prompt_pair T l ≡ Some pair → ⊥
  unfolding pending_prompt_of
  none-pending T top l pair none listed is = no (sym one ∙ none-without-first (filter (is_prompt_for T pair) (pending T top)) l none)
    where
      no : true ≡ false → ⊥
      no e = cc

      asks : is_prompt_for T pair l ≡ true
      asks = ap (λ o. unwrap_or (option_map (λ q. is_same_pair q pair) o) false) is ∙ (pairs pair pair).1 refl

      one : is_one_of (filter (is_prompt_for T pair) (pending T top)) l ≡ true
      one = into-filtered (is_prompt_for T pair) (pending T top) l asks listed

  -- a request with no prompt to join asks for a pair of which the page has no pending prompt
  none-asked : (T : RepliedHistory) (frame : ℕ) (feature : List ℕ) (top l : ℕ) (pair : Pair) → prompt_to_join T frame feature ≡ None
      → option_and_then (λ (q : ℕ × Feature). pair_for T q.0 q.1) (asking (event.Request frame feature) T) ≡ Some pair
      → unwrap_or (option_map (λ p. p == top) (option_map (λ (q : ℕ × Feature). page T q.0) (asking (event.Request frame feature) T))) false ≡ true
      → is_one_of (pending T top) l ≡ true → prompt_pair T l ≡ Some pair → ⊥
  unfolding prompt_to_join
  none-asked T frame feature top l pair none asks of_page listed is = by_document (document_in T frame) none asks of_page
    where
      by_pair : (d : ℕ) (o : Option Pair) → option_and_then (pending_prompt_of T (page T d)) o ≡ None → o ≡ Some pair → (page T d == top) ≡ true → ⊥
      by_pair d None j e t = cc
      by_pair d (Some q) j e t =
          let same : q ≡ pair = cc in
          none-pending T top l pair (ap (pending_prompt_of T top) (sym same) ∙ ap (λ n. pending_prompt_of T n q) (sym (same-numbers (page T d) top t)) ∙ j) listed is

      by_feature : (d : ℕ) (o : Option Feature) → option_and_then (λ f. option_and_then (pending_prompt_of T (page T d)) (pair_for T d f)) o ≡ None
          → option_and_then (λ (q : ℕ × Feature). pair_for T q.0 q.1) (option_map (λ f. (d, f)) o) ≡ Some pair
          → unwrap_or (option_map (λ p. p == top) (option_map (λ (q : ℕ × Feature). page T q.0) (option_map (λ f. (d, f)) o))) false ≡ true → ⊥
      by_feature d None j e t = cc
      by_feature d (Some f) j e t = by_pair d (pair_for T d f) j e t

      by_document : (o : Option ℕ) → option_and_then (λ d. option_and_then (λ f. option_and_then (pending_prompt_of T (page T d)) (pair_for T d f)) (feature_named feature)) o ≡ None
          → option_and_then (λ (q : ℕ × Feature). pair_for T q.0 q.1) (option_and_then (λ d. option_map (λ f. (d, f)) (feature_named feature)) o) ≡ Some pair
          → unwrap_or (option_map (λ p. p == top) (option_map (λ (q : ℕ × Feature). page T q.0) (option_and_then (λ d. option_map (λ f. (d, f)) (feature_named feature)) o))) false ≡ true → ⊥
      by_document None j e t = cc
      by_document (Some d) j e t = by_feature d (feature_named feature) j e t

  -- the prompt that the last step makes is of another pair than those that are pending in its page
  new-pair : (s : Step) (T : RepliedHistory) (top k l : ℕ) (pair : Pair) → (makes_prompt s.item ≡ true → MakesFor T s.event)
      → k ≡ suc (length T) → makes_prompt s.item ≡ true → is_prompt_of (s ∷ T) top k ≡ true → prompt_pair (s ∷ T) k ≡ Some pair
      → is_one_of (pending T top) l ≡ true → prompt_pair T l ≡ Some pair → ⊥
  new-pair s T top k l pair for newest_answer makes of_page asks listed is =
      let request = for makes in
      none-asked T request.0 request.1 top l pair request.3
      (ap (λ e. option_and_then (λ (q : ℕ × Feature). pair_for T q.0 q.1) (asking e T)) (sym request.2) ∙ sym (prompt-pair-newest s T) ∙ ap (prompt_pair (s ∷ T)) (sym newest_answer) ∙ asks)
      (ap (λ e. unwrap_or (option_map (λ p. p == top) (option_map (λ (q : ℕ × Feature). page T q.0) (asking e T))) false) (sym request.2)
      ∙ ap (λ o. unwrap_or (option_map (λ p. p == top) o) false) (sym (prompt-page-newest s T))
      ∙ ap (is_prompt_of (s ∷ T) top) (sym newest_answer)
      ∙ of_page)
      listed is

  one-step : (s : Step) (T : RepliedHistory) → ((p : ℕ) → Asked s T p) → (makes_prompt s.item ≡ true → MakesFor T s.event) → IsOnePerPair T → IsOnePerPair (s ∷ T)
  one-step s T asked for older top k l pair hk hl pk pl = by_before (before s T top k asked hk) (before s T top l asked hl)
    where
      by_before : Before s T top k → Before s T top l → k ≡ l
      by_before (inl a) (inl b) = older top k l pair a.0 b.0 (sym (prompt-pair-older s T k a.1) ∙ pk) (sym (prompt-pair-older s T l b.1) ∙ pl)
      by_before (inr a) (inr b) = a.0 ∙ sym b.0
      by_before (inr a) (inl b) = absurd (new-pair s T top k l pair for a.0 a.1 a.2 pk b.0 (sym (prompt-pair-older s T l b.1) ∙ pl))
      by_before (inl a) (inr b) = absurd (new-pair s T top l k pair for b.0 b.1 b.2 pl a.0 (sym (prompt-pair-older s T k a.1) ∙ pk))

  one-at-first : IsOnePerPair []
  unfolding pending all_answers
  one-at-first top k l pair hk hl pk pl = cc

  -- of each pair, one prompt of a page is pending
  pub one-per-pair : (duration : ℕ) (H : History) → IsOnePerPair (replied duration H)
  unfolding replied
  one-per-pair duration [] = one-at-first
  one-per-pair duration (e ∷ H) =
      let T : RepliedHistory = replied duration H in
      let s : Step = record { time = e.time; event = e.event; item = step_answer duration T e.time e.event } in
      one-step s T (λ p. told-asks duration T e.time e.event p) (told-makes duration T e.time e.event) (one-per-pair duration H)

-- ---- a prompt that is no longer pending

pub settled-stays : (s : Step) (T : RepliedHistory) (k : ℕ) → is_settled T k ≡ true → is_settled (s ∷ T) k ≡ true
settled-stays s T k h = by_now (is_settled (s ∷ T) k) refl
  where
    by_now : (b : Bool) → is_settled (s ∷ T) k ≡ b → is_settled (s ∷ T) k ≡ true
    by_now true e = e
    by_now false e = let no : is_settled T k ≡ false = settled-older s T k e in cc

gone-step : (s : Step) (T : RepliedHistory) (k : ℕ) → ((p : ℕ) → Asked s T p) → k ≤ length T → is_pending T k ≡ false → is_pending (s ∷ T) k ≡ false
gone-step s T k asked below gone = by_now (is_pending (s ∷ T) k) refl
  where
    by_now : (b : Bool) → is_pending (s ∷ T) k ≡ b → is_pending (s ∷ T) k ≡ false
    by_now false e = e
    by_now true e = let still : is_pending T k ≡ true = was-pending s T k asked below e in cc

pub gone-prompt : (duration : ℕ) (newer H : History) (k : ℕ) → k ≤ length H → is_pending (replied duration H) k ≡ false → is_pending (replied duration (newer ++ H)) k ≡ false
unfolding replied
gone-prompt duration [] H k h gone = gone
gone-prompt duration (e ∷ newer) H k h gone =
    let T : RepliedHistory = replied duration (newer ++ H) in
    let s : Step = record { time = e.time; event = e.event; item = step_answer duration T e.time e.event } in
    let all : length T ≡ length (newer ++ H) = told-length duration (newer ++ H) in
    let below : k ≤ length T = omega (arith, all, length-append newer H) in
    gone-step s T k (λ p. told-asks duration T e.time e.event p) below (gone-prompt duration newer H k h gone)
