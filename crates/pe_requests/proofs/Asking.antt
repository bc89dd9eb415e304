-- What the prompts stand for after a request that makes a prompt or joins one.
use Rattle.std.proofs.Common.{◌≡◌, ℕ, suc, ◌+◌, ◌<◌, ◌≤◌, Bool, true, false, ◌&&◌, ◌==◌, cond, nat_eq, List, [], ◌∷◌, ◌++◌, length, map, filter, Option, Some, None, is_some, unwrap_or, option_map, option_and_then, option_to_list, refl, sym, ◌∙◌, ap, subst, arith}
use Rattle.std.specs.List.{find}
use Rattle.std.specs.Map.{lookup}
use Rattle.std.proofs.lemmas.List.{map-append}
use Rattle.pe_base.specs.declared.state.State.{State}
use Rattle.pe_base.specs.declared.state.State.TheVariants as state
use Rattle.pe_features.specs.declared.feature.Feature.{Feature}
use Rattle.pe_arena.specs.declared.handle.DocRef.{DocRef}
use Rattle.pe_store.specs.Pairs.{Pair, is_same_pair}
use Rattle.pe_prompts.specs.declared.fault.Asked.{Asked}
use Rattle.pe_prompts.specs.declared.fault.Asked.TheVariants.{New, Joined}
use Rattle.pe_prompts.specs.declared.queue.Prompt.{Prompt}
use Rattle.pe_prompts.specs.Pending.{Pending, pair_of, number_for, with_request, joined}
use Rattle.pe_prompts.specs.Queues as queue
use Rattle.pe_prompts.specs.Queues.{Queues, HasAsked}
use Rattle.pe_events.specs.Timed.{Timed}
use Rattle.pe_events.specs.declared.answer.Answer.TheVariants as answer
use Rattle.pe_events.specs.declared.event.Event.TheVariants as event
use Rattle.pe_rules.specs.History.{Replied, Step, RepliedHistory, History, some_if}
use Rattle.pe_rules.specs.Numbering.{numbers_made, makes_prompt, is_prompt}
use Rattle.pe_rules.specs.Embedders.{page}
use Rattle.pe_rules.specs.Current.{is_current}
use Rattle.pe_rules.specs.Settings.{pair_for, prompt_pair, prompt_page}
use Rattle.pe_rules.specs.Settings as settings
use Rattle.pe_rules.specs.PermissionState.{permission_state}
use Rattle.pe_rules.specs.Prompts.{prompt_replied, requesting_document, requesting_document_of, is_settled, waiting, is_pending, is_prompt_of, pending}
use Rattle.pe_rules.specs.Causes.{prompt_to_join}
use Rattle.pe_rules.specs.Replies.{answer_of_request, answer_of, step_answer, replied, is_regular}
use Rattle.pe_laws.specs.HistoryLaws.{HistoryLaws}
use Rattle.pe_laws.specs.Effects.{effects}
use Rattle.pe_laws.specs.EffectsLaws.{effects_of}
use Rattle.pe_laws.specs.PromptsLaws.{step_of}
use Rattle.pe_laws.specs.StatusesLaws.{Each}
use Rattle.pe_requests.specs.Parts.{given_by, IsPendingPrompt, IsPrompts}
use Rattle.pe_requests.specs.PromptSteps.{IsAsking, answer_of_asked}
use Rattle.pe_requests.proofs.Lists.{each-weaker, each-both, each-append, each-passes, each-unmap, append-none, same-numbers, is-same, not-same, swapped}
use Rattle.pe_requests.proofs.Rising.{AreRising, pending-rising}
use Rattle.pe_requests.proofs.Known.{known, known-same, page-some, page-stays, beyond, prompt-unmade, prompt-older}
use Rattle.pe_requests.proofs.Pairs.{joins-by-request, request-answer}
use Rattle.pe_requests.proofs.Reading.{within}
use Rattle.pe_requests.proofs.Going.{kept-on, quiet}

-- ---- a request

-- the event asks for the pair, by the frame's document
asks-for : (T : RepliedHistory) (frame : ℕ) (name : List ℕ) (document top : ℕ) (pair : Pair) → IsAsking T frame name document top pair → settings.asking (event.Request frame name) T ≡ Some (document, pair.0)
asks-for T frame name document top pair asks = rw (asks.shown, asks.named) refl

asker-of : (k n d : ℕ) (s : Step) (T : RepliedHistory) → prompt_replied s.item ≡ Some n → requesting_document s.event T ≡ Some d → requesting_document_of k s T ≡ some_if (n == k) d
asker-of k n d s T told asker = rw (told, asker) refl

-- the answer tells of a prompt that was joined
pub joined-is : (x : State) (m n : ℕ) (o : Option ℕ) → answer_of_request x m o ≡ answer.PromptJoined n → o ≡ Some n
joined-is state.Granted m n o h = cc
joined-is state.Denied m n o h = cc
joined-is state.Prompt m n None h = cc
joined-is state.Prompt m n (Some j) h = cc

-- ---- the pending prompts of a page are of that page

pub pending-of-page : (T : RepliedHistory) (top : ℕ) → Each (λ k. is_prompt_of T top k ≡ true) (pending T top)
unfolding pending
pending-of-page T top =
    each-weaker (λ k. (is_pending T k && is_prompt_of T top k) ≡ true) (λ k. is_prompt_of T top k ≡ true) (pending T top) (λ k h. second (is_pending T k) (is_prompt_of T top k) h)
    (each-passes (λ k. is_pending T k && is_prompt_of T top k) (numbers_made (λ s. makes_prompt s.item) T))
  where
    second : (a b : Bool) → (a && b) ≡ true → b ≡ true
    second true b h = h
    second false b h = cc

each-of-page : (T : RepliedHistory) (queues : Queues) (top : ℕ) → IsPrompts T queues → Each (λ e. is_prompt_of T top e.0 ≡ true) (queue.pending queues top)
each-of-page T queues top is =
    each-unmap (λ k. is_prompt_of T top k ≡ true) (λ (e : ℕ × Prompt). e.0) (queue.pending queues top) (subst (Each (λ k. is_prompt_of T top k ≡ true)) (sym (is.pending top)) (pending-of-page T top))

-- a prompt is of one page
one-page : (T : RepliedHistory) (a b k : ℕ) → is_prompt_of T a k ≡ true → is_prompt_of T b k ≡ true → a ≡ b
one-page T a b k here there = by_page (prompt_page T k) here there
  where
    by_page : (o : Option ℕ) → unwrap_or (option_map (λ p. p == a) o) false ≡ true → unwrap_or (option_map (λ p. p == b) o) false ≡ true → a ≡ b
    by_page None x y = cc
    by_page (Some p) x y = sym (same-numbers p a x) ∙ same-numbers p b y

-- what each of the prompts has, the one that asks for a pair has
at-pair : (P : ℕ → Type 0) (pair : Pair) (ps : Pending) (n : ℕ) → Each (λ e. P e.0) ps → number_for pair ps ≡ Some n → P n
at-pair P pair [] n h is = cc
at-pair P pair (e ∷ ps) n h is = by_test (is_same_pair (pair_of e.1) pair) is (at-pair P pair ps n h.1)
  where
    by_test : (b : Bool) → option_map (λ (x : ℕ × Prompt). x.0) (cond b (Some e) (find (λ x. is_same_pair (pair_of x.1) pair) ps)) ≡ Some n → (number_for pair ps ≡ Some n → P n) → P n
    by_test true found rest = let same : e.0 ≡ n = cc in subst P same h.0
    by_test false found rest = rest found

joined-numbers : (n : ℕ) (asker : DocRef) (ps : Pending) → map (λ (e : ℕ × Prompt). e.0) (joined n asker ps) ≡ map (λ (e : ℕ × Prompt). e.0) ps
joined-numbers n asker [] = refl
joined-numbers n asker (e ∷ ps) = by_test (n == e.0) (joined-numbers n asker ps)
  where
    by_test : (b : Bool) → map (λ (x : ℕ × Prompt). x.0) (joined n asker ps) ≡ map (λ (x : ℕ × Prompt). x.0) ps
        → map (λ (x : ℕ × Prompt). x.0) (cond b ((e.0, with_request asker e.1) ∷ ps) (e ∷ joined n asker ps)) ≡ e.0 ∷ map (λ (x : ℕ × Prompt). x.0) ps
    by_test true rest = refl
    by_test false rest = ap (λ ns. e.0 ∷ ns) rest

-- a request was told this prompt, and a document of the frame asks
record IsTold (s : Step) (T : RepliedHistory) (n : ℕ) (asker : DocRef) : Type 0 where
  told : prompt_replied s.item ≡ Some n
  document : requesting_document s.event T ≡ Some asker.doc
  ends : (effects_of s).ends_documents ≡ false
  settles : (effects_of s).settles_prompt ≡ false

module _ (laws : HistoryLaws) where
  waits : (s : Step) (T : RepliedHistory) (n : ℕ) (asker : DocRef) (k : ℕ) → IsTold s T n asker → waiting (s ∷ T) k ≡ waiting T k ++ option_to_list (some_if (n == k) asker.doc)
  waits s T n asker k is = laws.prompts.waiting_step s T k is.ends ∙ ap (λ o. waiting T k ++ option_to_list o) (asker-of k n asker.doc s T is.told is.document)

  -- another prompt is as before, and the prompt that was told has one request more
  beside : (s : Step) (T : RepliedHistory) (n : ℕ) (asker : DocRef) (k : ℕ) (p : Prompt) → IsTold s T n asker → k ≤ length T → (n == k) ≡ false → IsPendingPrompt T k p → IsPendingPrompt (s ∷ T) k p
  beside s T n asker k p is le other pending =
      kept-on laws s T k p le (waits s T n asker k is ∙ ap (λ b. waiting T k ++ option_to_list (some_if b asker.doc)) other ∙ append-none (waiting T k)) pending

  with-one : (s : Step) (T : RepliedHistory) (n : ℕ) (asker : DocRef) (k : ℕ) (p : Prompt) → IsTold s T n asker → k ≤ length T → (n == k) ≡ true → IsPendingPrompt T k p → IsPendingPrompt (s ∷ T) k (with_request asker p)
  with-one s T n asker k p is le same pending = record {
    page = laws.prompts.page_older s T k le ∙ pending.page;
    pair = laws.prompts.pair_older s T k le ∙ pending.pair;
    documents = map-append (λ (r : DocRef). r.doc) p.waiting (asker ∷ []) ∙ ap (λ ds. ds ++ asker.doc ∷ []) pending.documents
        ∙ sym (waits s T n asker k is ∙ ap (λ b. waiting T k ++ option_to_list (some_if b asker.doc)) same);
  }

  each-beside : (s : Step) (T : RepliedHistory) (n : ℕ) (asker : DocRef) (ps : Pending) → IsTold s T n asker → Each (λ e. (e.0 ≤ length T) × IsPendingPrompt T e.0 e.1) ps → Each (λ e. (n == e.0) ≡ false) ps
      → Each (λ e. IsPendingPrompt (s ∷ T) e.0 e.1) ps
  each-beside s T n asker ps is kept others =
      each-weaker (λ e. ((e.0 ≤ length T) × IsPendingPrompt T e.0 e.1) × ((n == e.0) ≡ false)) (λ e. IsPendingPrompt (s ∷ T) e.0 e.1) ps
      (λ e h. beside s T n asker e.0 e.1 is h.0.0 h.1 h.0.1)
      (each-both (λ e. (e.0 ≤ length T) × IsPendingPrompt T e.0 e.1) (λ e. (n == e.0) ≡ false) ps kept others)

  each-joined : (s : Step) (T : RepliedHistory) (n : ℕ) (asker : DocRef) (ps : Pending) → IsTold s T n asker → Each (λ e. (e.0 ≤ length T) × IsPendingPrompt T e.0 e.1) ps → AreRising (map (λ (e : ℕ × Prompt). e.0) ps)
      → Each (λ e. IsPendingPrompt (s ∷ T) e.0 e.1) (joined n asker ps)
  each-joined s T n asker [] is kept rise = tt
  each-joined s T n asker (e ∷ ps) is kept rise = by_test (n == e.0) refl (each-joined s T n asker ps is kept.1 rise.1)
    where
      others : n ≡ e.0 → Each (λ x. (n == x.0) ≡ false) ps
      others same =
          each-unmap (λ k. (n == k) ≡ false) (λ (x : ℕ × Prompt). x.0) ps
          (each-weaker (λ k. e.0 < k) (λ k. (n == k) ≡ false) (map (λ (x : ℕ × Prompt). x.0) ps) (λ k lt. not-same n k (λ q. absurd (omega arith))) rise.0)

      by_test : (b : Bool) → (n == e.0) ≡ b → Each (λ x. IsPendingPrompt (s ∷ T) x.0 x.1) (joined n asker ps) → Each (λ x. IsPendingPrompt (s ∷ T) x.0 x.1) (cond b ((e.0, with_request asker e.1) ∷ ps) (e ∷ joined n asker ps))
      by_test true same rest = (with-one s T n asker e.0 e.1 is kept.0.0 same kept.0.1, each-beside s T n asker ps is kept.1 (others (same-numbers n e.0 same)))
      by_test false other rest = (beside s T n asker e.0 e.1 is kept.0.0 other kept.0.1, rest)

  all-kept : (T : RepliedHistory) (queues : Queues) (top : ℕ) → IsPrompts T queues → Each (λ e. (e.0 ≤ length T) × IsPendingPrompt T e.0 e.1) (queue.pending queues top)
  all-kept T queues top is = each-both (λ e. e.0 ≤ length T) (λ e. IsPendingPrompt T e.0 e.1) (queue.pending queues top) (within T queues top is) (is.kept top)

  -- ---- a prompt that is made

  unsettled : (duration : ℕ) (H : History) (k : ℕ) → is_regular duration H ≡ true → k ≡ suc (length (replied duration H)) → is_settled (replied duration H) k ≡ false
  unsettled duration H k regular next = by_settled (is_settled (replied duration H) k) refl
    where
      by_settled : (b : Bool) → is_settled (replied duration H) k ≡ b → b ≡ false
      by_settled false is = refl
      by_settled true is =
          let made : is_prompt (replied duration H) k ≡ true = laws.prompts.settled_made duration H k regular is in
          let none : is_prompt (replied duration H) k ≡ false = beyond laws (replied duration H) k next in
          sym made ∙ none

  unasked : (duration : ℕ) (H : History) (k : ℕ) → k ≡ suc (length (replied duration H)) → waiting (replied duration H) k ≡ []
  unfolding waiting
  unasked duration H k next = ap (filter (is_current (replied duration H))) (laws.prompts.requests_unmade duration H k (beyond laws (replied duration H) k next))

  -- the page and the pair of the newest position, by what the event asks
  newest-page : (s : Step) (T : RepliedHistory) (n d : ℕ) (f : Feature) → n ≡ suc (length T) → settings.asking s.event T ≡ Some (d, f) → prompt_page (s ∷ T) n ≡ Some (page T d)
  newest-page s T n d f next asks = ap (prompt_page (s ∷ T)) next ∙ laws.prompts.page_newest s T ∙ ap (option_map (λ (q : ℕ × Feature). page T q.0)) asks

  newest-pair : (s : Step) (T : RepliedHistory) (n d : ℕ) (f : Feature) → n ≡ suc (length T) → settings.asking s.event T ≡ Some (d, f) → prompt_pair (s ∷ T) n ≡ pair_for T d f
  newest-pair s T n d f next asks = ap (prompt_pair (s ∷ T)) next ∙ laws.prompts.pair_newest s T ∙ ap (option_and_then (λ (q : ℕ × Feature). pair_for T q.0 q.1)) asks

  made : (duration : ℕ) (H : History) (e : Timed) (asking : Prompt) (asker : DocRef) (n : ℕ) (old new : Queues) → is_regular duration H ≡ true
      → IsTold (step_of duration H e) (replied duration H) n asker → makes_prompt (step_of duration H e).item ≡ true
      → prompt_page (step_of duration H e ∷ replied duration H) n ≡ Some asking.page → prompt_pair (step_of duration H e ∷ replied duration H) n ≡ Some (pair_of asking) → asking.waiting ≡ asker ∷ []
      → IsPrompts (replied duration H) old → HasAsked old new asking asker (New n) → IsPrompts (step_of duration H e ∷ replied duration H) new
  unfolding replied
  made duration H e asking asker n old new regular is_told makes paged paired waits_for is asked = record { given = given; pending = pending_numbers; kept = kept }
    where
      T : RepliedHistory
      T = replied duration H

      s : Step
      s = step_of duration H e

      next : n ≡ suc (length T)
      next = let both : ◌≡◌ {A = Option ℕ} (Some n) (Some (suc (length T))) = sym is_told.told ∙ laws.prompts.told_number duration H e makes in cc

      here : is_prompt (s ∷ T) n ≡ true
      here = ap (is_prompt (s ∷ T)) next ∙ laws.numbering.is_prompt_newest s T ∙ makes

      given : (k : ℕ) → queue.given_of new k ≡ known (s ∷ T) k
      given k = asked.0 k ∙ by_number (n == k) refl
        where
          by_number : (b : Bool) → (n == k) ≡ b → cond b (Some (record { page = asking.page; settled = false })) (queue.given_of old k) ≡ known (s ∷ T) k
          by_number false other =
              is.given k
              ∙ known-same T (s ∷ T) k (laws.prompts.settled_left s T k is_told.settles) (page-stays laws s T k (prompt-older laws s T k (ap (λ m. k == m) (sym next) ∙ swapped k n ∙ other)))
          by_number true same =
              let number : n ≡ k = same-numbers n k same in
              let open_yet : is_settled (s ∷ T) n ≡ false = laws.prompts.settled_left s T n is_told.settles ∙ unsettled duration H n regular next in
              ap (λ b. Some (given_by b asking.page)) (sym open_yet)
              ∙ ap (option_map (given_by (is_settled (s ∷ T) n))) (sym (page-some (s ∷ T) n here ∙ paged))
              ∙ ap (known (s ∷ T)) number

      of_page : (top : ℕ) → is_prompt_of (s ∷ T) top (suc (length T)) ≡ (asking.page == top)
      of_page top = ap (λ o. unwrap_or (option_map (λ p. p == top) o) false) (ap (prompt_page (s ∷ T)) (sym next) ∙ paged)

      after : (top : ℕ) → pending (s ∷ T) top ≡ pending T top ++ option_to_list (some_if (asking.page == top) n)
      after top =
          laws.prompts.pending_made duration H e top regular makes
          ∙ ap (λ b. pending T top ++ option_to_list (some_if b (suc (length T)))) (of_page top)
          ∙ ap (λ m. pending T top ++ option_to_list (some_if (asking.page == top) m)) (sym next)

      pending_numbers : (top : ℕ) → map (λ (x : ℕ × Prompt). x.0) (queue.pending new top) ≡ pending (s ∷ T) top
      pending_numbers top = ap (map (λ (x : ℕ × Prompt). x.0)) (asked.1 top) ∙ by_page (asking.page == top) refl ∙ sym (after top)
        where
          by_page : (b : Bool) → (asking.page == top) ≡ b
              → map (λ (x : ℕ × Prompt). x.0) (cond b (queue.pending old asking.page ++ (n, asking) ∷ []) (queue.pending old top)) ≡ pending T top ++ option_to_list (some_if b n)
          by_page true same =
              map-append (λ (x : ℕ × Prompt). x.0) (queue.pending old asking.page) ((n, asking) ∷ [])
              ∙ ap (λ ns. ns ++ n ∷ []) (is.pending asking.page ∙ ap (pending T) (same-numbers asking.page top same))
          by_page false other = is.pending top ∙ sym (append-none (pending T top))

      older : (top : ℕ) → Each (λ x. IsPendingPrompt (s ∷ T) x.0 x.1) (queue.pending old top)
      older top =
          each-beside s T n asker (queue.pending old top) is_told (all-kept T old top is)
          (each-weaker (λ x. x.0 ≤ length T) (λ x. (n == x.0) ≡ false) (queue.pending old top) (λ x le. not-same n x.0 (λ q. absurd (omega (arith, next)))) (within T old top is))

      newest : IsPendingPrompt (s ∷ T) n asking
      newest = record {
        page = paged;
        pair = paired;
        documents = ap (map (λ (r : DocRef). r.doc)) waits_for
            ∙ sym (waits s T n asker n is_told ∙ ap (λ b. waiting T n ++ option_to_list (some_if b asker.doc)) (is-same n) ∙ ap (λ ds. ds ++ asker.doc ∷ []) (unasked duration H n next));
      }

      kept : (top : ℕ) → Each (λ x. IsPendingPrompt (s ∷ T) x.0 x.1) (queue.pending new top)
      kept top = subst (Each (λ x. IsPendingPrompt (s ∷ T) x.0 x.1)) (sym (asked.1 top)) (by_page (asking.page == top))
        where
          by_page : (b : Bool) → Each (λ x. IsPendingPrompt (s ∷ T) x.0 x.1) (cond b (queue.pending old asking.page ++ (n, asking) ∷ []) (queue.pending old top))
          by_page true = each-append (λ x. IsPendingPrompt (s ∷ T) x.0 x.1) (queue.pending old asking.page) ((n, asking) ∷ []) (older asking.page) (newest, tt)
          by_page false = older top

  -- ---- a prompt that is joined

  joins : (duration : ℕ) (H : History) (e : Timed) (asking : Prompt) (asker : DocRef) (n : ℕ) (old new : Queues)
      → IsTold (step_of duration H e) (replied duration H) n asker → makes_prompt (step_of duration H e).item ≡ false → queue.pending_of old asking.page (pair_of asking) ≡ Some n
      → IsPrompts (replied duration H) old → HasAsked old new asking asker (Joined n) → IsPrompts (step_of duration H e ∷ replied duration H) new
  unfolding replied
  joins duration H e asking asker n old new is_told unmade join is asked = record { given = given; pending = pending_numbers; kept = kept }
    where
      T : RepliedHistory
      T = replied duration H

      s : Step
      s = step_of duration H e

      given : (k : ℕ) → queue.given_of new k ≡ known (s ∷ T) k
      given k =
          ap (λ g. lookup (nat_eq k) g) asked.0 ∙ is.given k
          ∙ known-same T (s ∷ T) k (laws.prompts.settled_left s T k is_told.settles) (page-stays laws s T k (prompt-unmade laws s T k unmade))

      pending_numbers : (top : ℕ) → map (λ (x : ℕ × Prompt). x.0) (queue.pending new top) ≡ pending (s ∷ T) top
      pending_numbers top =
          ap (map (λ (x : ℕ × Prompt). x.0)) (asked.1 top) ∙ by_page (asking.page == top) refl
          ∙ sym (laws.prompts.pending_unmade duration H e top unmade is_told.settles is_told.ends)
        where
          by_page : (b : Bool) → (asking.page == top) ≡ b → map (λ (x : ℕ × Prompt). x.0) (cond b (joined n asker (queue.pending old asking.page)) (queue.pending old top)) ≡ pending T top
          by_page true same = joined-numbers n asker (queue.pending old asking.page) ∙ is.pending asking.page ∙ ap (pending T) (same-numbers asking.page top same)
          by_page false other = is.pending top

      -- the prompt that is joined is of the page
      of_page : is_prompt_of T asking.page n ≡ true
      of_page = at-pair (λ k. is_prompt_of T asking.page k ≡ true) (pair_of asking) (queue.pending old asking.page) n (each-of-page T old asking.page is) join

      elsewhere : (top k : ℕ) → (asking.page == top) ≡ false → is_prompt_of T top k ≡ true → (n == k) ≡ false
      elsewhere top k other there = by_number (n == k) refl
        where
          by_number : (b : Bool) → (n == k) ≡ b → b ≡ false
          by_number false q = refl
          by_number true q =
              let number : n ≡ k = same-numbers n k q in
              let same : asking.page ≡ top = one-page T asking.page top k (ap (is_prompt_of T asking.page) (sym number) ∙ of_page) there in
              sym (is-same asking.page) ∙ ap (λ m. asking.page == m) same ∙ other

      kept : (top : ℕ) → Each (λ x. IsPendingPrompt (s ∷ T) x.0 x.1) (queue.pending new top)
      kept top = subst (Each (λ x. IsPendingPrompt (s ∷ T) x.0 x.1)) (sym (asked.1 top)) (by_page (asking.page == top) refl)
        where
          by_page : (b : Bool) → (asking.page == top) ≡ b → Each (λ x. IsPendingPrompt (s ∷ T) x.0 x.1) (cond b (joined n asker (queue.pending old asking.page)) (queue.pending old top))
          by_page true same =
              each-joined s T n asker (queue.pending old asking.page) is_told (all-kept T old asking.page is) (subst AreRising (sym (is.pending asking.page)) (pending-rising T asking.page))
          by_page false other =
              each-beside s T n asker (queue.pending old top) is_told (all-kept T old top is)
              (each-weaker (λ x. is_prompt_of T top x.0 ≡ true) (λ x. (n == x.0) ≡ false) (queue.pending old top) (λ x there. elsewhere top x.0 other there) (each-of-page T old top is))

  -- ---- what is told of a request

  pub stated : (duration : ℕ) (H : History) (e : Timed) (frame : ℕ) (name : List ℕ) (found : State) (queues : Queues) → e.event ≡ event.Request frame name
      → answer_of duration (replied duration H) e.time e.event ≡ answer.Stated found → IsPrompts (replied duration H) queues → IsPrompts (replied duration (e ∷ H)) queues
  stated duration H e frame name found queues is_request tells is =
      let T = replied duration H in
      let s = step_of duration H e in
      let item : s.item ≡ Replied (answer.Stated found) = ap (step_answer duration T e.time) is_request ∙ ap Replied (ap (answer_of duration T e.time) (sym is_request) ∙ tells) in
      quiet laws duration H e queues
      (ap (λ x. (effects x s.item).requests) is_request ∙ ap (λ i. is_some (prompt_replied i)) item)
      (ap (λ x. (effects x s.item).settles_prompt) is_request) (ap (λ x. (effects x s.item).ends_documents) is_request) is

  pub told : (duration : ℕ) (H : History) (e : Timed) (frame : ℕ) (name : List ℕ) (asking : Prompt) (asker : DocRef) (said : Asked) (old new : Queues) → is_regular duration H ≡ true
      → e.event ≡ event.Request frame name → IsAsking (replied duration H) frame name asker.doc asking.page (pair_of asking) → asking.waiting ≡ asker ∷ []
      → answer_of duration (replied duration H) e.time e.event ≡ answer_of_asked said
      → IsPrompts (replied duration H) old → HasAsked old new asking asker said → IsPrompts (replied duration (e ∷ H)) new
  unfolding replied
  told duration H e frame name asking asker said old new regular is_request asks waits_for tells is asked = by_told said tells asked
    where
      T : RepliedHistory
      T = replied duration H

      s : Step
      s = step_of duration H e

      item : (a : Asked) → answer_of duration T e.time e.event ≡ answer_of_asked a → s.item ≡ Replied (answer_of_asked a)
      item a t = ap (step_answer duration T e.time) is_request ∙ ap Replied (ap (answer_of duration T e.time) (sym is_request) ∙ t)

      is_told : (n : ℕ) → prompt_replied s.item ≡ Some n → IsTold s T n asker
      is_told n tells = record {
        told = tells;
        document = ap (λ x. requesting_document x T) is_request ∙ asks.shown;
        ends = ap (λ x. (effects x s.item).ends_documents) is_request;
        settles = ap (λ x. (effects x s.item).settles_prompt) is_request;
      }

      wants : settings.asking s.event T ≡ Some (asker.doc, asking.feature)
      wants = ap (λ x. settings.asking x T) is_request ∙ asks-for T frame name asker.doc asking.page (pair_of asking) asks

      by_told : (a : Asked) → answer_of duration T e.time e.event ≡ answer_of_asked a → HasAsked old new asking asker a → IsPrompts (s ∷ T) new
      by_told (New n) t has =
          let makes : makes_prompt s.item ≡ true = ap makes_prompt (item (New n) t) in
          let number : prompt_replied s.item ≡ Some n = ap prompt_replied (item (New n) t) in
          let next : n ≡ suc (length T) = let both : ◌≡◌ {A = Option ℕ} (Some n) (Some (suc (length T))) = sym number ∙ laws.prompts.told_number duration H e makes in cc in
          made duration H e asking asker n old new regular (is_told n number) makes
          (newest-page s T n asker.doc asking.feature next wants ∙ ap Some asks.paged) (newest-pair s T n asker.doc asking.feature next wants ∙ asks.paired) waits_for is has
      by_told (Joined n) t has =
          let join : prompt_to_join T frame name ≡ Some n =
          joined-is (permission_state T e.time asker.doc asking.feature) (length T + 1) n (prompt_to_join T frame name)
          (sym (request-answer duration T e.time frame name asker.doc asking.page (pair_of asking) asks) ∙ ap (answer_of duration T e.time) (sym is_request) ∙ t) in
          joins duration H e asking asker n old new (is_told n (ap prompt_replied (item (Joined n) t))) (ap makes_prompt (item (Joined n) t))
          (joins-by-request T old frame name asker.doc asking.page (pair_of asking) is asks ∙ join) is has
