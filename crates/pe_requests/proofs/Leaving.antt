-- What the end of documents leaves of the pending prompts.
use Rattle.std.proofs.Common.{◌≡◌, ℕ, suc, ◌≤◌, Bool, true, false, not, ◌&&◌, ◌||◌, ◌==◌, cond, nat_eq, List, [], ◌∷◌, length, map, filter, Some, refl, sym, ◌∙◌, ap, subst, arith}
use Rattle.std.specs.Map.{lookup}
use Rattle.std.proofs.lemmas.Bool.Decides.{nat_tests}
use Rattle.pe_arena.specs.declared.handle.DocRef.{DocRef}
use Rattle.pe_prompts.specs.declared.queue.Prompt.{Prompt}
use Rattle.pe_prompts.specs.Requests.{without}
use Rattle.pe_prompts.specs.Pending.{Pending, pair_of, if_awaited, left_by}
use Rattle.pe_prompts.specs.Queues as queue
use Rattle.pe_prompts.specs.Queues.{Queues}
use Rattle.pe_events.specs.Timed.{Timed}
use Rattle.pe_events.specs.declared.event.Event.{Event}
use Rattle.pe_events.specs.declared.event.Event.TheVariants as event
use Rattle.pe_rules.specs.History.{Step, RepliedHistory, History}
use Rattle.pe_rules.specs.Numbering.{numbers_made, makes_prompt}
use Rattle.pe_rules.specs.Current.{ends, frames_above, is_current}
use Rattle.pe_rules.specs.Activation.{is_one_of}
use Rattle.pe_rules.specs.Settings.{prompt_pair, prompt_page}
use Rattle.pe_rules.specs.Prompts.{requests, waiting, is_settled, is_pending, is_prompt_of, pending}
use Rattle.pe_rules.specs.Replies.{replied}
use Rattle.pe_laws.specs.HistoryLaws.{HistoryLaws}
use Rattle.pe_laws.specs.EffectsLaws.{effects_of}
use Rattle.pe_laws.specs.PromptsLaws.{step_of}
use Rattle.pe_laws.specs.StatusesLaws.{Each}
use Rattle.pe_requests.specs.Parts.{IsPendingPrompt, IsPrompts}
use Rattle.pe_requests.specs.PromptSteps.{AreEnded, left_by_all}
use Rattle.pe_requests.proofs.Lists.{each-weaker, each-both, each-passes, each-unmap, filter-agree, filter-neither, map-filter, length-map, not-same}
use Rattle.pe_requests.proofs.Reading.{within}
use Rattle.pe_requests.proofs.Going.{known-left}

-- ---- the requests of other documents

-- the requests of other documents than these, one document taken after another
abbrev without_all : List ℕ → List DocRef → List DocRef
without_all [] rs = rs
without_all (doc ∷ docs) rs = without_all docs (without doc rs)

none-without : (docs : List ℕ) → without_all docs [] ≡ []
none-without [] = refl
none-without (doc ∷ docs) = none-without docs

keeps-all : (ds : List ℕ) → filter (λ d. not (is_one_of [] d)) ds ≡ ds
keeps-all [] = refl
keeps-all (d ∷ ds) = ap (λ xs. d ∷ xs) (keeps-all ds)

-- the documents of these requests
documents-without : (docs : List ℕ) (rs : List DocRef) → map (λ (r : DocRef). r.doc) (without_all docs rs) ≡ filter (λ d. not (is_one_of docs d)) (map (λ (r : DocRef). r.doc) rs)
documents-without [] rs = sym (keeps-all (map (λ (r : DocRef). r.doc) rs))
documents-without (doc ∷ docs) rs =
    documents-without docs (without doc rs)
    ∙ ap (filter (λ d. not (is_one_of docs d))) (map-filter (λ (r : DocRef). r.doc) (λ d. not (doc == d)) rs)
    ∙ sym (filter-neither (λ d. doc == d) (is_one_of docs) (map (λ (r : DocRef). r.doc) rs))

-- ---- the prompts, one after another

awaited-again : (k : ℕ) (p : Prompt) (rs ws : List DocRef) (ps : Pending) → if_awaited k (record p { waiting = rs }) ws ps ≡ if_awaited k p ws ps
awaited-again k p rs [] ps = refl
awaited-again k p rs (w ∷ ws) ps = refl

awaited-self : (k : ℕ) (p : Prompt) (ws : List DocRef) (ps : Pending) → p.waiting ≡ ws → 1 ≤ length ws → if_awaited k p ws ps ≡ (k, p) ∷ ps
awaited-self k p [] ps is some = absurd (omega arith)
awaited-self k p (w ∷ ws) ps is some = ap (λ rs. (k, record p { waiting = rs }) ∷ ps) (sym is)

-- what is left of the first prompt, for which some request waits, and of the others
left-first : (docs : List ℕ) (k : ℕ) (p : Prompt) (ps : Pending) → 1 ≤ length p.waiting → left_by_all docs ((k, p) ∷ ps) ≡ if_awaited k p (without_all docs p.waiting) (left_by_all docs ps)
left-first [] k p ps some = sym (awaited-self k p p.waiting ps refl some)
left-first (doc ∷ docs) k p ps some = by_rest (without doc p.waiting) (λ r rs. left-first docs k (record p { waiting = r ∷ rs }) (left_by doc ps) (omega arith))
  where
    by_rest : (ws : List DocRef)
        → ((r : DocRef) (rs : List DocRef) → left_by_all docs ((k, record p { waiting = r ∷ rs }) ∷ left_by doc ps) ≡ if_awaited k (record p { waiting = r ∷ rs }) (without_all docs (r ∷ rs)) (left_by_all docs (left_by doc ps)))
        → left_by_all docs (if_awaited k p ws (left_by doc ps)) ≡ if_awaited k p (without_all docs ws) (left_by_all docs (left_by doc ps))
    by_rest [] later = sym (ap (λ ws. if_awaited k p ws (left_by_all docs (left_by doc ps))) (none-without docs))
    by_rest (r ∷ rs) later = later r rs ∙ awaited-again k p (r ∷ rs) (without_all docs (r ∷ rs)) (left_by_all docs (left_by doc ps))

none-left : (docs : List ℕ) → left_by_all docs [] ≡ []
none-left [] = refl
none-left (doc ∷ docs) = none-left docs

-- a prompt for which some request waits, and for which these documents wait once the others are gone
record IsLeft (U : RepliedHistory) (docs : List ℕ) (k : ℕ) (p : Prompt) : Type 0 where
  awaited : 1 ≤ length p.waiting
  page : prompt_page U k ≡ Some p.page
  pair : prompt_pair U k ≡ Some (pair_of p)
  documents : map (λ (r : DocRef). r.doc) (without_all docs p.waiting) ≡ waiting U k

left-numbers : (U : RepliedHistory) (docs : List ℕ) (ps : Pending) → Each (λ e. IsLeft U docs e.0 e.1) ps
    → map (λ (e : ℕ × Prompt). e.0) (left_by_all docs ps) ≡ filter (λ k. not (length (waiting U k) == 0)) (map (λ (e : ℕ × Prompt). e.0) ps)
left-numbers U docs [] h = ap (map (λ (e : ℕ × Prompt). e.0)) (none-left docs)
left-numbers U docs (e ∷ ps) h =
    ap (map (λ (x : ℕ × Prompt). x.0)) (left-first docs e.0 e.1 ps h.0.awaited) ∙ by_rest (without_all docs e.1.waiting) h.0.documents (left-numbers U docs ps h.1)
  where
    rest : List ℕ
    rest = filter (λ k. not (length (waiting U k) == 0)) (map (λ (x : ℕ × Prompt). x.0) ps)

    by_rest : (ws : List DocRef) → map (λ (r : DocRef). r.doc) ws ≡ waiting U e.0 → map (λ (x : ℕ × Prompt). x.0) (left_by_all docs ps) ≡ rest
        → map (λ (x : ℕ × Prompt). x.0) (if_awaited e.0 e.1 ws (left_by_all docs ps)) ≡ cond (not (length (waiting U e.0) == 0)) (e.0 ∷ rest) rest
    by_rest [] is later = subst (λ ds. map (λ (x : ℕ × Prompt). x.0) (left_by_all docs ps) ≡ cond (not (length ds == 0)) (e.0 ∷ rest) rest) is later
    by_rest (r ∷ rs) is later =
        subst (λ ds. e.0 ∷ map (λ (x : ℕ × Prompt). x.0) (left_by_all docs ps) ≡ cond (not (length ds == 0)) (e.0 ∷ rest) rest) is
        (ap (λ ns. e.0 ∷ ns) later ∙ ap (λ b. cond (not b) (e.0 ∷ rest) rest) (sym (not-same (suc (length (map (λ (x : DocRef). x.doc) rs))) 0 (λ q. absurd (omega arith)))))

left-kept : (U : RepliedHistory) (docs : List ℕ) (ps : Pending) → Each (λ e. IsLeft U docs e.0 e.1) ps → Each (λ e. IsPendingPrompt U e.0 e.1) (left_by_all docs ps)
left-kept U docs [] h = subst (Each (λ e. IsPendingPrompt U e.0 e.1)) (sym (none-left docs)) tt
left-kept U docs (e ∷ ps) h =
    subst (Each (λ x. IsPendingPrompt U x.0 x.1)) (sym (left-first docs e.0 e.1 ps h.0.awaited))
    (by_rest (without_all docs e.1.waiting) h.0.documents (left-kept U docs ps h.1))
  where
    by_rest : (ws : List DocRef) → map (λ (r : DocRef). r.doc) ws ≡ waiting U e.0 → Each (λ x. IsPendingPrompt U x.0 x.1) (left_by_all docs ps)
        → Each (λ x. IsPendingPrompt U x.0 x.1) (if_awaited e.0 e.1 ws (left_by_all docs ps))
    by_rest [] is later = later
    by_rest (r ∷ rs) is later = (record { page = h.0.page; pair = h.0.pair; documents = is }, later)

-- ---- the documents that wait

-- some document waits for each pending prompt
pending-awaited : (T : RepliedHistory) (top : ℕ) → Each (λ k. not (length (waiting T k) == 0) ≡ true) (pending T top)
unfolding pending is_pending
pending-awaited T top =
    each-weaker (λ k. (is_pending T k && is_prompt_of T top k) ≡ true) (λ k. not (length (waiting T k) == 0) ≡ true) (pending T top)
    (λ k h. middle (not (is_settled T k)) (not (length (waiting T k) == 0)) (is_prompt_of T top k) h)
    (each-passes (λ k. is_pending T k && is_prompt_of T top k) (numbers_made (λ s. makes_prompt s.item) T))
  where
    middle : (a b c : Bool) → ((a && b) && c) ≡ true → b ≡ true
    middle true true c h = refl
    middle true false c h = cc
    middle false b c h = cc

waiting-current : (T : RepliedHistory) (k : ℕ) → Each (λ d. is_current T d ≡ true) (waiting T k)
unfolding waiting
waiting-current T k = each-passes (is_current T) (requests T k)

some-wait : (n : ℕ) → not (n == 0) ≡ true → 1 ≤ n
some-wait n h = by_test (n == 0) refl h
  where
    by_test : (b : Bool) → (n == 0) ≡ b → not b ≡ true → 1 ≤ n
    by_test true is e = cc
    by_test false is e = grind (arith, nat_tests)

the-frame : (f frame : ℕ) → ((f == frame) || false) ≡ true → f ≡ frame
the-frame f frame h = by_test (f == frame) refl h
  where
    by_test : (b : Bool) → (f == frame) ≡ b → (b || false) ≡ true → f ≡ frame
    by_test true is e = grind (arith, nat_tests)
    by_test false is e = cc

twice : (b : Bool) → not (not b) ≡ b
twice true = refl
twice false = refl

-- a step that navigates or closes a frame ends what has that frame above it
ends-one : (e : Event) (f : ℕ) (frames : List ℕ) → ends (f ∷ []) e ≡ true → ends frames e ≡ is_one_of frames f
ends-one (event.Navigate frame url header) f frames h = ap (is_one_of frames) (sym (the-frame f frame h))
ends-one (event.Close frame) f frames h = ap (is_one_of frames) (sym (the-frame f frame h))
ends-one e f frames h = cc

-- of the documents that wait, those are left that are still current
left-current : (T U : RepliedHistory) (docs : List ℕ) (k : ℕ) → AreEnded T U docs → filter (λ d. not (is_one_of docs d)) (waiting T k) ≡ filter (is_current U) (waiting T k)
left-current T U docs k ended =
    filter-agree (λ d. not (is_one_of docs d)) (is_current U) (waiting T k)
    (each-weaker (λ d. is_current T d ≡ true) (λ d. not (is_one_of docs d) ≡ is_current U d) (waiting T k) (λ d current. ap not (ended d current) ∙ twice (is_current U d)) (waiting-current T k))

module _ (laws : HistoryLaws) where
  each-left : (s : Step) (T : RepliedHistory) (docs : List ℕ) (queues : Queues) (top : ℕ) → (effects_of s).requests ≡ false → AreEnded T (s ∷ T) docs → IsPrompts T queues
      → Each (λ e. IsLeft (s ∷ T) docs e.0 e.1) (queue.pending queues top)
  each-left s T docs queues top requests ended is =
      let ps = queue.pending queues top in
      each-weaker (λ e. ((e.0 ≤ length T) × (not (length (waiting T e.0) == 0) ≡ true)) × IsPendingPrompt T e.0 e.1) (λ e. IsLeft (s ∷ T) docs e.0 e.1) ps (λ e h. one e.0 e.1 h.0.0 h.0.1 h.1)
      (each-both (λ e. (e.0 ≤ length T) × (not (length (waiting T e.0) == 0) ≡ true)) (λ e. IsPendingPrompt T e.0 e.1) ps
      (each-both (λ e. e.0 ≤ length T) (λ e. not (length (waiting T e.0) == 0) ≡ true) ps (within T queues top is)
      (each-unmap (λ k. not (length (waiting T k) == 0) ≡ true) (λ (e : ℕ × Prompt). e.0) ps
      (subst (Each (λ k. not (length (waiting T k) == 0) ≡ true)) (sym (is.pending top)) (pending-awaited T top))))
      (is.kept top))
    where
      one : (k : ℕ) (p : Prompt) → k ≤ length T → not (length (waiting T k) == 0) ≡ true → IsPendingPrompt T k p → IsLeft (s ∷ T) docs k p
      one k p le waits pending = record {
        awaited = let count : length p.waiting ≡ length (waiting T k) = sym (length-map (λ (r : DocRef). r.doc) p.waiting) ∙ ap length pending.documents in
            let some : 1 ≤ length (waiting T k) = some-wait (length (waiting T k)) waits in omega arith;
        page = laws.prompts.page_older s T k le ∙ pending.page;
        pair = laws.prompts.pair_older s T k le ∙ pending.pair;
        documents = documents-without docs p.waiting ∙ ap (filter (λ d. not (is_one_of docs d))) pending.documents ∙ left-current T (s ∷ T) docs k ended ∙ sym (laws.prompts.waiting_left s T k requests);
      }

  -- of a current document, whether a navigation or a close of the frame ends it
  pub ends-frame : (duration : ℕ) (H : History) (e : Timed) (f : ℕ) (docs : List ℕ) → ends (f ∷ []) e.event ≡ true
      → ((d : ℕ) → is_current (replied duration H) d ≡ true → is_one_of docs d ≡ is_one_of (frames_above (replied duration H) d) f) → AreEnded (replied duration H) (replied duration (e ∷ H)) docs
  unfolding replied
  ends-frame duration H e f docs end below d current =
      let T = replied duration H in
      let s = step_of duration H e in
      below d current ∙ sym (ends-one e.event f (frames_above T d) end) ∙ sym (twice (ends (frames_above T d) e.event))
      ∙ ap (λ b. not (b && not (ends (frames_above T d) e.event))) (sym current)
      ∙ ap not (sym (laws.current.is_current_older s T d (laws.current.is_current_within T d current).1))

  pub ended : (duration : ℕ) (H : History) (e : Timed) (docs : List ℕ) (old new : Queues) → (effects_of (step_of duration H e)).requests ≡ false → (effects_of (step_of duration H e)).settles_prompt ≡ false
      → AreEnded (replied duration H) (replied duration (e ∷ H)) docs → IsPrompts (replied duration H) old
      → new.given ≡ old.given → ((top : ℕ) → queue.pending new top ≡ left_by_all docs (queue.pending old top)) → IsPrompts (replied duration (e ∷ H)) new
  unfolding replied
  ended duration H e docs old new requests settles gone is given left =
      let T = replied duration H in
      let s = step_of duration H e in record {
        given = λ k. ap (λ g. lookup (nat_eq k) g) given ∙ is.given k ∙ known-left laws duration H e k requests settles;
        pending = λ top.
            ap (map (λ (x : ℕ × Prompt). x.0)) (left top)
            ∙ left-numbers (s ∷ T) docs (queue.pending old top) (each-left s T docs old top requests gone is)
            ∙ ap (filter (λ k. not (length (waiting (s ∷ T) k) == 0))) (is.pending top)
            ∙ sym (laws.prompts.pending_left duration H e top requests settles);
        kept = λ top. subst (Each (λ x. IsPendingPrompt (s ∷ T) x.0 x.1)) (sym (left top)) (left-kept (s ∷ T) docs (queue.pending old top) (each-left s T docs old top requests gone is));
      }
