-- What a step leaves of prompts.
use Rattle.std.proofs.Common.{◌≡◌, ◌≢◌, ℕ, suc, ◌≤◌, Bool, true, false, not, ◌&&◌, ◌||◌, ◌==◌, List, [], ◌∷◌, ◌++◌, length, filter, Option, Some, None, is_some, option_and_then, option_to_list, refl, sym, ◌∙◌, ap, arith, true≢false}
use Rattle.std.specs.Option.{option_or}
use Rattle.std.proofs.lemmas.List.Elements.{filter-append}
use Rattle.std.proofs.lemmas.List.Folds.{list_any-append}
use Rattle.pe_events.specs.declared.event.Event.{Event}
use Rattle.pe_events.specs.declared.event.Event.TheVariants as event
use Rattle.pe_rules.specs.History.{StepAnswer, Step, RepliedHistory, some_if, newest_answer, all_answers}
use Rattle.pe_rules.specs.Current.{ends, frames_above, is_current, document_in}
use Rattle.pe_rules.specs.Activation.{is_one_of}
use Rattle.pe_rules.specs.Prompts.{prompt_replied, requesting_document, requesting_document_of, requests, answers, is_settled, waiting}
use Rattle.pe_laws.specs.Effects.{effects}
use Rattle.pe_laws.specs.EffectsLaws.{effects_of}
use Rattle.pe_laws.specs.StatusesLaws.{Each}
use Rattle.pe_laws.proofs.Numbers.{not_same, is_same, same-numbers}
use Rattle.pe_laws.proofs.Older.{AllWithin}
use Rattle.pe_laws.proofs.Each.{filter-agree, filter-twice, append-none}
use Rattle.pe_laws.proofs.Current.{current-older, document-in-frame}
use Rattle.pe_laws.proofs.Effects.{older-current}
use Rattle.pe_laws.proofs.PendingPrompts.{requests-step, requests-within}

pub all-each : (n : ℕ) (ds : List ℕ) → AllWithin n ds → Each (λ d. d ≤ n) ds
all-each n [] h = tt
all-each n (d ∷ ds) h = (h.0, all-each n ds h.1)

-- ---- requests

asker-frame : (e : Event) (T : RepliedHistory) (d : ℕ) → requesting_document e T ≡ Some d → (f : ℕ) × (document_in T f ≡ Some d)
asker-frame (event.Request frame feature) T d h = (frame, h)
asker-frame e T d h = cc

-- a document that asks is the asker of the event, and was told this prompt
pub asker-is : (k : ℕ) (s : Step) (T : RepliedHistory) (d : ℕ) → requesting_document_of k s T ≡ Some d → (requesting_document s.event T ≡ Some d) × (prompt_replied s.item ≡ Some k)
asker-is k s T d h = by_told (prompt_replied s.item) h
  where
    by_same : (p x : ℕ) → (b : Bool) → (p == k) ≡ b → some_if b x ≡ Some d → (Some x ≡ Some d) × (Some p ≡ Some k)
    by_same p x true is e = (e, ap Some (same-numbers p k is))
    by_same p x false is e = cc

    by_asker : (p : ℕ) (o : Option ℕ) → option_and_then (λ d. some_if (p == k) d) o ≡ Some d → (o ≡ Some d) × (Some p ≡ Some k)
    by_asker p None e = cc
    by_asker p (Some x) e = by_same p x (p == k) refl e

    by_told : (o : Option ℕ) → option_and_then (λ p. option_and_then (λ d. some_if (p == k) d) (requesting_document s.event T)) o ≡ Some d → (requesting_document s.event T ≡ Some d) × (o ≡ Some k)
    by_told None e = cc
    by_told (Some p) e = by_asker p (requesting_document s.event T) e

-- it was current
pub asker-current : (k : ℕ) (s : Step) (T : RepliedHistory) (d : ℕ) → requesting_document_of k s T ≡ Some d → (is_current T d ≡ true) × (1 ≤ d) × (d ≤ length T)
asker-current k s T d h =
    let of = asker-frame s.event T d (asker-is k s T d h).0 in
    let w = document-in-frame T of.0 d of.1 in
    (w.0, w.2, w.3)

then-none : (give : ℕ → Option ℕ) (o : Option ℕ) → ((p : ℕ) → give p ≡ None) → option_and_then give o ≡ None
then-none give None none = refl
then-none give (Some p) none = none p

no-asker : (e : Event) (item : StepAnswer) (T : RepliedHistory) (k : ℕ) → (effects e item).requests ≡ false → option_and_then (λ p. option_and_then (λ d. some_if (p == k) d) (requesting_document e T)) (prompt_replied item) ≡ None
no-asker (event.Request frame feature) item T k h = by_told (prompt_replied item) h
  where
    by_told : (o : Option ℕ) → is_some o ≡ false → option_and_then (λ p. option_and_then (λ d. some_if (p == k) d) (document_in T frame)) o ≡ None
    by_told None e = refl
    by_told (Some p) e = cc
no-asker e item T k h = then-none (λ p. None) (prompt_replied item) (λ p. refl)

pub unasked : (s : Step) (T : RepliedHistory) (k : ℕ) → (effects_of s).requests ≡ false → requesting_document_of k s T ≡ None
unasked s T k h = no-asker s.event s.item T k h

pub asker-told : (s : Step) (T : RepliedHistory) (k : ℕ) → prompt_replied s.item ≡ Some k → requesting_document_of k s T ≡ requesting_document s.event T
asker-told s T k h = rw (h, is_same k) (by_asker (requesting_document s.event T))
  where
    by_asker : (o : Option ℕ) → option_and_then (λ d. some_if true d) o ≡ o
    by_asker None = refl
    by_asker (Some d) = refl

pub asker-other : (s : Step) (T : RepliedHistory) (p k : ℕ) → prompt_replied s.item ≡ Some p → p ≢ k → requesting_document_of k s T ≡ None
asker-other s T p k h ne = rw (h, not_same p k ne) (by_asker (requesting_document s.event T))
  where
    by_asker : (o : Option ℕ) → option_and_then (λ d. some_if false d) o ≡ None
    by_asker None = refl
    by_asker (Some d) = refl

pub unasked-step : (s : Step) (T : RepliedHistory) (k : ℕ) → requesting_document_of k s T ≡ None → requests (s ∷ T) k ≡ requests T k
unasked-step s T k h = requests-step s T k ∙ rw h (append-none (requests T k))

pub requests-told : (s : Step) (T : RepliedHistory) (k : ℕ) → prompt_replied s.item ≡ Some k → requests (s ∷ T) k ≡ requests T k ++ option_to_list (requesting_document s.event T)
requests-told s T k h = requests-step s T k ∙ ap (λ o. requests T k ++ option_to_list o) (asker-told s T k h)

pub requests-other : (s : Step) (T : RepliedHistory) (p k : ℕ) → prompt_replied s.item ≡ Some p → p ≢ k → requests (s ∷ T) k ≡ requests T k
requests-other s T p k h ne = unasked-step s T k (asker-other s T p k h ne)

pub requests-stay : (s : Step) (T : RepliedHistory) (k : ℕ) → (effects_of s).requests ≡ false → requests (s ∷ T) k ≡ requests T k
requests-stay s T k h = unasked-step s T k (unasked s T k h)

pub no-requests : (k : ℕ) → requests [] k ≡ []
unfolding requests all_answers
no-requests k = refl

pub requests-made : (T : RepliedHistory) (k d : ℕ) → is_one_of (requests T k) d ≡ true → (1 ≤ d) × (d ≤ length T)
requests-made [] k d h = let none : is_one_of (requests [] k) d ≡ false = ap (λ xs. is_one_of xs d) (no-requests k) in absurd (true≢false (sym h ∙ none))
requests-made (s ∷ T) k d h =
    by_older (is_one_of (requests T k) d) refl (requests-made T k d)
    (sym (list_any-append (λ x. x == d) (requests T k) (option_to_list (requesting_document_of k s T))) ∙ ap (λ xs. is_one_of xs d) (sym (requests-step s T k)) ∙ h)
  where
    by_same : (x : ℕ) → requesting_document_of k s T ≡ Some x → (b : Bool) → (x == d) ≡ b → (b || false) ≡ true → (1 ≤ d) × (d ≤ suc (length T))
    by_same x is true same e = let w = asker-current k s T x is in let here : x ≡ d = same-numbers x d same in (omega (arith, w.1), omega (arith, w.2))
    by_same x is false same e = cc

    by_asker : (o : Option ℕ) → requesting_document_of k s T ≡ o → is_one_of (option_to_list o) d ≡ true → (1 ≤ d) × (d ≤ suc (length T))
    by_asker None is e = cc
    by_asker (Some x) is e = by_same x is (x == d) refl e

    by_older : (b : Bool) → is_one_of (requests T k) d ≡ b → (is_one_of (requests T k) d ≡ true → (1 ≤ d) × (d ≤ length T))
        → (b || is_one_of (option_to_list (requesting_document_of k s T)) d) ≡ true → (1 ≤ d) × (d ≤ suc (length T))
    by_older true is older e = let w = older is in (w.0, omega (arith, w.1))
    by_older false is older e = by_asker (requesting_document_of k s T) refl e

-- ---- settled prompts

pub settled-step : (s : Step) (T : RepliedHistory) (k : ℕ) → is_settled (s ∷ T) k ≡ (answers s.event k || is_settled T k)
unfolding is_settled newest_answer
settled-step s T k = by_answer (answers s.event k)
  where
    by_answer : (b : Bool) → is_some (option_or (some_if b k) (newest_answer (λ s B. some_if (answers s.event k) k) T)) ≡ (b || is_some (newest_answer (λ s B. some_if (answers s.event k) k) T))
    by_answer true = refl
    by_answer false = refl

pub no-answer : (e : Event) (item : StepAnswer) (k : ℕ) → (effects e item).settles_prompt ≡ false → answers e k ≡ false
no-answer (event.Answered prompt out given) item k h = cc
no-answer e item k h = refl

pub settled-left : (s : Step) (T : RepliedHistory) (k : ℕ) → (effects_of s).settles_prompt ≡ false → is_settled (s ∷ T) k ≡ is_settled T k
settled-left s T k h = settled-step s T k ∙ rw (no-answer s.event s.item k h) refl

-- ---- the documents that wait

waiting-is : (T : RepliedHistory) (k : ℕ) → waiting T k ≡ filter (is_current T) (requests T k)
unfolding waiting
waiting-is T k = refl

requests-each : (T : RepliedHistory) (k : ℕ) → Each (λ d. d ≤ length T) (requests T k)
requests-each T k = all-each (length T) (requests T k) (requests-within T k)

pub waiting-step : (s : Step) (T : RepliedHistory) (k : ℕ) → (effects_of s).ends_documents ≡ false → waiting (s ∷ T) k ≡ waiting T k ++ option_to_list (requesting_document_of k s T)
waiting-step s T k h =
    waiting-is (s ∷ T) k
    ∙ ap (filter (is_current (s ∷ T))) (requests-step s T k)
    ∙ filter-append (is_current (s ∷ T)) (requests T k) (option_to_list (requesting_document_of k s T))
    ∙ rw (filter-agree (λ d. d ≤ length T) (is_current (s ∷ T)) (is_current T) (requests T k) (λ d le. older-current s T d h le) (requests-each T k), ← waiting-is T k)
    (ap (λ xs. waiting T k ++ xs) (by_asker (requesting_document_of k s T) (λ d is. let w = asker-current k s T d is in older-current s T d h w.2 ∙ w.0)))
  where
    by_asker : (o : Option ℕ) → ((d : ℕ) → o ≡ Some d → is_current (s ∷ T) d ≡ true) → filter (is_current (s ∷ T)) (option_to_list o) ≡ option_to_list o
    by_asker None current = refl
    by_asker (Some d) current = rw (current d refl) refl

-- a document that was there is current only where it was
current-twice : (s : Step) (T : RepliedHistory) (d : ℕ) → d ≤ length T → is_current (s ∷ T) d ≡ (is_current T d && is_current (s ∷ T) d)
current-twice s T d le = rw (current-older s T d le) (by_tests (is_current T d) (not (ends (frames_above T d) s.event)))
  where
    by_tests : (a b : Bool) → (a && b) ≡ (a && (a && b))
    by_tests true b = refl
    by_tests false b = refl

pub waiting-left : (s : Step) (T : RepliedHistory) (k : ℕ) → (effects_of s).requests ≡ false → waiting (s ∷ T) k ≡ filter (is_current (s ∷ T)) (waiting T k)
waiting-left s T k h =
    waiting-is (s ∷ T) k
    ∙ ap (filter (is_current (s ∷ T))) (requests-stay s T k h)
    ∙ filter-twice (λ d. d ≤ length T) (is_current (s ∷ T)) (is_current T) (is_current (s ∷ T)) (requests T k) (λ d le. current-twice s T d le) (requests-each T k)
    ∙ ap (filter (is_current (s ∷ T))) (sym (waiting-is T k))

pub waiting-stay : (s : Step) (T : RepliedHistory) (k : ℕ) → (effects_of s).requests ≡ false → (effects_of s).ends_documents ≡ false → waiting (s ∷ T) k ≡ waiting T k
waiting-stay s T k h end = waiting-step s T k end ∙ rw (unasked s T k h) (append-none (waiting T k))
