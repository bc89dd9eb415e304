-- The numbers that events make.
use Rattle.std.proofs.Common.{◌≡◌, ◌≢◌, ℕ, suc, ◌<◌, ◌≤◌, Bool, true, false, ◌&&◌, ◌==◌, List, [], ◌∷◌, ◌++◌, length, Option, Some, None, is_some, option_to_list, refl, sym, ◌∙◌, ap, arith}
use Rattle.std.specs.Option.{option_or}
use Rattle.pe_rules.specs.History.{Step, RepliedHistory, some_if, newest_answer, answers_newest_first}
use Rattle.pe_rules.specs.Numbering.{makes_frame, document_frame, makes_status, makes_prompt, makes_message, is_made, is_frame, is_status, is_prompt, is_message, frames_made, documents_made, parent_by, parent_frame}
use Rattle.pe_rules.specs.Activation.{is_one_of}
use Rattle.pe_laws.proofs.Numbers.{not_same, is_same, same-numbers}
use Rattle.pe_laws.proofs.Older.{AllWithin, within-more}

-- ---- whether a number was made

pub made-other : (makes : Step → Bool) (s : Step) (T : RepliedHistory) (k : ℕ) → k ≢ suc (length T) → is_made makes (s ∷ T) k ≡ is_made makes T k
unfolding newest_answer
made-other makes s T k ne = rw (not_same k (suc (length T)) ne) refl

-- a step that does not pass the test makes none
pub made-none : (makes : Step → Bool) (s : Step) (T : RepliedHistory) (k : ℕ) → makes s ≡ false → is_made makes (s ∷ T) k ≡ is_made makes T k
unfolding newest_answer
made-none makes s T k h = rw h (by_test (k == suc (length T)))
  where
    by_test : (b : Bool) → is_some (option_or (some_if (b && false) k) (newest_answer (λ s B. some_if (k == length (s ∷ B) && makes s) k) T)) ≡ is_made makes T k
    by_test true = refl
    by_test false = refl

made-beyond : (makes : Step → Bool) (T : RepliedHistory) (k : ℕ) → length T < k → is_made makes T k ≡ false
unfolding newest_answer
made-beyond makes [] k h = refl
made-beyond makes (s ∷ T) k h = let ne : k ≢ suc (length T) = omega arith in rw (not_same k (suc (length T)) ne) (made-beyond makes T k (omega arith))

made-newest : (makes : Step → Bool) (s : Step) (T : RepliedHistory) → is_made makes (s ∷ T) (suc (length T)) ≡ makes s
unfolding newest_answer
made-newest makes s T = rw (is_same (suc (length T))) (by_test (makes s))
  where
    by_test : (b : Bool)
        → is_some (option_or (some_if b (suc (length T))) (newest_answer (λ s B. some_if (suc (length T) == length (s ∷ B) && makes s) (suc (length T))) T)) ≡ b
    by_test true = refl
    by_test false = made-beyond makes T (suc (length T)) (omega arith)

made-within : (makes : Step → Bool) (T : RepliedHistory) (k : ℕ) → is_made makes T k ≡ true → (1 ≤ k) × (k ≤ length T)
unfolding newest_answer
made-within makes [] k h = cc
made-within makes (s ∷ T) k h = by_test (k == suc (length T)) refl (made-within makes T k) h
  where
    by_test : (b : Bool) → (k == suc (length T)) ≡ b → (is_made makes T k ≡ true → (1 ≤ k) × (k ≤ length T))
        → is_some (option_or (some_if (b && makes s) k) (newest_answer (λ s B. some_if (k == length (s ∷ B) && makes s) k) T)) ≡ true → (1 ≤ k) × (k ≤ suc (length T))
    by_test true is older e = let here : k ≡ suc (length T) = same-numbers k (suc (length T)) is in (omega arith, omega arith)
    by_test false is older e = let w = older e in (w.0, omega (arith, w.1))

-- ---- the numbers that were made

-- those of the positions that pass a test, newest first
abbrev numbers : (Step → Bool) → RepliedHistory → List ℕ
numbers makes T = answers_newest_first (λ s B. some_if (makes s) (length (s ∷ B))) T

numbers-step : (makes : Step → Bool) (s : Step) (T : RepliedHistory) → numbers makes (s ∷ T) ≡ option_to_list (some_if (makes s) (suc (length T))) ++ numbers makes T
unfolding answers_newest_first
numbers-step makes s T = refl

pub same-back : (a b : ℕ) → (a == b) ≡ (b == a)
same-back a b = by_test (a == b) refl
  where
    by_test : (t : Bool) → (a == b) ≡ t → t ≡ (b == a)
    by_test true is = sym (ap (λ x. b == x) (same-numbers a b is) ∙ is_same b)
    by_test false is = sym (by_back (b == a) refl)
      where
        by_back : (t : Bool) → (b == a) ≡ t → t ≡ false
        by_back false e = refl
        by_back true e = sym (ap (λ x. a == x) (same-numbers b a e) ∙ is_same a) ∙ is

numbers-are : (makes : Step → Bool) (T : RepliedHistory) (k : ℕ) → is_one_of (numbers makes T) k ≡ is_made makes T k
unfolding answers_newest_first newest_answer
numbers-are makes [] k = refl
numbers-are makes (s ∷ T) k = by_tests (makes s) (k == suc (length T)) (same-back (suc (length T)) k) (numbers-are makes T k)
  where
    by_tests : (m b : Bool) → (suc (length T) == k) ≡ b → is_one_of (numbers makes T) k ≡ is_made makes T k
        → is_one_of (option_to_list (some_if m (suc (length T))) ++ numbers makes T) k
        ≡ is_some (option_or (some_if (b && m) k) (newest_answer (λ s B. some_if (k == length (s ∷ B) && makes s) k) T))
    by_tests true true is older = rw is refl
    by_tests true false is older = rw is older
    by_tests false true is older = older
    by_tests false false is older = older

numbers-within : (makes : Step → Bool) (T : RepliedHistory) → AllWithin (length T) (numbers makes T)
unfolding answers_newest_first
numbers-within makes [] = tt
numbers-within makes (s ∷ T) = by_test (makes s) (within-more (length T) (numbers makes T) (numbers-within makes T))
  where
    by_test : (b : Bool) → AllWithin (suc (length T)) (numbers makes T) → AllWithin (suc (length T)) (option_to_list (some_if b (suc (length T))) ++ numbers makes T)
    by_test true older = (omega arith, older)
    by_test false older = older

-- ---- frames

pub frame-other : (s : Step) (T : RepliedHistory) (k : ℕ) → k ≢ suc (length T) → is_frame (s ∷ T) k ≡ is_frame T k
unfolding is_frame
frame-other s T k ne = made-other (λ s. makes_frame s.event) s T k ne

pub frame-newest : (s : Step) (T : RepliedHistory) → is_frame (s ∷ T) (suc (length T)) ≡ makes_frame s.event
unfolding is_frame
frame-newest s T = made-newest (λ s. makes_frame s.event) s T

pub frame-within : (T : RepliedHistory) (k : ℕ) → is_frame T k ≡ true → (1 ≤ k) × (k ≤ length T)
unfolding is_frame
frame-within T k h = made-within (λ s. makes_frame s.event) T k h

pub frames-step : (s : Step) (T : RepliedHistory) → frames_made (s ∷ T) ≡ option_to_list (some_if (makes_frame s.event) (suc (length T))) ++ frames_made T
unfolding frames_made
frames-step s T = numbers-step (λ s. makes_frame s.event) s T

pub frames-are : (T : RepliedHistory) (k : ℕ) → is_one_of (frames_made T) k ≡ is_frame T k
unfolding frames_made is_frame
frames-are T k = numbers-are (λ s. makes_frame s.event) T k

pub frames-within : (T : RepliedHistory) → AllWithin (length T) (frames_made T)
unfolding frames_made
frames-within T = numbers-within (λ s. makes_frame s.event) T

pub parent-other : (s : Step) (T : RepliedHistory) (f : ℕ) → f ≢ suc (length T) → parent_frame (s ∷ T) f ≡ parent_frame T f
unfolding parent_frame newest_answer
parent-other s T f ne = rw (not_same f (suc (length T)) ne) refl

pub parent-beyond : (T : RepliedHistory) (f : ℕ) → length T < f → parent_frame T f ≡ None
unfolding parent_frame newest_answer
parent-beyond [] f h = refl
parent-beyond (s ∷ T) f h = let ne : f ≢ suc (length T) = omega arith in rw (not_same f (suc (length T)) ne) (parent-beyond T f (omega arith))

pub or-none : {A : Type 0} (o : Option A) → option_or o None ≡ o
or-none None = refl
or-none (Some x) = refl

parent-at : (s : Step) (T : RepliedHistory) → parent_frame (s ∷ T) (suc (length T)) ≡ option_or (parent_by s.event) (parent_frame T (suc (length T)))
unfolding parent_frame newest_answer
parent-at s T = rw (is_same (suc (length T))) refl

pub parent-newest : (s : Step) (T : RepliedHistory) → parent_frame (s ∷ T) (suc (length T)) ≡ parent_by s.event
parent-newest s T = parent-at s T ∙ rw (parent-beyond T (suc (length T)) (omega arith)) (or-none (parent_by s.event))

-- ---- documents

pub documents-step : (s : Step) (T : RepliedHistory) → documents_made (s ∷ T) ≡ option_to_list (some_if (is_some (document_frame s.event 0)) (suc (length T))) ++ documents_made T
unfolding documents_made
documents-step s T = numbers-step (λ s. is_some (document_frame s.event 0)) s T

-- the position makes a document
abbrev pub is_document : RepliedHistory → ℕ → Bool
is_document T d = is_made (λ s. is_some (document_frame s.event 0)) T d

pub documents-made : (T : RepliedHistory) (d : ℕ) → is_one_of (documents_made T) d ≡ is_document T d
unfolding documents_made
documents-made T d = numbers-are (λ s. is_some (document_frame s.event 0)) T d

pub document-within : (T : RepliedHistory) (d : ℕ) → is_one_of (documents_made T) d ≡ true → (1 ≤ d) × (d ≤ length T)
document-within T d h = made-within (λ s. is_some (document_frame s.event 0)) T d (sym (documents-made T d) ∙ h)

-- ---- statuses, prompts and messages

pub status-other : (s : Step) (T : RepliedHistory) (k : ℕ) → k ≢ suc (length T) → is_status (s ∷ T) k ≡ is_status T k
unfolding is_status
status-other s T k ne = made-other (λ s. makes_status s.event) s T k ne

pub status-newest : (s : Step) (T : RepliedHistory) → is_status (s ∷ T) (suc (length T)) ≡ makes_status s.event
unfolding is_status
status-newest s T = made-newest (λ s. makes_status s.event) s T

pub status-within : (T : RepliedHistory) (k : ℕ) → is_status T k ≡ true → (1 ≤ k) × (k ≤ length T)
unfolding is_status
status-within T k h = made-within (λ s. makes_status s.event) T k h

pub prompt-other : (s : Step) (T : RepliedHistory) (k : ℕ) → k ≢ suc (length T) → is_prompt (s ∷ T) k ≡ is_prompt T k
unfolding is_prompt
prompt-other s T k ne = made-other (λ s. makes_prompt s.item) s T k ne

pub prompt-newest : (s : Step) (T : RepliedHistory) → is_prompt (s ∷ T) (suc (length T)) ≡ makes_prompt s.item
unfolding is_prompt
prompt-newest s T = made-newest (λ s. makes_prompt s.item) s T

pub prompt-within : (T : RepliedHistory) (k : ℕ) → is_prompt T k ≡ true → (1 ≤ k) × (k ≤ length T)
unfolding is_prompt
prompt-within T k h = made-within (λ s. makes_prompt s.item) T k h

pub message-other : (s : Step) (T : RepliedHistory) (k : ℕ) → k ≢ suc (length T) → is_message (s ∷ T) k ≡ is_message T k
unfolding is_message
message-other s T k ne = made-other (λ s. makes_message s.item) s T k ne

pub message-newest : (s : Step) (T : RepliedHistory) → is_message (s ∷ T) (suc (length T)) ≡ makes_message s.item
unfolding is_message
message-newest s T = made-newest (λ s. makes_message s.item) s T

pub message-within : (T : RepliedHistory) (k : ℕ) → is_message T k ≡ true → (1 ≤ k) × (k ≤ length T)
unfolding is_message
message-within T k h = made-within (λ s. makes_message s.item) T k h
