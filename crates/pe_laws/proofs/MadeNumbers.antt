-- The numbers whose positions pass a test, rising.
use Rattle.std.proofs.Common.{◌≡◌, ℕ, suc, ◌≤◌, Bool, true, false, ◌&&◌, ◌||◌, ◌==◌, [], ◌∷◌, ◌++◌, length, Option, Some, None, is_some, option_to_list, refl, sym, ◌∙◌, ap, arith}
use Rattle.std.specs.Option.{option_or}
use Rattle.std.proofs.lemmas.List.Folds.{list_any-append}
use Rattle.pe_rules.specs.History.{Step, RepliedHistory, some_if, newest_answer, all_answers}
use Rattle.pe_rules.specs.Numbering.{is_made, numbers_made}
use Rattle.pe_rules.specs.Activation.{is_one_of}
use Rattle.pe_laws.specs.StatusesLaws.{Each}
use Rattle.pe_laws.proofs.Numbering.{same-back}
use Rattle.pe_laws.proofs.Each.{each-weaker, each-append, append-none}

pub made-start : (makes : Step → Bool) → numbers_made makes [] ≡ []
unfolding all_answers
made-start makes = refl

pub made-step : (makes : Step → Bool) (s : Step) (T : RepliedHistory) → numbers_made makes (s ∷ T) ≡ numbers_made makes T ++ option_to_list (some_if (makes s) (suc (length T)))
unfolding all_answers
made-step makes s T = refl

pub made-unmade : (makes : Step → Bool) (s : Step) (T : RepliedHistory) → makes s ≡ false → numbers_made makes (s ∷ T) ≡ numbers_made makes T
made-unmade makes s T h = made-step makes s T ∙ rw h (append-none (numbers_made makes T))

pub made-new : (makes : Step → Bool) (s : Step) (T : RepliedHistory) → makes s ≡ true → numbers_made makes (s ∷ T) ≡ numbers_made makes T ++ suc (length T) ∷ []
made-new makes s T h = made-step makes s T ∙ rw h refl

-- they are positions of the history
pub made-positions : (makes : Step → Bool) (T : RepliedHistory) → Each (λ k. k ≤ length T) (numbers_made makes T)
made-positions makes [] = rw (made-start makes) tt
made-positions makes (s ∷ T) =
    rw (made-step makes s T)
    (each-append (λ k. k ≤ suc (length T)) (numbers_made makes T) (option_to_list (some_if (makes s) (suc (length T))))
    (each-weaker (λ k. k ≤ length T) (λ k. k ≤ suc (length T)) (numbers_made makes T) (λ k h. omega arith) (made-positions makes T)) (by_test (makes s)))
  where
    by_test : (b : Bool) → Each (λ k. k ≤ suc (length T)) (option_to_list (some_if b (suc (length T))))
    by_test true = (omega arith, tt)
    by_test false = tt

-- a step tests its own position
made-parts : (makes : Step → Bool) (s : Step) (T : RepliedHistory) (k : ℕ) → is_made makes (s ∷ T) k ≡ (is_made makes T k || (k == suc (length T) && makes s))
unfolding newest_answer
made-parts makes s T k = by_tests (k == suc (length T) && makes s) (newest_answer (λ s B. some_if (k == length (s ∷ B) && makes s) k) T)
  where
    by_tests : (b : Bool) (o : Option ℕ) → is_some (option_or (some_if b k) o) ≡ (is_some o || b)
    by_tests true None = refl
    by_tests true (Some x) = refl
    by_tests false None = refl
    by_tests false (Some x) = refl

nothing-made : (makes : Step → Bool) (k : ℕ) → is_made makes [] k ≡ false
unfolding newest_answer
nothing-made makes k = refl

-- they are the numbers that were made
pub made-are : (makes : Step → Bool) (T : RepliedHistory) (k : ℕ) → is_one_of (numbers_made makes T) k ≡ is_made makes T k
made-are makes [] k = rw (made-start makes) (sym (nothing-made makes k))
made-are makes (s ∷ T) k =
    ap (λ xs. is_one_of xs k) (made-step makes s T)
    ∙ list_any-append (λ x. x == k) (numbers_made makes T) (option_to_list (some_if (makes s) (suc (length T))))
    ∙ rw (made-are makes T k, made-parts makes s T k) (ap (λ b. is_made makes T k || b) (by_test (makes s)))
  where
    or-false : (b : Bool) → (b || false) ≡ (b && true)
    or-false true = refl
    or-false false = refl

    and-false : (b : Bool) → false ≡ (b && false)
    and-false true = refl
    and-false false = refl

    by_test : (b : Bool) → is_one_of (option_to_list (some_if b (suc (length T)))) k ≡ (k == suc (length T) && b)
    by_test true = rw (same-back (suc (length T)) k) (or-false (k == suc (length T)))
    by_test false = and-false (k == suc (length T))

-- a number that was made stays one
pub made-stays : (makes : Step → Bool) (s : Step) (T : RepliedHistory) (k : ℕ) → is_made makes T k ≡ true → is_made makes (s ∷ T) k ≡ true
made-stays makes s T k h = made-parts makes s T k ∙ rw h refl
