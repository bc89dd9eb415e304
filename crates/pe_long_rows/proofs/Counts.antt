-- How many of the numbers that were made pass a test, step by step.
use Rattle.std.proofs.Common.{◌≡◌, ℕ, suc, ◌+◌, ◌≤◌, Bool, true, false, List, [], ◌∷◌, ◌++◌, length, filter, option_to_list, refl, ◌∙◌, ap, arith, length-append}
use Rattle.std.proofs.lemmas.List.Elements.{filter-append}
use Rattle.pe_rules.specs.History.{Step, RepliedHistory, some_if, all_answers}
use Rattle.pe_rules.specs.Numbering.{numbers_made}

-- each number of the list is at most this one
abbrev AllWithin : ℕ → List ℕ → Type 0
AllWithin n [] = Unit {0}
AllWithin n (d ∷ ds) = (d ≤ n) × AllWithin n ds

within-more : (n : ℕ) (ds : List ℕ) → AllWithin n ds → AllWithin (suc n) ds
within-more n [] h = tt
within-more n (d ∷ ds) h = (omega (arith, h.0), within-more n ds h.1)

within-append : (n : ℕ) (ds es : List ℕ) → AllWithin n ds → AllWithin n es → AllWithin n (ds ++ es)
within-append n [] es h k = k
within-append n (d ∷ ds) es h k = (h.0, within-append n ds es h.1 k)

-- the numbers whose positions pass a test are those of the history
made-within : (makes : Step → Bool) (T : RepliedHistory) → AllWithin (length T) (numbers_made makes T)
unfolding all_answers
made-within makes [] = tt
made-within makes (s ∷ T) =
    within-append (suc (length T)) (numbers_made makes T) (option_to_list (some_if (makes s) (suc (length T)))) (within-more (length T) (numbers_made makes T) (made-within makes T)) (by_test (makes s))
  where
    by_test : (b : Bool) → AllWithin (suc (length T)) (option_to_list (some_if b (suc (length T))))
    by_test true = (omega arith, tt)
    by_test false = tt

made-step : (makes : Step → Bool) (s : Step) (T : RepliedHistory) → numbers_made makes (s ∷ T) ≡ numbers_made makes T ++ option_to_list (some_if (makes s) (suc (length T)))
unfolding all_answers
made-step makes s T = refl

-- how many of them pass a test, where it says the same of the older ones as another
pub count-step : (makes : Step → Bool) (old new : ℕ → Bool) (s : Step) (T : RepliedHistory) → ((k : ℕ) → k ≤ length T → new k ≡ old k)
    → length (filter new (numbers_made makes (s ∷ T))) ≡ length (filter old (numbers_made makes T)) + length (filter new (option_to_list (some_if (makes s) (suc (length T)))))
count-step makes old new s T same =
    let newer = option_to_list (some_if (makes s) (suc (length T))) in
    ap (λ xs. length (filter new xs)) (made-step makes s T)
    ∙ ap length (filter-append new (numbers_made makes T) newer)
    ∙ length-append (filter new (numbers_made makes T)) (filter new newer)
    ∙ ap (λ xs. length xs + length (filter new newer)) (filter-same (length T) new old (numbers_made makes T) (made-within makes T) same)
  where
    filter-same : (n : ℕ) (p q : ℕ → Bool) (xs : List ℕ) → AllWithin n xs → ((x : ℕ) → x ≤ n → p x ≡ q x) → filter p xs ≡ filter q xs
    filter-same n p q [] within same = refl
    filter-same n p q (x ∷ xs) within same = rw (same x within.0, filter-same n p q xs within.1 same) refl
