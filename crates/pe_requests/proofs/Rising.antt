-- The numbers of pending prompts rise, and are positions of the history.
use Rattle.std.proofs.Common.{ℕ, suc, ◌<◌, ◌≤◌, Bool, true, false, ◌&&◌, List, [], ◌∷◌, ◌++◌, length, filter, option_to_list, arith, cond}
use Rattle.pe_rules.specs.History.{Step, RepliedHistory, some_if, all_answers}
use Rattle.pe_rules.specs.Numbering.{numbers_made, makes_prompt}
use Rattle.pe_rules.specs.Prompts.{is_pending, is_prompt_of, pending}
use Rattle.pe_laws.specs.StatusesLaws.{Each}
use Rattle.pe_requests.proofs.Lists.{each-weaker, each-filter, each-append}

-- each number is below those behind it
abbrev pub AreRising : List ℕ → Type 0
AreRising [] = Unit {0}
AreRising (x ∷ xs) = Each (λ y. x < y) xs × AreRising xs

rising-filter : (test : ℕ → Bool) (xs : List ℕ) → AreRising xs → AreRising (filter test xs)
rising-filter test [] h = tt
rising-filter test (x ∷ xs) h = by_test (test x) (each-filter (λ y. x < y) test xs h.0) (rising-filter test xs h.1)
  where
    by_test : (b : Bool) → Each (λ y. x < y) (filter test xs) → AreRising (filter test xs) → AreRising (cond b (x ∷ filter test xs) (filter test xs))
    by_test true above rest = (above, rest)
    by_test false above rest = rest

rising-last : (xs : List ℕ) (n : ℕ) → Each (λ x. x < n) xs → AreRising xs → AreRising (xs ++ n ∷ [])
rising-last [] n below h = (tt, tt)
rising-last (x ∷ xs) n below h = (each-append (λ y. x < y) xs (n ∷ []) h.0 (below.0, tt), rising-last xs n below.1 h.1)

numbers-within : (makes : Step → Bool) (T : RepliedHistory) → Each (λ k. k < suc (length T)) (numbers_made makes T)
unfolding all_answers
numbers-within makes [] = tt
numbers-within makes (s ∷ T) =
    each-append (λ k. k < suc (suc (length T))) (numbers_made makes T) (option_to_list (some_if (makes s) (suc (length T))))
    (each-weaker (λ k. k < suc (length T)) (λ k. k < suc (suc (length T))) (numbers_made makes T) (λ k h. omega arith) (numbers-within makes T)) (by_test (makes s))
  where
    by_test : (b : Bool) → Each (λ k. k < suc (suc (length T))) (option_to_list (some_if b (suc (length T))))
    by_test true = (omega arith, tt)
    by_test false = tt

numbers-rising : (makes : Step → Bool) (T : RepliedHistory) → AreRising (numbers_made makes T)
unfolding all_answers
numbers-rising makes [] = tt
numbers-rising makes (s ∷ T) = by_test (makes s) (numbers-rising makes T)
  where
    none : (xs : List ℕ) → AreRising xs → AreRising (xs ++ [])
    none [] h = tt
    none (x ∷ xs) h = (each-append (λ y. x < y) xs [] h.0 tt, none xs h.1)

    by_test : (b : Bool) → AreRising (numbers_made makes T) → AreRising (numbers_made makes T ++ option_to_list (some_if b (suc (length T))))
    by_test true rest = rising-last (numbers_made makes T) (suc (length T)) (numbers-within makes T) rest
    by_test false rest = none (numbers_made makes T) rest

pub pending-rising : (T : RepliedHistory) (top : ℕ) → AreRising (pending T top)
unfolding pending
pending-rising T top = rising-filter (λ k. is_pending T k && is_prompt_of T top k) (numbers_made (λ s. makes_prompt s.item) T) (numbers-rising (λ s. makes_prompt s.item) T)

pub pending-within : (T : RepliedHistory) (top : ℕ) → Each (λ k. k ≤ length T) (pending T top)
unfolding pending
pending-within T top =
    each-filter (λ k. k ≤ length T) (λ k. is_pending T k && is_prompt_of T top k) (numbers_made (λ s. makes_prompt s.item) T)
    (each-weaker (λ k. k < suc (length T)) (λ k. k ≤ length T) (numbers_made (λ s. makes_prompt s.item) T) (λ k h. omega arith) (numbers-within (λ s. makes_prompt s.item) T))
