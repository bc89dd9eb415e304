-- The numbers that were given: that they rise, and what a search by halves among them finds.
use Rattle.std.proofs.Common.{◌≡◌, ℕ, ◌<◌, ◌≤◌, Bool, true, false, ◌||◌, List, [], ◌∷◌, ◌++◌, length, get_or, Result, Ok, Err, Some, nat_eq, refl, sym, ap, ◌∙◌, arith, inl, inr}
use Rattle.std.specs.Result.{is_ok}
use Rattle.std.specs.List.{AllByRecursion, list_any}
use Rattle.std.specs.List.Sorted.{IsStrictlySortedBy, IsBinarySearchResult}
use Rattle.std.specs.Ordering.{nat_cmp}
use Rattle.std.specs.declared.cmp.Ordering.TheVariants.{Less}
use Rattle.std.proofs.lemmas.Bool.{cases_lt}
use Rattle.std.proofs.lemmas.Bool.Decides.{nat_tests}
use Rattle.std.proofs.lemmas.List.{get_or_default}
use Rattle.std.proofs.lemmas.List.Folds.{list_any_at, list_any_none, list_any-append}
use Rattle.std.proofs.lemmas.List.Sorted.{searched}
use Rattle.std.proofs.lemmas.Map.Keys.{non_decreasing_from_sorted}
use Rattle.pe_delegation.specs.Posted.{was_given}
use Rattle.pe_delegation.specs.Kept.{IsRising, IsPlaceOf}

same-number : (a b : ℕ) → a ≡ b → nat_eq b a ≡ true
same-number a b h = grind (arith, nat_tests)

below-other : (a n : ℕ) → a < n → nat_eq n a ≡ false
below-other a n h = grind (arith, nat_tests)

above-other : (a n : ℕ) → n < a → nat_eq n a ≡ false
above-other a n h = grind (arith, nat_tests)

-- a search by halves finds the numbers that were given
pub searched-given : (ns : List ℕ) (n : ℕ) (r : Result ℕ ℕ) → IsBinarySearchResult (λ y. nat_cmp y n) ns r → IsRising ns → is_ok r ≡ was_given ns n
unfolding was_given
searched-given ns n (Ok i) h rising =
    let found = searched ns n (Ok i) h (λ a b. non_decreasing_from_sorted ns rising a b 0) in
    sym (list_any_at (nat_eq n) ns i 0 found.0 (same-number (get_or ns i 0) n found.1))
searched-given ns n (Err i) h rising =
    let parts = searched ns n (Err i) h (λ a b. non_decreasing_from_sorted ns rising a b 0) in
    sym (list_any_none (nat_eq n) ns (λ k d lt. ap (nat_eq n) (get_or_default ns k d 0 lt) ∙ other k lt parts.1 parts.2))
  where
    other : (k : ℕ) → k < length ns → ((j : ℕ) → j < i → get_or ns j 0 < n) → ((j : ℕ) → i ≤ j → j < length ns → n < get_or ns j 0) → nat_eq n (get_or ns k 0) ≡ false
    other k lt below above = elim (cases_lt k i) as (λ _. nat_eq n (get_or ns k 0) ≡ false) [
      | inl e ↦ below-other (get_or ns k 0) n (below k e)
      | inr e ↦ above-other (get_or ns k 0) n (above k e lt)
    ]

-- the number at a place was given
pub given-at : (ns : List ℕ) (n place : ℕ) → IsPlaceOf ns n (Some place) → was_given ns n ≡ true
unfolding was_given
given-at ns n place at = list_any_at (nat_eq n) ns place 0 at.0 (same-number (get_or ns place 0) n at.1)

-- which numbers are given with one more
pub given-with : (ns : List ℕ) (n k : ℕ) → was_given (ns ++ n ∷ []) k ≡ (nat_eq n k || was_given ns k)
unfolding was_given
given-with ns n k = list_any-append (nat_eq k) ns (n ∷ []) ∙ turned (list_any (nat_eq k) ns) (nat_eq k n) (nat_eq n k) (either k n)
  where
    either : (a b : ℕ) → nat_eq a b ≡ nat_eq b a
    either a b = grind (arith, nat_tests)

    turned : (b c d : Bool) → c ≡ d → (b || (c || false)) ≡ (d || b)
    turned true true d h = ap (λ (x : Bool). x || true) h
    turned true false d h = ap (λ (x : Bool). x || true) h
    turned false true d h = ap (λ (x : Bool). x || false) h
    turned false false d h = ap (λ (x : Bool). x || false) h

-- the numbers rise with one more that is above each
pub rising-push : (ns : List ℕ) (n : ℕ) → IsRising ns → ((k : ℕ) → was_given ns k ≡ true → k < n) → IsRising (ns ++ n ∷ [])
unfolding was_given IsStrictlySortedBy
rising-push [] n rising below = (tt, tt)
rising-push (x ∷ ns) n rising below =
    (above ns rising.0 (below x (ap (λ (b : Bool). b || was_given ns x) (same-number x x refl))), rising-push ns n rising.1 (λ k given. below k (or-true (nat_eq k x) (was_given ns k) given)))
  where
    less : (a b : ℕ) → a < b → nat_cmp a b ≡ Less
    less a b lt = grind (arith, nat_tests)

    above : (ms : List ℕ) → AllByRecursion (λ y. nat_cmp x y ≡ Less) ms → x < n → AllByRecursion (λ y. nat_cmp x y ≡ Less) (ms ++ n ∷ [])
    above [] a lt = (less x n lt, tt)
    above (m ∷ ms) a lt = (a.0, above ms a.1 lt)

    or-true : (b c : Bool) → c ≡ true → b || c ≡ true
    or-true true c h = refl
    or-true false c h = h
