-- Expressions in places of numbers, where a place past the end has none.
use Rattle.std.proofs.Common.{◌≡◌, ℕ, zero, suc, ◌<◌, ◌≤◌, Bool, true, false, ◌==◌, cond, List, [], ◌∷◌, ◌++◌, length, set, refl, arith}
use Rattle.std.proofs.lemmas.Bool.Decides.{nat_tests}
use Rattle.std.proofs.lemmas.List.{get_or_past}
use Rattle.pe_allowlist.specs.declared.allowlist.Expression.{Expression}
use Rattle.pe_allowlist.specs.DeclaredLists.{expressions_at}

-- one more place without expressions
pub padded : (rows : List (List Expression)) (k : ℕ) → expressions_at (rows ++ [] ∷ []) k ≡ expressions_at rows k
padded [] zero = refl
padded [] (suc k) = refl
padded (x ∷ rows) zero = refl
padded (x ∷ rows) (suc k) = padded rows k

same-later : (n k : ℕ) → (suc n == suc k) ≡ (n == k)
same-later n k = grind (arith, nat_tests)

first-other : (k : ℕ) → (0 == suc k) ≡ false
first-other k = grind (arith, nat_tests)

later-other : (n : ℕ) → (suc n == 0) ≡ false
later-other n = grind (arith, nat_tests)

-- one more place with these expressions
pub pushed : (rows : List (List Expression)) (e : List Expression) (place k : ℕ) → length rows ≡ place
    → expressions_at (rows ++ e ∷ []) k ≡ cond (place == k) e (expressions_at rows k)
pushed rows e place k h = rw (← h) (at-end rows k)
  where
    at-end : (rows : List (List Expression)) (k : ℕ) → expressions_at (rows ++ e ∷ []) k ≡ cond (length rows == k) e (expressions_at rows k)
    at-end [] zero = refl
    at-end [] (suc k) = rw (first-other k) refl
    at-end (x ∷ rows) zero = rw (later-other (length rows)) refl
    at-end (x ∷ rows) (suc k) = rw (same-later (length rows) k) (at-end rows k)

-- other expressions in a place
pub placed : (rows : List (List Expression)) (e : List Expression) (place k : ℕ) → place < length rows
    → expressions_at (set rows place e) k ≡ cond (place == k) e (expressions_at rows k)
placed [] e place k h = absurd (omega arith)
placed (x ∷ rows) e zero zero h = refl
placed (x ∷ rows) e zero (suc k) h = rw (first-other k) refl
placed (x ∷ rows) e (suc place) zero h = rw (later-other place) refl
placed (x ∷ rows) e (suc place) (suc k) h = rw (same-later place k) (placed rows e place k (omega arith))

-- no expressions in a place past the end
pub left : (rows : List (List Expression)) (e : List Expression) (place k : ℕ) → length rows ≤ place → length e ≡ 0
    → expressions_at rows k ≡ cond (place == k) e (expressions_at rows k)
left rows (x ∷ e) place k h none = absurd (omega arith)
left rows [] place k h none = by_test (place == k) refl
  where
    by_test : (b : Bool) → (place == k) ≡ b → expressions_at rows k ≡ cond b [] (expressions_at rows k)
    by_test true t = get_or_past rows k [] (grind (arith, nat_tests))
    by_test false t = refl
