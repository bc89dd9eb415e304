-- The statuses of a document end one after another.
use Rattle.std.proofs.Common.{◌≡◌, ℕ, suc, ◌<◌, ◌≤◌, Bool, true, false, cond, not, List, [], ◌∷◌, length, Some, None, sym, ap, ◌∙◌, arith, true≢false}
use Rattle.std.specs.Prelude.{◌==◌}
use Rattle.pe_status.specs.declared.registered.Registered.{Registered}
use Rattle.pe_status.specs.Registry.{status_of, without, without_document, IsInOrder}
use Rattle.pe_status.specs.Kept.{is_of_document, IsOneOf}
use Rattle.pe_status.proofs.Keeping.{document-step, document-done}

no-longer : (n : ℕ) (rs : List Registered) → length (without n rs) ≤ length rs
unfolding without
no-longer n [] = omega arith
no-longer n (x ∷ xs) = by_test (no-longer n xs) (x.no == n)
  where
    by_test : length (without n xs) ≤ length xs → (b : Bool) → length (cond (not b) (x ∷ without n xs) (without n xs)) ≤ suc (length xs)
    by_test rest true = omega (arith, rest)
    by_test rest false = omega (arith, rest)

pub shorter : (doc n : ℕ) (rs : List Registered) → is_of_document doc (status_of rs n) ≡ true → length (without n rs) < length rs
unfolding without status_of
shorter doc n [] h = absurd (true≢false (sym h))
shorter doc n (x ∷ xs) h = by_test (shorter doc n xs) (no-longer n xs) (x.no == n) h
  where
    by_test : (is_of_document doc (status_of xs n) ≡ true → length (without n xs) < length xs) → length (without n xs) ≤ length xs → (b : Bool)
        → is_of_document doc (cond b (Some x) (status_of xs n)) ≡ true → length (cond (not b) (x ∷ without n xs) (without n xs)) < suc (length xs)
    by_test rest most true e = omega (arith, most)
    by_test rest most false e = let less = rest e in omega (arith, less)

pub gone-step : (doc n : ℕ) (rs new : List Registered) → IsInOrder rs → is_of_document doc (status_of rs n) ≡ true → new ≡ without n rs → without_document doc new ≡ without_document doc rs
unfolding IsInOrder
gone-step doc n rs new rising own is = ap (without_document doc) is ∙ document-step doc n rs rising own

pub gone-done : (doc : ℕ) (rs : List Registered) → IsInOrder rs → IsOneOf rs doc None → rs ≡ without_document doc rs
unfolding IsInOrder
gone-done doc rs rising none = sym (document-done doc rs rising none)
