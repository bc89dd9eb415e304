-- How many statuses of a page a list has, with one more or one less.
use Rattle.std.proofs.Common.{◌≡◌, ℕ, ◌+◌, ◌≤◌, Bool, true, false, cond, not, List, [], ◌∷◌, ◌++◌, length, Some, refl, ap, ◌∙◌, arith}
use Rattle.std.specs.Prelude.{◌==◌, filter}
use Rattle.std.proofs.lemmas.Bool.Decides.{Decides-eqb}
use Rattle.pe_status.specs.declared.registered.Registered.{Registered}
use Rattle.pe_status.specs.Registry.{status_of, count_of_page, without, AreAbove, AreRising}
use Rattle.pe_status.proofs.Listed.{nos, later-test}

pub count-push : (page : ℕ) (r : Registered) (xs : List Registered) → count_of_page page (xs ++ r ∷ []) ≡ cond (r.page == page) (count_of_page page xs + 1) (count_of_page page xs)
unfolding count_of_page
count-push page r [] = by_test (r.page == page)
  where
    by_test : (b : Bool) → length (cond b (r ∷ []) []) ≡ cond b 1 0
    by_test true = refl
    by_test false = refl
count-push page r (x ∷ xs) = by_tests (x.page == page) (r.page == page) (count-push page r xs)
  where
    by_tests : (b c : Bool) → count_of_page page (xs ++ r ∷ []) ≡ cond c (count_of_page page xs + 1) (count_of_page page xs)
        → length (cond b (x ∷ filter (λ y. y.page == page) (xs ++ r ∷ [])) (filter (λ y. y.page == page) (xs ++ r ∷ [])))
        ≡ cond c (length (cond b (x ∷ filter (λ y. y.page == page) xs) (filter (λ y. y.page == page) xs)) + 1) (length (cond b (x ∷ filter (λ y. y.page == page) xs) (filter (λ y. y.page == page) xs)))
    by_tests true true h = omega (arith, h)
    by_tests true false h = omega (arith, h)
    by_tests false true h = h
    by_tests false false h = h

without-later : (m : ℕ) (xs : List Registered) (n : ℕ) → n ≤ m → AreAbove m (nos xs) → without n xs ≡ xs
unfolding without
without-later m [] n le above = refl
without-later m (x ∷ xs) n le above =
    ap (λ (b : Bool). cond (not b) (x ∷ without n xs) (without n xs)) (later-test x.no n (omega (arith, le, above.0)))
    ∙ ap (λ (ys : List Registered). x ∷ ys) (without-later m xs n le above.1)

-- a page has one less without one of its own
pub count-without : (page n : ℕ) (r : Registered) (xs : List Registered) → AreRising (nos xs) → status_of xs n ≡ Some r
    → count_of_page page xs ≡ cond (r.page == page) (count_of_page page (without n xs) + 1) (count_of_page page (without n xs))
unfolding count_of_page status_of without
count-without page n r [] rising h = absurd cc
count-without page n r (x ∷ xs) rising h = by_test (count-without page n r xs rising.1) (x.no == n) refl h
  where
    more : (b c : Bool) → count_of_page page xs ≡ cond c (count_of_page page (without n xs) + 1) (count_of_page page (without n xs))
        → length (cond b (x ∷ filter (λ y. y.page == page) xs) (filter (λ y. y.page == page) xs))
        ≡ cond c (length (cond b (x ∷ filter (λ y. y.page == page) (without n xs)) (filter (λ y. y.page == page) (without n xs))) + 1)
        (length (cond b (x ∷ filter (λ y. y.page == page) (without n xs)) (filter (λ y. y.page == page) (without n xs))))
    more true true e = omega (arith, e)
    more true false e = omega (arith, e)
    more false true e = e
    more false false e = e

    one : (b : Bool) → length (cond b (x ∷ filter (λ y. y.page == page) xs) (filter (λ y. y.page == page) xs)) ≡ cond b (count_of_page page xs + 1) (count_of_page page xs)
    one true = omega arith
    one false = refl

    by_test : (status_of xs n ≡ Some r → count_of_page page xs ≡ cond (r.page == page) (count_of_page page (without n xs) + 1) (count_of_page page (without n xs)))
        → (b : Bool) → (x.no == n) ≡ b → cond b (Some x) (status_of xs n) ≡ Some r
        → count_of_page page (x ∷ xs) ≡ cond (r.page == page) (count_of_page page (cond (not b) (x ∷ without n xs) (without n xs)) + 1) (count_of_page page (cond (not b) (x ∷ without n xs) (without n xs)))
    by_test rest true e k =
        let is = (Decides-eqb x.no n).0 e in
        let same : x ≡ r = cc in
        let later = without-later x.no xs n (omega (arith, is)) rising.0 in
        rw (← same, later) (one (x.page == page))
    by_test rest false e k = more (x.page == page) (r.page == page) (rest k)
