-- Lists of which each element has a property, and filtered lists.
use Rattle.std.proofs.Common.{◌≡◌, ℕ, suc, Bool, true, false, not, ◌||◌, ◌==◌, List, [], ◌∷◌, ◌++◌, length, map, filter, refl, ap, arith, cond}
use Rattle.std.proofs.lemmas.Bool.Decides.{nat_tests}
use Rattle.pe_laws.specs.StatusesLaws.{Each}

pub each-weaker : {A : Type 0} (P Q : A → Type 0) (xs : List A) → ((x : A) → P x → Q x) → Each P xs → Each Q xs
each-weaker P Q [] f h = tt
each-weaker P Q (x ∷ xs) f h = (f x h.0, each-weaker P Q xs f h.1)

pub each-both : {A : Type 0} (P Q : A → Type 0) (xs : List A) → Each P xs → Each Q xs → Each (λ x. P x × Q x) xs
each-both P Q [] h k = tt
each-both P Q (x ∷ xs) h k = ((h.0, k.0), each-both P Q xs h.1 k.1)

pub each-filter : {A : Type 0} (P : A → Type 0) (test : A → Bool) (xs : List A) → Each P xs → Each P (filter test xs)
each-filter P test [] h = tt
each-filter P test (x ∷ xs) h = by_test (test x) (each-filter P test xs h.1)
  where
    by_test : (b : Bool) → Each P (filter test xs) → Each P (cond b (x ∷ filter test xs) (filter test xs))
    by_test true rest = (h.0, rest)
    by_test false rest = rest

pub each-passes : {A : Type 0} (test : A → Bool) (xs : List A) → Each (λ x. test x ≡ true) (filter test xs)
each-passes test [] = tt
each-passes test (x ∷ xs) = by_test (test x) refl (each-passes test xs)
  where
    by_test : (b : Bool) → test x ≡ b → Each (λ x. test x ≡ true) (filter test xs) → Each (λ x. test x ≡ true) (cond b (x ∷ filter test xs) (filter test xs))
    by_test true is rest = (is, rest)
    by_test false is rest = rest

pub each-append : {A : Type 0} (P : A → Type 0) (xs ys : List A) → Each P xs → Each P ys → Each P (xs ++ ys)
each-append P [] ys h k = k
each-append P (x ∷ xs) ys h k = (h.0, each-append P xs ys h.1 k)

pub each-unmap : {A B : Type 0} (P : B → Type 0) (f : A → B) (xs : List A) → Each P (map f xs) → Each (λ x. P (f x)) xs
each-unmap P f [] h = tt
each-unmap P f (x ∷ xs) h = (h.0, each-unmap P f xs h.1)

pub length-map : {A B : Type 0} (f : A → B) (xs : List A) → length (map f xs) ≡ length xs
length-map f [] = refl
length-map f (x ∷ xs) = ap suc (length-map f xs)

pub append-none : {A : Type 0} (xs : List A) → xs ++ [] ≡ xs
append-none [] = refl
append-none (x ∷ xs) = ap (λ ys. x ∷ ys) (append-none xs)

-- two tests that agree on the elements leave the same
pub filter-agree : {A : Type 0} (p q : A → Bool) (xs : List A) → Each (λ x. p x ≡ q x) xs → filter p xs ≡ filter q xs
filter-agree p q [] h = refl
filter-agree p q (x ∷ xs) h = rw (h.0, filter-agree p q xs h.1) refl

pub filter-all : {A : Type 0} (test : A → Bool) (xs : List A) → Each (λ x. test x ≡ true) xs → filter test xs ≡ xs
filter-all test [] h = refl
filter-all test (x ∷ xs) h = rw (h.0, filter-all test xs h.1) refl

-- what is neither one nor the other is left by both
pub filter-neither : {A : Type 0} (p q : A → Bool) (xs : List A) → filter (λ x. not (p x || q x)) xs ≡ filter (λ x. not (q x)) (filter (λ x. not (p x)) xs)
filter-neither p q [] = refl
filter-neither p q (x ∷ xs) = by_test (p x) (filter-neither p q xs)
  where
    by_test : (b : Bool) → filter (λ x. not (p x || q x)) xs ≡ filter (λ x. not (q x)) (filter (λ x. not (p x)) xs)
        → cond (not (b || q x)) (x ∷ filter (λ x. not (p x || q x)) xs) (filter (λ x. not (p x || q x)) xs)
        ≡ filter (λ x. not (q x)) (cond (not b) (x ∷ filter (λ x. not (p x)) xs) (filter (λ x. not (p x)) xs))
    by_test true rest = rest
    by_test false rest = ap (λ ys. cond (not (q x)) (x ∷ ys) ys) rest

-- a test of what an element becomes
pub map-filter : {A B : Type 0} (f : A → B) (test : B → Bool) (xs : List A) → map f (filter (λ x. test (f x)) xs) ≡ filter test (map f xs)
map-filter f test [] = refl
map-filter f test (x ∷ xs) = by_test (test (f x)) (map-filter f test xs)
  where
    by_test : (b : Bool) → map f (filter (λ x. test (f x)) xs) ≡ filter test (map f xs)
        → map f (cond b (x ∷ filter (λ x. test (f x)) xs) (filter (λ x. test (f x)) xs)) ≡ cond b (f x ∷ filter test (map f xs)) (filter test (map f xs))
    by_test true rest = ap (λ ys. f x ∷ ys) rest
    by_test false rest = rest

-- ---- tests of numbers

pub same-numbers : (a b : ℕ) → (a == b) ≡ true → a ≡ b
same-numbers a b h = grind (arith, nat_tests)

pub is-same : (a : ℕ) → (a == a) ≡ true
is-same a = grind (arith, nat_tests)

pub not-same : (a b : ℕ) → (a ≡ b → ⊥) → (a == b) ≡ false
not-same a b h = grind (arith, nat_tests)

pub swapped : (a b : ℕ) → (a == b) ≡ (b == a)
swapped a b = by_test (a == b) refl (b == a) refl
  where
    by_test : (c : Bool) → (a == b) ≡ c → (d : Bool) → (b == a) ≡ d → c ≡ d
    by_test true is true also = refl
    by_test false is false also = refl
    by_test true is false also = grind (arith, nat_tests)
    by_test false is true also = grind (arith, nat_tests)
