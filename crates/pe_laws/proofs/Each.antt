-- Lists of which each element has a property, and what is left of them by tests.
use Rattle.std.proofs.Common.{◌≡◌, Bool, true, false, ◌&&◌, List, [], ◌∷◌, ◌++◌, filter, Option, Some, None, option_to_list, refl, ap, cond}
use Rattle.pe_laws.specs.StatusesLaws.{Each}

pub each-weaker : {A : Type 0} (P Q : A → Type 0) (xs : List A) → ((x : A) → P x → Q x) → Each P xs → Each Q xs
each-weaker P Q [] f h = tt
each-weaker P Q (x ∷ xs) f h = (f x h.0, each-weaker P Q xs f h.1)

pub each-filter : {A : Type 0} (P : A → Type 0) (test : A → Bool) (xs : List A) → Each P xs → Each P (filter test xs)
each-filter P test [] h = tt
each-filter P test (x ∷ xs) h = by_test (test x) (each-filter P test xs h.1)
  where
    by_test : (b : Bool) → Each P (filter test xs) → Each P (cond b (x ∷ filter test xs) (filter test xs))
    by_test true rest = (h.0, rest)
    by_test false rest = rest

pub each-append : {A : Type 0} (P : A → Type 0) (xs ys : List A) → Each P xs → Each P ys → Each P (xs ++ ys)
each-append P [] ys h k = k
each-append P (x ∷ xs) ys h k = (h.0, each-append P xs ys h.1 k)

pub each-option : {A : Type 0} (P : A → Type 0) (o : Option A) → ((x : A) → o ≡ Some x → P x) → Each P (option_to_list o)
each-option P None h = tt
each-option P (Some x) h = (h x refl, tt)

pub filter-agree : {A : Type 0} (P : A → Type 0) (p q : A → Bool) (xs : List A) → ((x : A) → P x → p x ≡ q x) → Each P xs → filter p xs ≡ filter q xs
filter-agree P p q [] same h = refl
filter-agree P p q (x ∷ xs) same h = rw (same x h.0, filter-agree P p q xs same h.1) refl

pub filter-all : {A : Type 0} (test : A → Bool) (xs : List A) → ((x : A) → test x ≡ true) → filter test xs ≡ xs
filter-all test [] all = refl
filter-all test (x ∷ xs) all = rw (all x, filter-all test xs all) refl

pub filter-twice : {A : Type 0} (P : A → Type 0) (p q r : A → Bool) (xs : List A) → ((x : A) → P x → p x ≡ (q x && r x)) → Each P xs → filter p xs ≡ filter r (filter q xs)
filter-twice P p q r [] same h = refl
filter-twice P p q r (x ∷ xs) same h = by_test (q x) (same x h.0) (filter-twice P p q r xs same h.1)
  where
    by_test : (b : Bool) → p x ≡ (b && r x) → filter p xs ≡ filter r (filter q xs) → cond (p x) (x ∷ filter p xs) (filter p xs) ≡ filter r (cond b (x ∷ filter q xs) (filter q xs))
    by_test true is rest = rw (is, rest) refl
    by_test false is rest = rw is rest

pub append-none : {A : Type 0} (xs : List A) → xs ++ [] ≡ xs
append-none [] = refl
append-none (x ∷ xs) = ap (λ ys. x ∷ ys) (append-none xs)

pub each-passes : {A : Type 0} (P : A → Type 0) (test : A → Bool) (xs : List A) → Each P xs → Each (λ x. P x × (test x ≡ true)) (filter test xs)
each-passes P test [] h = tt
each-passes P test (x ∷ xs) h = by_test (test x) refl (each-passes P test xs h.1)
  where
    by_test : (b : Bool) → test x ≡ b → Each (λ x. P x × (test x ≡ true)) (filter test xs) → Each (λ x. P x × (test x ≡ true)) (cond b (x ∷ filter test xs) (filter test xs))
    by_test true is rest = ((h.0, is), rest)
    by_test false is rest = rest
