-- Counts over lists that are gathered in another order, and lists of which each element has a property.
use Rattle.std.proofs.Common.{◌≡◌, ◌+◌, Bool, true, false, List, [], ◌∷◌, ◌++◌, map, filter, flat_map, refl, sym, ◌∙◌, ap, arith, cond}
use Rattle.std.specs.List.{sum_by}
use Rattle.std.specs.List.Sorted.{IsPermutation}
use Rattle.std.proofs.lemmas.List.Sorted.{sum_by-IsPermutation}
use Rattle.std.proofs.lemmas.List.Sums.{sum_by-cons}
use Rattle.pe_laws.specs.StatusesLaws.{Each}
use Rattle.pe_changes.specs.Bags.{count, IsSameBag}

pub count-append : {A : Type 0} (test : A → Bool) (xs ys : List A) → count test (xs ++ ys) ≡ count test xs + count test ys
count-append test [] ys = omega arith
count-append test (x ∷ xs) ys = omega (arith, count-append test xs ys)

count-sum : {A : Type 0} (test : A → Bool) (xs : List A) → sum_by (λ x. cond (test x) 1 0) xs ≡ count test xs
count-sum test [] = refl
count-sum test (x ∷ xs) = sum_by-cons (λ x. cond (test x) 1 0) x xs ∙ ap (λ n. cond (test x) 1 0 + n) (count-sum test xs)

pub count-permutation : {A : Type 0} (xs ys : List A) → IsPermutation xs ys → IsSameBag ys xs
count-permutation xs ys h test = sym (count-sum test ys) ∙ sum_by-IsPermutation (λ x. cond (test x) 1 0) xs ys h ∙ count-sum test xs

-- the lists of the elements that pass come on top of what was gathered
pub count-split : {A C : Type 0} (test : C → Bool) (passes : A → Bool) (f g h : A → List C)
    → ((x : A) → passes x ≡ true → f x ≡ []) → ((x : A) → passes x ≡ true → h x ≡ g x) → ((x : A) → passes x ≡ false → h x ≡ f x)
    → (xs : List A) → count test (flat_map h xs) ≡ count test (flat_map f xs) + count test (flat_map g (filter passes xs))
count-split test passes f g h none new old [] = omega arith
count-split test passes f g h none new old (x ∷ xs) = by_test (passes x) refl (count-split test passes f g h none new old xs)
  where
    by_test : (b : Bool) → passes x ≡ b → count test (flat_map h xs) ≡ count test (flat_map f xs) + count test (flat_map g (filter passes xs))
        → count test (h x ++ flat_map h xs) ≡ count test (f x ++ flat_map f xs) + count test (flat_map g (cond b (x ∷ filter passes xs) (filter passes xs)))
    by_test true is rest =
        rw (none x is, new x is)
        (omega (arith, rest, count-append test (g x) (flat_map h xs), count-append test (g x) (flat_map g (filter passes xs))))
    by_test false is rest =
        rw (old x is)
        (omega (arith, rest, count-append test (f x) (flat_map h xs), count-append test (f x) (flat_map f xs)))

pub flat-none : {A C : Type 0} (f : A → List C) → ((x : A) → f x ≡ []) → (xs : List A) → flat_map f xs ≡ []
flat-none f none [] = refl
flat-none f none (x ∷ xs) = rw (none x) (flat-none f none xs)

count-both : {A C : Type 0} (test : C → Bool) (f g : A → List C) (xs : List A)
    → count test (flat_map (λ x. f x ++ g x) xs) ≡ count test (flat_map f xs) + count test (flat_map g xs)
count-both test f g [] = omega arith
count-both test f g (x ∷ xs) =
    omega (
      arith,
      count-both test f g xs,
      count-append test (f x ++ g x) (flat_map (λ x. f x ++ g x) xs),
      count-append test (f x) (g x),
      count-append test (f x) (flat_map f xs),
      count-append test (g x) (flat_map g xs),
    )

-- it does not matter which of two lists is walked outside
pub count-exchange : {A B C : Type 0} (test : C → Bool) (F : A → B → List C) (xs : List A) (ys : List B)
    → count test (flat_map (λ x. flat_map (F x) ys) xs) ≡ count test (flat_map (λ y. flat_map (λ x. F x y) xs) ys)
count-exchange test F [] ys = ap (count test) (sym (flat-none (λ y. flat_map (λ x. F x y) []) (λ y. refl) ys))
count-exchange test F (x ∷ xs) ys =
    omega (
      arith,
      count-exchange test F xs ys,
      count-append test (flat_map (F x) ys) (flat_map (λ x. flat_map (F x) ys) xs),
      count-both test (F x) (λ y. flat_map (λ x. F x y) xs) ys,
    )

pub flat-same : {A C : Type 0} (f g : A → List C) (xs : List A) → Each (λ x. f x ≡ g x) xs → flat_map f xs ≡ flat_map g xs
flat-same f g [] h = refl
flat-same f g (x ∷ xs) h = rw (h.0, flat-same f g xs h.1) refl

-- what gives nothing may be left out
pub flat-filter : {A C : Type 0} (f : A → List C) (passes : A → Bool) (xs : List A) → Each (λ x. passes x ≡ false → f x ≡ []) xs
    → flat_map f (filter passes xs) ≡ flat_map f xs
flat-filter f passes [] h = refl
flat-filter f passes (x ∷ xs) h = by_test (passes x) refl (flat-filter f passes xs h.1)
  where
    by_test : (b : Bool) → passes x ≡ b → flat_map f (filter passes xs) ≡ flat_map f xs
        → flat_map f (cond b (x ∷ filter passes xs) (filter passes xs)) ≡ f x ++ flat_map f xs
    by_test true is rest = ap (λ r. f x ++ r) rest
    by_test false is rest = rw (h.0 is) rest

pub each-map : {A B : Type 0} (P : B → Type 0) (f : A → B) (xs : List A) → Each (λ x. P (f x)) xs → Each P (map f xs)
each-map P f [] h = tt
each-map P f (x ∷ xs) h = (h.0, each-map P f xs h.1)

pub each-unmap : {A B : Type 0} (P : B → Type 0) (f : A → B) (xs : List A) → Each P (map f xs) → Each (λ x. P (f x)) xs
each-unmap P f [] h = tt
each-unmap P f (x ∷ xs) h = (h.0, each-unmap P f xs h.1)

pub each-weaker : {A : Type 0} (P Q : A → Type 0) (xs : List A) → ((x : A) → P x → Q x) → Each P xs → Each Q xs
each-weaker P Q [] f h = tt
each-weaker P Q (x ∷ xs) f h = (f x h.0, each-weaker P Q xs f h.1)

pub each-all : {A : Type 0} (P : A → Type 0) (xs : List A) → ((x : A) → P x) → Each P xs
each-all P [] f = tt
each-all P (x ∷ xs) f = (f x, each-all P xs f)

pub each-both : {A : Type 0} (P Q : A → Type 0) (xs : List A) → Each P xs → Each Q xs → Each (λ x. P x × Q x) xs
each-both P Q [] h k = tt
each-both P Q (x ∷ xs) h k = ((h.0, k.0), each-both P Q xs h.1 k.1)

pub each-filter : {A : Type 0} (P : A → Type 0) (test : A → Bool) (xs : List A) → Each P xs → Each P (filter test xs)
each-filter P test [] h = tt
each-filter P test (x ∷ xs) h = by_test (test x) (each-filter P test xs h.1)
  where
    by_test : (b : Bool) → Each P (filter test xs) → Each P (cond b (x ∷ filter test xs) (filter test xs))
    by_test true rest = (h.0, rest)
    by_test false rest = rest

pub each-append : {A : Type 0} (P : A → Type 0) (xs ys : List A) → Each P xs → Each P ys → Each P (xs ++ ys)
each-append P [] ys h k = k
each-append P (x ∷ xs) ys h k = (h.0, each-append P xs ys h.1 k)
