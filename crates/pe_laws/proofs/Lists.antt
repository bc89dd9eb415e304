-- Numbers in lists that are filtered.
use Rattle.std.proofs.Common.{◌≡◌, ◌≢◌, ℕ, suc, Bool, true, false, not, ◌&&◌, ◌||◌, ◌==◌, List, [], ◌∷◌, length, filter, map, Option, Some, None, option_map, option_and_then, refl, sym, ◌∙◌, ap, arith, cond}
use Rattle.std.specs.List.{list_any}
use Rattle.pe_rules.specs.Activation.{is_one_of}
use Rattle.pe_rules.specs.Prompts.{first_of}
use Rattle.pe_laws.proofs.Numbers.{not_same, same-numbers, is_same}

-- both are true
pub both : (a b : Bool) → (a && b) ≡ true → (a ≡ true) × (b ≡ true)
both true true h = (refl, refl)
both true false h = cc
both false b h = cc

pub or-true : (b : Bool) → (b || true) ≡ true
or-true true = refl
or-true false = refl

-- what holds after a is added to b is what held before, without a
pub left-by : (a b c : Bool) → (not (a || b) && c) ≡ ((not b && c) && not a)
left-by true true c = refl
left-by true false true = refl
left-by true false false = refl
left-by false true c = refl
left-by false false true = refl
left-by false false false = refl

-- a number of a filtered list passes the test, and is one of the list
pub of-filtered : (test : ℕ → Bool) (xs : List ℕ) (k : ℕ) → is_one_of (filter test xs) k ≡ true → (test k ≡ true) × (is_one_of xs k ≡ true)
of-filtered test [] k h = cc
of-filtered test (x ∷ xs) k h = by_test (test x) refl (of-filtered test xs k) h
  where
    by_head : test x ≡ true → (is_one_of (filter test xs) k ≡ true → (test k ≡ true) × (is_one_of xs k ≡ true)) → (b : Bool) → (x == k) ≡ b
        → (b || is_one_of (filter test xs) k) ≡ true → (test k ≡ true) × ((b || is_one_of xs k) ≡ true)
    by_head passes rest true is h = (ap test (sym (same-numbers x k is)) ∙ passes, refl)
    by_head passes rest false is h = rest h

    by_test : (b : Bool) → test x ≡ b → (is_one_of (filter test xs) k ≡ true → (test k ≡ true) × (is_one_of xs k ≡ true))
        → is_one_of (cond b (x ∷ filter test xs) (filter test xs)) k ≡ true → (test k ≡ true) × ((x == k || is_one_of xs k) ≡ true)
    by_test true passes rest h = by_head passes rest (x == k) refl h
    by_test false fails rest h = ((rest h).0, rw ((rest h).1) (or-true (x == k)))

-- and the other way round
pub into-filtered : (test : ℕ → Bool) (xs : List ℕ) (k : ℕ) → test k ≡ true → is_one_of xs k ≡ true → is_one_of (filter test xs) k ≡ true
into-filtered test [] k passes h = h
into-filtered test (x ∷ xs) k passes h = by_test (test x) refl (into-filtered test xs k passes) (x == k) refl h
  where
    by_test : (b : Bool) → test x ≡ b → (is_one_of xs k ≡ true → is_one_of (filter test xs) k ≡ true) → (c : Bool) → (x == k) ≡ c
        → (c || is_one_of xs k) ≡ true → is_one_of (cond b (x ∷ filter test xs) (filter test xs)) k ≡ true
    by_test true e rest true is h = rw is refl
    by_test true e rest false is h = rw is (rest h)
    by_test false e rest false is h = rest h
    by_test false e rest true is h = let no : test k ≡ false = ap test (sym (same-numbers x k is)) ∙ e in cc

-- something is left of a filtered list where some element passes
pub left-of-filtered : (test : ℕ → Bool) (xs : List ℕ) → not (length (filter test xs) == 0) ≡ list_any test xs
left-of-filtered test [] = refl
left-of-filtered test (x ∷ xs) = by_test (test x) (left-of-filtered test xs)
  where
    by_test : (b : Bool) → not (length (filter test xs) == 0) ≡ list_any test xs → not (length (cond b (x ∷ filter test xs) (filter test xs)) == 0) ≡ (b || list_any test xs)
    by_test true rest = let ne : suc (length (filter test xs)) ≢ 0 = omega arith in rw (not_same (suc (length (filter test xs))) 0 ne) refl
    by_test false rest = rest

-- the first of a list is one of it
pub first-is-one : (xs : List ℕ) (k : ℕ) → first_of xs ≡ Some k → is_one_of xs k ≡ true
first-is-one [] k h = cc
first-is-one (x ∷ xs) k h = let is : x ≡ k = cc in rw (is, is_same k) refl

-- a list without a first has none
pub none-without-first : (xs : List ℕ) (k : ℕ) → first_of xs ≡ None → is_one_of xs k ≡ false
none-without-first [] k h = refl
none-without-first (x ∷ xs) k h = cc

-- two questions that are one on what stands there have one answer
pub map-same : {A B : Type 0} (f g : A → B) (o : Option A) → ((x : A) → o ≡ Some x → f x ≡ g x) → option_map f o ≡ option_map g o
map-same f g None same = refl
map-same f g (Some x) same = ap Some (same x refl)

pub then-same : {A B : Type 0} (f g : A → Option B) (o : Option A) → ((x : A) → o ≡ Some x → f x ≡ g x) → option_and_then f o ≡ option_and_then g o
then-same f g None same = refl
then-same f g (Some x) same = same x refl

pub each-same : {A : Type 0} (f g : ℕ → A) (xs : List ℕ) → ((x : ℕ) → f x ≡ g x) → map f xs ≡ map g xs
each-same f g [] same = refl
each-same f g (x ∷ xs) same = rw (same x, each-same f g xs same) refl

-- the numbers of a filtered list are those of the list that pass
pub filtered-are : (test : ℕ → Bool) (xs : List ℕ) (k : ℕ) → is_one_of (filter test xs) k ≡ (is_one_of xs k && test k)
filtered-are test xs k = by_filtered (is_one_of (filter test xs) k) refl
  where
    by_one : (b : Bool) → is_one_of xs k ≡ b → (c : Bool) → test k ≡ c → is_one_of (filter test xs) k ≡ false → false ≡ (b && c)
    by_one true one true passes none = sym none ∙ into-filtered test xs k passes one
    by_one true one false passes none = refl
    by_one false one c passes none = refl

    by_filtered : (b : Bool) → is_one_of (filter test xs) k ≡ b → b ≡ (is_one_of xs k && test k)
    by_filtered true is = let w = of-filtered test xs k is in rw (w.0, w.1) refl
    by_filtered false is = by_one (is_one_of xs k) refl (test k) refl is
