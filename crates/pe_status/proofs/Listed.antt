-- Lists of statuses whose numbers rise, by the status that each number has.
use Rattle.std.proofs.Common.{◌≡◌, ℕ, ◌<◌, ◌≤◌, Bool, true, false, cond, List, [], ◌∷◌, ◌++◌, map, Option, Some, None, refl, sym, ap, ◌∙◌, arith}
use Rattle.std.specs.Prelude.{◌==◌, filter}
use Rattle.std.proofs.lemmas.Bool.Decides.{nat_tests, Decides-eqb}
use Rattle.pe_status.specs.declared.registered.Registered.{Registered}
use Rattle.pe_status.specs.Registry.{status_of, AreBelow, AreAbove, AreRising}

-- the numbers of the statuses
abbrev pub nos : List Registered → List ℕ
nos rs = map (λ r. r.no) rs

-- a status that passes
abbrev pub kept : (Registered → Bool) → Option Registered → Option Registered
kept test None = None
kept test (Some r) = cond (test r) (Some r) None

pub self-test : (a : ℕ) → (a == a) ≡ true
self-test a = (Decides-eqb a a).1 refl

pub later-test : (a n : ℕ) → n < a → (a == n) ≡ false
later-test a n h = grind (arith, nat_tests)

pub found-above : (n m : ℕ) (xs : List Registered) → n ≤ m → AreAbove m (nos xs) → status_of xs n ≡ None
unfolding status_of
found-above n m [] le above = refl
found-above n m (x ∷ xs) le above =
    ap (λ (b : Bool). cond b (Some x) (status_of xs n)) (later-test x.no n (omega (arith, le, above.0))) ∙ found-above n m xs le above.1

pub found-no : (xs : List Registered) (n : ℕ) (r : Registered) → status_of xs n ≡ Some r → r.no ≡ n
unfolding status_of
found-no [] n r h = absurd cc
found-no (x ∷ xs) n r h = by_test (found-no xs n r) (x.no == n) refl h
  where
    by_test : (status_of xs n ≡ Some r → r.no ≡ n) → (b : Bool) → (x.no == n) ≡ b → cond b (Some x) (status_of xs n) ≡ Some r → r.no ≡ n
    by_test rest true e k = let is = (Decides-eqb x.no n).0 e in cc
    by_test rest false e k = rest k

pub found-later : (m n : ℕ) (xs : List Registered) (r : Registered) → AreAbove m (nos xs) → status_of xs n ≡ Some r → m < n
unfolding status_of
found-later m n [] r above h = absurd cc
found-later m n (x ∷ xs) r above h = by_test (found-later m n xs r above.1) (x.no == n) refl h
  where
    by_test : (status_of xs n ≡ Some r → m < n) → (b : Bool) → (x.no == n) ≡ b → cond b (Some x) (status_of xs n) ≡ Some r → m < n
    by_test rest true e k = let is = (Decides-eqb x.no n).0 e in omega (arith, is, above.0)
    by_test rest false e k = rest k

first-found : (x : Registered) (xs : List Registered) → status_of (x ∷ xs) x.no ≡ Some x
unfolding status_of
first-found x xs = ap (λ (b : Bool). cond b (Some x) (status_of xs x.no)) (self-test x.no)

-- two lists begin with one status
heads : (x y : Registered) (xs ys : List Registered) → AreAbove x.no (nos xs) → AreAbove y.no (nos ys)
    → status_of (x ∷ xs) x.no ≡ status_of (y ∷ ys) x.no → status_of (x ∷ xs) y.no ≡ status_of (y ∷ ys) y.no → x ≡ y
unfolding status_of
heads x y xs ys a b hx hy = by_tests (y.no == x.no) (x.no == y.no) (sym (first-found x xs) ∙ hx) (hy ∙ first-found y ys)
  where
    by_tests : (s t : Bool) → Some x ≡ cond s (Some y) (status_of ys x.no) → cond t (Some x) (status_of xs y.no) ≡ Some y → x ≡ y
    by_tests true t h k = cc
    by_tests false true h k = cc
    by_tests false false h k =
        let left = found-later y.no x.no ys x b (sym h) in
        let right = found-later x.no y.no xs y a k in
        absurd (omega (arith, left, right))

-- the statuses behind the first are found alike
tails : (x y : Registered) (xs ys : List Registered) (n : ℕ) → x ≡ y → AreAbove x.no (nos xs) → AreAbove y.no (nos ys)
    → status_of (x ∷ xs) n ≡ status_of (y ∷ ys) n → status_of xs n ≡ status_of ys n
unfolding status_of
tails x y xs ys n is a b h = by_test (x.no == n) refl (ap (λ (r : Registered). r.no == n) (sym is)) h
  where
    by_test : (t : Bool) → (x.no == n) ≡ t → (y.no == n) ≡ (x.no == n)
        → cond (x.no == n) (Some x) (status_of xs n) ≡ cond (y.no == n) (Some y) (status_of ys n) → status_of xs n ≡ status_of ys n
    by_test true e f k =
        let here = (Decides-eqb x.no n).0 e in
        let there = (Decides-eqb y.no n).0 (f ∙ e) in
        found-above n x.no xs (omega (arith, here)) a ∙ sym (found-above n y.no ys (omega (arith, there)) b)
    by_test false e f k =
        sym (ap (λ (c : Bool). cond c (Some x) (status_of xs n)) e) ∙ k ∙ ap (λ (c : Bool). cond c (Some y) (status_of ys n)) (f ∙ e)

nothing : (n : ℕ) (r : Registered) → status_of [] n ≡ Some r → ⊥
unfolding status_of
nothing n r h = absurd cc

-- lists that have the same status under each number are one
pub same-statuses : (xs ys : List Registered) → AreRising (nos xs) → AreRising (nos ys) → ((n : ℕ) → status_of xs n ≡ status_of ys n) → xs ≡ ys
same-statuses [] [] a b h = refl
same-statuses [] (y ∷ ys) a b h = absurd (nothing y.no y (h y.no ∙ first-found y ys))
same-statuses (x ∷ xs) [] a b h = absurd (nothing x.no x (sym (h x.no) ∙ first-found x xs))
same-statuses (x ∷ xs) (y ∷ ys) a b h =
    let first = heads x y xs ys a.0 b.0 (h x.no) (h y.no) in
    let rest = same-statuses xs ys a.1 b.1 (λ n. tails x y xs ys n first a.0 b.0 (h n)) in
    cc

pub above-filter : (test : Registered → Bool) (m : ℕ) (xs : List Registered) → AreAbove m (nos xs) → AreAbove m (nos (filter test xs))
above-filter test m [] a = tt
above-filter test m (x ∷ xs) a =
    let rest = above-filter test m xs a.1 in
    elim (test x) as (λ b. AreAbove m (nos (cond b (x ∷ filter test xs) (filter test xs)))) [ true ↦ (a.0, rest) | false ↦ rest ]

pub rising-filter : (test : Registered → Bool) (xs : List Registered) → AreRising (nos xs) → AreRising (nos (filter test xs))
rising-filter test [] a = tt
rising-filter test (x ∷ xs) a =
    let rest = rising-filter test xs a.1 in
    let above = above-filter test x.no xs a.0 in
    elim (test x) as (λ b. AreRising (nos (cond b (x ∷ filter test xs) (filter test xs)))) [ true ↦ (above, rest) | false ↦ rest ]

pub found-filter : (test : Registered → Bool) (xs : List Registered) (n : ℕ) → AreRising (nos xs) → status_of (filter test xs) n ≡ kept test (status_of xs n)
unfolding status_of
found-filter test [] n a = refl
found-filter test (x ∷ xs) n a = by_tests (found-filter test xs n a.1) (test x) refl (x.no == n) refl
  where
    by_tests : status_of (filter test xs) n ≡ kept test (status_of xs n) → (k : Bool) → test x ≡ k → (b : Bool) → (x.no == n) ≡ b → status_of (cond k (x ∷ filter test xs) (filter test xs)) n ≡ kept test (cond b (Some x) (status_of xs n))
    by_tests rest true p true e = ap (λ (c : Bool). cond c (Some x) (status_of (filter test xs) n)) e ∙ sym (ap (λ (c : Bool). cond c (Some x) None) p)
    by_tests rest true p false e = ap (λ (c : Bool). cond c (Some x) (status_of (filter test xs) n)) e ∙ rest
    by_tests rest false p true e =
        let is = (Decides-eqb x.no n).0 e in
        found-above n x.no (filter test xs) (omega (arith, is)) (above-filter test x.no xs a.0) ∙ sym (ap (λ (c : Bool). cond c (Some x) None) p)
    by_tests rest false p false e = rest

pub found-push : (r : Registered) (xs : List Registered) (n : ℕ) → AreBelow r.no (nos xs) → status_of (xs ++ r ∷ []) n ≡ cond (r.no == n) (Some r) (status_of xs n)
unfolding status_of
found-push r [] n below = refl
found-push r (x ∷ xs) n below = ap (cond (x.no == n) (Some x)) (found-push r xs n below.1) ∙ by_tests (x.no == n) refl (r.no == n) refl
  where
    by_tests : (b : Bool) → (x.no == n) ≡ b → (c : Bool) → (r.no == n) ≡ c → cond b (Some x) (cond c (Some r) (status_of xs n)) ≡ cond c (Some r) (cond b (Some x) (status_of xs n))
    by_tests true e true f =
        let here = (Decides-eqb x.no n).0 e in
        let there = (Decides-eqb r.no n).0 f in
        absurd (omega (arith, here, there, below.0))
    by_tests true e false f = refl
    by_tests false e true f = refl
    by_tests false e false f = refl
