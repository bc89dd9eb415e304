-- Of the lists with the same elements one alone is in order.
use Rattle.std.proofs.Common.{◌≡◌, ℕ, zero, suc, ◌+◌, ◌<◌, ◌≤◌, Bool, true, false, List, [], ◌∷◌, ◌++◌, length, get_or, filter, flat_map, refl, sym, ◌∙◌, ap, arith, cond, true≢false}
use Rattle.std.specs.Bool.{Decides}
use Rattle.std.specs.Cmp.{IsStrictWeakOrder}
use Rattle.std.specs.List.Sorted.{IsSortedBy}
use Rattle.std.proofs.lemmas.List.Sorted.{sorted_far}
use Rattle.pe_laws.specs.StatusesLaws.{Each}
use Rattle.pe_changes.specs.Bags.{count, IsSameBag}
use Rattle.pe_changes.proofs.Counts.{each-weaker, each-append, each-filter}

-- each element comes before those behind it
abbrev pub IsStrict : {A : Type 0} → (A → A → Bool) → List A → Type 0
IsStrict less [] = Unit {0}
IsStrict less (x ∷ xs) = Each (λ y. less x y ≡ true) xs × IsStrict less xs

-- no element comes before one that stands before it
abbrev pub IsWeak : {A : Type 0} → (A → A → Bool) → List A → Type 0
IsWeak less [] = Unit {0}
IsWeak less (x ∷ xs) = Each (λ y. less y x ≡ false) xs × IsWeak less xs

module _ {A : Type 0} (same : A → A → Bool) (decides : (a b : A) → Decides (same a b) (a ≡ b)) where
  pub each-at : (P : A → Type 0) (xs : List A) (y : A) → Each P xs → 0 < count (same y) xs → P y
  each-at P [] y h lt = absurd (omega arith)
  each-at P (x ∷ xs) y h lt = by_same (each-at P xs y h.1) (same y x) refl lt
    where
      by_same : (0 < count (same y) xs → P y) → (b : Bool) → same y x ≡ b → 0 < cond b 1 0 + count (same y) xs → P y
      by_same rest true is lt = let e : y ≡ x = (decides y x).0 is in rw e h.0
      by_same rest false is lt = rest (omega arith)

  own : (x : A) (xs : List A) → 0 < count (same x) (x ∷ xs)
  own x xs = let is : same x x ≡ true = (decides x x).1 refl in rw is (omega arith)

  other : (x y : A) (ys : List A) → same x y ≡ false → 0 < count (same x) (y ∷ ys) → 0 < count (same x) ys
  other x y ys fails lt = by_same (same x y) fails lt
    where
      by_same : (b : Bool) → b ≡ false → 0 < cond b 1 0 + count (same x) ys → 0 < count (same x) ys
      by_same false fails lt = omega arith
      by_same true fails lt = absurd (true≢false fails)

  rest-bag : (x y : A) (xs ys : List A) → x ≡ y → IsSameBag (x ∷ xs) (y ∷ ys) → IsSameBag xs ys
  rest-bag x y xs ys e bag test =
      let k : cond (test x) 1 0 + count test xs ≡ cond (test x) 1 0 + count test ys = bag test ∙ ap (λ z. cond (test z) 1 0 + count test ys) (sym e) in
      omega arith

  pub ordered-is : (less : A → A → Bool) (xs ys : List A) → IsStrict less xs → IsWeak less ys → IsSameBag xs ys → xs ≡ ys
  ordered-is less [] [] s w bag = refl
  ordered-is less [] (y ∷ ys) s w bag = let k : 0 ≡ 1 + count (λ _. true) ys = bag (λ _. true) in absurd (omega arith)
  ordered-is less (x ∷ xs) [] s w bag = let k : 1 + count (λ _. true) xs ≡ 0 = bag (λ _. true) in absurd (omega arith)
  ordered-is less (x ∷ xs) (y ∷ ys) s w bag = by_same (same x y) refl (ordered-is less xs ys s.1 w.1)
    where
      swapped : same x y ≡ false → same y x ≡ false
      swapped fails = by_other (same y x) refl
        where
          by_other : (b : Bool) → same y x ≡ b → same y x ≡ false
          by_other false is = is
          by_other true is = let e : y ≡ x = (decides y x).0 is in absurd (true≢false (sym ((decides x y).1 (sym e)) ∙ fails))

      by_same : (b : Bool) → same x y ≡ b → (IsSameBag xs ys → xs ≡ ys) → ◌≡◌ {A = List A} (x ∷ xs) (y ∷ ys)
      by_same true is rest =
          let e : x ≡ y = (decides x y).0 is in
          let t : xs ≡ ys = rest (rest-bag x y xs ys e bag) in
          cc
      by_same false is rest =
          let up : less x y ≡ true = each-at (λ z. less x z ≡ true) xs y s.0 (other y x xs (swapped is) (let k = bag (same y) in let o = own y ys in omega arith)) in
          let down : less x y ≡ false = each-at (λ z. less z y ≡ false) ys x w.0 (other x y ys is (let k = bag (same x) in let o = own x xs in omega arith)) in
          absurd (true≢false (sym up ∙ down))

-- ---- what a sort gives

each-by_place : {A : Type 0} (P : A → Type 0) (xs : List A) → ((k : ℕ) (d : A) → k < length xs → P (get_or xs k d)) → Each P xs
each-by_place P [] h = tt
each-by_place P (x ∷ xs) h = (h zero x (omega arith), each-by_place P xs (λ k d lt. h (suc k) d (omega arith)))

weak-far : {A : Type 0} (less : A → A → Bool) (xs : List A) → ((i j : ℕ) (d : A) → i ≤ j → j < length xs → less (get_or xs j d) (get_or xs i d) ≡ false) → IsWeak less xs
weak-far less [] far = tt
weak-far less (x ∷ xs) far = (
  each-by_place (λ y. less y x ≡ false) xs (λ k d lt. far zero (suc k) d (omega arith) (omega arith)),
  weak-far less xs (λ i j d le lt. far (suc i) (suc j) d (omega arith) (omega arith)),
)

pub weak-sorted : {A : Type 0} (less : A → A → Bool) → IsStrictWeakOrder less → (xs : List A) → IsSortedBy less xs → IsWeak less xs
weak-sorted less order xs sorted = weak-far less xs (sorted_far less order xs sorted)

-- ---- lists that rise

pub strict-append : {A : Type 0} (less : A → A → Bool) (xs ys : List A) → IsStrict less xs → IsStrict less ys → Each (λ x. Each (λ y. less x y ≡ true) ys) xs → IsStrict less (xs ++ ys)
strict-append less [] ys h k both = k
strict-append less (x ∷ xs) ys h k both = (each-append (λ y. less x y ≡ true) xs ys h.0 both.0, strict-append less xs ys h.1 k both.1)

pub strict-filter : {A : Type 0} (less : A → A → Bool) (test : A → Bool) (xs : List A) → IsStrict less xs → IsStrict less (filter test xs)
strict-filter less test [] h = tt
strict-filter less test (x ∷ xs) h = by_test (test x) (strict-filter less test xs h.1)
  where
    by_test : (b : Bool) → IsStrict less (filter test xs) → IsStrict less (cond b (x ∷ filter test xs) (filter test xs))
    by_test true rest = (each-filter (λ y. less x y ≡ true) test xs h.0, rest)
    by_test false rest = rest

-- each list of those gathered rises, and each element of it comes before those of the later lists
pub strict-flat : {A C : Type 0} (before : A → A → Bool) (less : C → C → Bool) (P : A → C → Type 0) (f : A → List C)
    → ((x : A) → IsStrict less (f x)) → ((x : A) → Each (P x) (f x)) → ((x y : A) (c d : C) → before x y ≡ true → P x c → P y d → less c d ≡ true)
    → (xs : List A) → IsStrict before xs → IsStrict less (flat_map f xs)
strict-flat {A = A} {C = C} before less P f each has rises [] h = tt
strict-flat {A = A} {C = C} before less P f each has rises (x ∷ xs) h =
    strict-append less (f x) (flat_map f xs) (each x) (strict-flat before less P f each has rises xs h.1)
    (each-weaker (P x) (λ c. Each (λ d. less c d ≡ true) (flat_map f xs)) (f x) (λ c p. later c p xs h.0) (has x))
  where
    later : (c : C) → P x c → (ys : List A) → Each (λ y. before x y ≡ true) ys → Each (λ d. less c d ≡ true) (flat_map f ys)
    later c p [] h = tt
    later c p (y ∷ ys) h = each-append (λ d. less c d ≡ true) (f y) (flat_map f ys) (each-weaker (P y) (λ d. less c d ≡ true) (f y) (λ d q. rises x y c d h.0 p q) (has y)) (later c p ys h.1)
