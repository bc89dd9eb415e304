-- Lists that differ at one place.
use Rattle.std.proofs.Common.{◌≡◌, ◌≢◌, ℕ, zero, suc, ◌+◌, ◌<◌, ◌≤◌, true, false, cond, List, [], ◌∷◌, ◌++◌, map, length, get_or, set, refl, ap, ◌∙◌, arith, nat_eq, true≢false}
use Rattle.std.specs.Prelude.{Result, Ok, Err, is_err, OnOk, IfOk}
use Rattle.std.proofs.lemmas.Bool.Decides.{nat_tests}
use Rattle.std.proofs.lemmas.List.Sums.{sum_by-cons, sum_by_push}
use Rattle.pe_arena.specs.Rows.{times}

module _ {A B : Type 0} (f g : A → B) (d : A) where
  -- two functions that agree on a list's items map it to the same
  pub map-agree : (xs : List A) → ((j : ℕ) → j < length xs → g (get_or xs j d) ≡ f (get_or xs j d)) → map g xs ≡ map f xs
  map-agree [] h = refl
  map-agree (x ∷ xs) h =
      let rest = map-agree xs (λ j lt. h (suc j) (omega arith)) in
      let first = h 0 (omega arith) in
      (λ i. first i ∷ rest i)

  -- and where they agree but at the place that is written, a write before is a write after
  pub map-set-change : (y : A) (b : B) (xs : List A) (i : ℕ) → i < length xs → g y ≡ b → ((j : ℕ) → j ≢ i → j < length xs → g (get_or xs j d) ≡ f (get_or xs j d)) → map g (set xs i y) ≡ set (map f xs) i b
  map-set-change y b [] i lt e h = absurd (omega arith)
  map-set-change y b (x ∷ xs) zero lt e h =
      let rest = map-agree xs (λ j l. h (suc j) (omega arith) (omega arith)) in
      (λ i. e i ∷ rest i)
  map-set-change y b (x ∷ xs) (suc n) lt e h =
      let first = h 0 (omega arith) (omega arith) in
      let rest = map-set-change y b xs n (omega arith) e (λ j ne l. h (suc j) (omega arith) (omega arith)) in
      (λ i. first i ∷ rest i)

-- an item before the one that is appended
pub get_or-push_before : {A : Type 0} (xs : List A) (y d : A) (j : ℕ) → j ≢ length xs → get_or (xs ++ y ∷ []) j d ≡ get_or xs j d
get_or-push_before [] y d zero ne = absurd (ne refl)
get_or-push_before [] y d (suc j) ne = refl
get_or-push_before (x ∷ xs) y d zero ne = refl
get_or-push_before (x ∷ xs) y d (suc j) ne = get_or-push_before xs y d j (λ e. ne (ap suc e))

-- the item that is appended
pub get_or-push_last : {A : Type 0} (xs : List A) (y d : A) → get_or (xs ++ y ∷ []) (length xs) d ≡ y
get_or-push_last [] y d = refl
get_or-push_last (x ∷ xs) y d = get_or-push_last xs y d

-- a number that is appended is listed once more
pub times-push_same : (i : ℕ) (xs : List ℕ) → times i (xs ++ i ∷ []) ≡ times i xs + 1
times-push_same i xs =
    let same : nat_eq i i ≡ true = grind (arith, nat_tests) in
    sum_by_push (λ x. cond (nat_eq i x) 1 0) xs i ∙ ap (λ b. times i xs + cond b 1 0) same

-- and another number as often as before
pub times-push_other : (i j : ℕ) (xs : List ℕ) → j ≢ i → times j (xs ++ i ∷ []) ≡ times j xs
times-push_other i j xs ne =
    let differ : nat_eq j i ≡ false = grind (arith, nat_tests) in
    sum_by_push (λ x. cond (nat_eq j x) 1 0) xs i ∙ ap (λ b. times j xs + cond b 1 0) differ ∙ omega arith

-- the first number of a list is listed
pub times-first : (x : ℕ) (xs : List ℕ) → times x (x ∷ xs) ≡ 1 + times x xs
times-first x xs =
    let same : nat_eq x x ≡ true = grind (arith, nat_tests) in
    sum_by-cons (λ y. cond (nat_eq x y) 1 0) x xs ∙ ap (λ b. cond b 1 0 + times x xs) same

-- what holds of a result that is `Ok`, where it is not an `Err`
pub when_ok : {A E P : Type 0} (r : Result A E) → is_err r ≡ false → OnOk r P → P
when_ok (Ok x) e p = p
when_ok (Err x) e p = absurd (true≢false e)

-- what follows for each value from what holds of it
pub if_ok : {A E : Type 0} {P Q : A → Type 0} (r : Result A E) → ((x : A) → P x → Q x) → IfOk r P → IfOk r Q
if_ok (Ok x) f p = f x p
if_ok (Err x) f p = p

pub empty_list : {A : Type 0} (xs : List A) → length xs ≡ 0 → xs ≡ []
empty_list [] e = refl
empty_list (x ∷ xs) e = absurd (omega arith)

pub not_below : (a b : ℕ) → (a < b → ⊥) → b ≤ a
not_below a b h = omega arith
