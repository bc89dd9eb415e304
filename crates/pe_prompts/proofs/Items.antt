-- What stands in a list, and each item of a list.
use Rattle.std.proofs.Common.{◌≡◌, ℕ, Bool, true, false, cond, List, [], ◌∷◌, ◌++◌, filter, nat_eq, refl, sym, subst, inl, inr, arith, Result, Ok, Err, OnOk, OnErr}
use Rattle.std.proofs.lemmas.Bool.Decides.{nat_tests}
use Rattle.pe_prompts.specs.Lists.{IsIn, Each}

-- two numbers that pass the test are one
pub same_number : (a b : ℕ) → nat_eq a b ≡ true → a ≡ b
same_number a b h = grind (arith, nat_tests)

module _ {A : Type 0} where
  -- what stands in the front stands in the whole
  pub IsIn-front : (xs ys : List A) (x : A) → IsIn xs x → IsIn (xs ++ ys) x
  IsIn-front [] ys x h = absurd h
  IsIn-front (y ∷ xs) ys x (inl e) = inl e
  IsIn-front (y ∷ xs) ys x (inr h) = inr (IsIn-front xs ys x h)

  -- the last item stands in the list
  pub IsIn-push : (xs : List A) (x : A) → IsIn (xs ++ x ∷ []) x
  IsIn-push [] x = inl refl
  IsIn-push (y ∷ xs) x = inr (IsIn-push xs x)

  module _ (P : A → Type 0) where
    -- each item, and one more
    pub Each-push : (xs : List A) (x : A) → Each P xs → P x → Each P (xs ++ x ∷ [])
    Each-push [] x h p = (p, tt)
    Each-push (y ∷ xs) x h p = (h.0, Each-push xs x h.1 p)

    -- each item, and so what follows from it
    pub Each-then : (Q : A → Type 0) → ((x : A) → P x → Q x) → (xs : List A) → Each P xs → Each Q xs
    Each-then Q so [] h = tt
    Each-then Q so (x ∷ xs) h = (so x h.0, Each-then Q so xs h.1)

    -- each item that passes a test
    pub Each-filter : (t : A → Bool) (xs : List A) → Each P xs → Each P (filter t xs)
    Each-filter t [] h = tt
    Each-filter t (x ∷ xs) h =
        let rest = Each-filter t xs h.1 in
        elim (t x) as (λ b. Each P (cond b (x ∷ filter t xs) (filter t xs))) [ true ↦ (h.0, rest) | false ↦ rest ]

    -- each item that passes a test passes it
    pub Each-passing : (t : A → Bool) (Q : A → Type 0) → ((x : A) → P x → t x ≡ true → Q x) → (xs : List A) → Each P xs → Each Q (filter t xs)
    Each-passing t Q so [] h = tt
    Each-passing t Q so (x ∷ xs) h =
        let rest = Each-passing t Q so xs h.1 in
        (elim (t x) as (λ b. t x ≡ b → Each Q (cond b (x ∷ filter t xs) (filter t xs))) [ true ↦ λ e. (so x h.0 e, rest) | false ↦ λ e. rest ]) refl

module _ {T : Type 0} (old new : ℕ → List T) (number : ℕ) (item : T) (here : new number ≡ old number ++ item ∷ []) (others : (n : ℕ) → nat_eq number n ≡ false → new n ≡ old n) where
  -- what stood in a list stands there, once an item is put behind one
  pub put-stays : (n : ℕ) (x : T) → IsIn (old n) x → IsIn (new n) x
  put-stays n x h =
      (elim (nat_eq number n) as (λ b. nat_eq number n ≡ b → IsIn (new n) x) [
        | true ↦ λ t. subst (λ m. IsIn (old m) x → IsIn (new m) x) (same_number number n t) (λ i. subst (λ l. IsIn l x) (sym here) (IsIn-front (old number) (item ∷ []) x i)) h
        | false ↦ λ f. subst (λ l. IsIn l x) (sym (others n f)) h
      ]) refl

  -- the item stands there
  pub put-stands : IsIn (new number) item
  put-stands = subst (λ l. IsIn l item) (sym here) (IsIn-push (old number) item)

-- what follows where a call failed or did not
pub on_err : {T E : Type 0} {P Q : Type 0} (r : Result T E) → (P → Q) → OnErr r P → OnErr r Q
on_err (Ok x) f h = h
on_err (Err e) f h = f h

pub on_ok : {T E : Type 0} {P Q : Type 0} (r : Result T E) → (P → Q) → OnOk r P → OnOk r Q
on_ok (Ok x) f h = f h
on_ok (Err e) f h = h

pub either_way : {T E : Type 0} {P : Type 0} (r : Result T E) → OnOk r P → OnErr r P → P
either_way (Ok x) p q = p
either_way (Err e) p q = q

-- where nothing was put, what stood in a list stands there
pub put-kept : {T : Type 0} (old new : ℕ → List T) (number : ℕ) → new number ≡ old number → ((n : ℕ) → nat_eq number n ≡ false → new n ≡ old n) → (n : ℕ) (x : T) → IsIn (old n) x → IsIn (new n) x
put-kept old new number here others n x h =
    (elim (nat_eq number n) as (λ b. nat_eq number n ≡ b → IsIn (new n) x) [
      | true ↦ λ t. subst (λ m. IsIn (old m) x → IsIn (new m) x) (same_number number n t) (λ i. subst (λ l. IsIn l x) (sym here) i) h
      | false ↦ λ f. subst (λ l. IsIn l x) (sym (others n f)) h
    ]) refl
