-- Lists each of whose elements has a property.
use Rattle.std.proofs.Common.{◌≡◌, ℕ, Bool, true, false, ◌&&◌, ◌||◌, ◌==◌, List, [], ◌∷◌, ◌++◌, map, refl, sym, ◌∙◌, ap, cond, true≢false}
use Rattle.std.specs.Prelude.{filter}
use Rattle.std.specs.List.{list_any}
use Rattle.std.proofs.lemmas.Bool.Decides.{Decides-eqb}
use Rattle.pe_laws.specs.StatusesLaws.{Each}

module _ {A : Type 0} where
  -- of those that pass, with the test
  pub each-kept : (P Q : A → Type 0) (p : A → Bool) (xs : List A) → ((x : A) → P x → p x ≡ true → Q x) → Each P xs → Each Q (filter p xs)
  each-kept P Q p [] f h = tt
  each-kept P Q p (x ∷ xs) f h = (elim (p x) as (λ b. p x ≡ b → Each Q (cond b (x ∷ filter p xs) (filter p xs))) [ true ↦ λ e. (f x h.0 e, each-kept P Q p xs f h.1) | false ↦ λ e. each-kept P Q p xs f h.1 ]) refl

  pub each-map : {B : Type 0} (P : A → Type 0) (Q : B → Type 0) (g : A → B) (xs : List A) → ((x : A) → P x → Q (g x)) → Each P xs → Each Q (map g xs)
  each-map P Q g [] f h = tt
  each-map P Q g (x ∷ xs) f h = (f x h.0, each-map P Q g xs f h.1)

  -- of those that pass, by the test alone
  pub each-passed : (Q : A → Type 0) (p : A → Bool) (xs : List A) → ((x : A) → p x ≡ true → Q x) → Each Q (filter p xs)
  each-passed Q p [] f = tt
  each-passed Q p (x ∷ xs) f = (elim (p x) as (λ b. p x ≡ b → Each Q (cond b (x ∷ filter p xs) (filter p xs))) [ true ↦ λ e. (f x e, each-passed Q p xs f) | false ↦ λ e. each-passed Q p xs f ]) refl

  pub each-both : (P Q : A → Type 0) (xs : List A) → Each P xs → Each Q xs → Each (λ x. P x × Q x) xs
  each-both P Q [] g h = tt
  each-both P Q (x ∷ xs) g h = ((g.0, h.0), each-both P Q xs g.1 h.1)

  -- of the elements behind a look
  pub each-unmapped : {B : Type 0} (Q : B → Type 0) (g : A → B) (xs : List A) → Each Q (map g xs) → Each (λ x. Q (g x)) xs
  each-unmapped Q g [] h = tt
  each-unmapped Q g (x ∷ xs) h = (h.0, each-unmapped Q g xs h.1)

  pub each-all : (P Q : A → Type 0) (xs : List A) → ((x : A) → P x → Q x) → Each P xs → Each Q xs
  each-all P Q [] f h = tt
  each-all P Q (x ∷ xs) f h = (f x h.0, each-all P Q xs f h.1)

  pub filter-within : (p q : A → Bool) (xs : List A) → ((x : A) → p x ≡ true → q x ≡ true) → filter p xs ≡ filter p (filter q xs)
  filter-within p q [] h = refl
  filter-within p q (x ∷ xs) h = (elim (p x) as (λ b. p x ≡ b → cond b (x ∷ filter p xs) (filter p xs) ≡ filter p (cond (q x) (x ∷ filter q xs) (filter q xs))) [
    | true ↦ λ e. rw (h x e, e) (ap (λ r. x ∷ r) (filter-within p q xs h))
    | false ↦ λ e. elim (q x) as (λ c. filter p xs ≡ filter p (cond c (x ∷ filter q xs) (filter q xs))) [ true ↦ rw e (filter-within p q xs h) | false ↦ filter-within p q xs h ]
  ]) refl

  pub filter-same : (p q : A → Bool) (xs : List A) → Each (λ x. p x ≡ q x) xs → filter p xs ≡ filter q xs
  filter-same p q [] h = refl
  filter-same p q (x ∷ xs) h = rw (h.0, filter-same p q xs h.1) refl

  pub map-filter : {B : Type 0} (g : A → B) (p : A → Bool) (q : B → Bool) (xs : List A) → Each (λ x. p x ≡ q (g x)) xs → map g (filter p xs) ≡ filter q (map g xs)
  map-filter g p q [] h = refl
  map-filter g p q (x ∷ xs) h = rw (h.0) (elim (q (g x)) as (λ b. map g (cond b (x ∷ filter p xs) (filter p xs)) ≡ cond b (g x ∷ filter q (map g xs)) (filter q (map g xs))) [
    | true ↦ ap (λ r. g x ∷ r) (map-filter g p q xs h.1)
    | false ↦ map-filter g p q xs h.1
  ])

  pub filter-all : (p : A → Bool) (xs : List A) → Each (λ x. p x ≡ true) xs → filter p xs ≡ xs
  filter-all p [] h = refl
  filter-all p (x ∷ xs) h = rw (h.0, filter-all p xs h.1) refl

  pub filter-and : (p q : A → Bool) (xs : List A) → filter (λ x. p x && q x) xs ≡ filter q (filter p xs)
  filter-and p q [] = refl
  filter-and p q (x ∷ xs) = elim (p x) as (λ b. cond (b && q x) (x ∷ filter (λ x. p x && q x) xs) (filter (λ x. p x && q x) xs) ≡ filter q (cond b (x ∷ filter p xs) (filter p xs))) [
    | true ↦ rw (filter-and p q xs) refl
    | false ↦ filter-and p q xs
  ]

  -- what a change leaves, a look does not see
  pub map-left : {B : Type 0} (g : A → B) (change : A → A) (xs : List A) → ((x : A) → g (change x) ≡ g x) → map g (map change xs) ≡ map g xs
  map-left g change [] h = refl
  map-left g change (x ∷ xs) h = rw (h x, map-left g change xs h) refl

-- of two lists one after another
module _ {A : Type 0} where
  pub each-append : (P : A → Type 0) (xs ys : List A) → Each P xs → Each P ys → Each P (xs ++ ys)
  each-append P [] ys g h = h
  each-append P (x ∷ xs) ys g h = (g.0, each-append P xs ys g.1 h)

or-true : (b : Bool) → (b || true) ≡ true
or-true true = refl
or-true false = refl

-- all listed numbers
pub each-listed : (P : ℕ → Type 0) (xs : List ℕ) → ((k : ℕ) → list_any (λ x. x == k) xs ≡ true → P k) → Each P xs
each-listed P [] h = tt
each-listed P (x ∷ xs) h = (h x (rw ((Decides-eqb x x).1 refl) refl), each-listed P xs (λ k e. h k (rw e (or-true (x == k)))))

-- what is listed and passes is listed among those that pass
pub any-filter : (p : ℕ → Bool) (f : ℕ) (xs : List ℕ) → p f ≡ true → list_any (λ g. g == f) xs ≡ true → list_any (λ g. g == f) (filter p xs) ≡ true
any-filter p f [] passes h = absurd (true≢false (sym h))
any-filter p f (x ∷ xs) passes h = by_test (x == f) refl (p x) refl (any-filter p f xs passes) h
  where
    by_test : (b : Bool) → (x == f) ≡ b → (c : Bool) → p x ≡ c → (list_any (λ g. g == f) xs ≡ true → list_any (λ g. g == f) (filter p xs) ≡ true)
        → (b || list_any (λ g. g == f) xs) ≡ true → list_any (λ g. g == f) (cond c (x ∷ filter p xs) (filter p xs)) ≡ true
    by_test true q true r older z = rw q refl
    by_test true q false r older z = absurd (true≢false (sym passes ∙ ap p (sym ((Decides-eqb x f).0 q)) ∙ r))
    by_test false q true r older z = rw q (older z)
    by_test false q false r older z = older z
