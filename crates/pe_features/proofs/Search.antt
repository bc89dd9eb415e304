-- What a search by name finds, in any table where each name finds its own row.
use Rattle.std.proofs.Common.{ℕ, Bool, true, false, cond, List, [], ◌∷◌, Option, Some, None, ◌≡◌, ◌≢◌, ◌↔◌, ◌⊎◌, inl, inr, refl, sym, ◌∙◌, ap}
use Rattle.std.specs.Prelude.{find, bytes_eq}
use Rattle.std.proofs.lemmas.Slice.Eq.{bytes_eq-Decides}

-- one step of a search, by the test of the first element
first_or_later : {A : Type 0} (b : Bool) (x y : A) (later : Option A) → cond b (Some x) later ≡ Some y → ((b ≡ true) × (x ≡ y)) ⊎ (later ≡ Some y)
first_or_later true x y later e = inl (refl, cc)
first_or_later false x y later e = inr e

-- a search gives an element that passes the test
passes : {A : Type 0} (p : A → Bool) (xs : List A) (x : A) → find p xs ≡ Some x → p x ≡ true
passes p [] x e = absurd (cc)
passes p (y ∷ ys) x e =
    elim (first_or_later (p y) y x (find p ys) e) [ inl h ↦ ap p (sym h.1) ∙ h.0 | inr h ↦ passes p ys x h ]

-- a row is found exactly by its name
pub found_exactly : {A : Type 0} (name : A → List ℕ) (rows : List A) → ((x : A) → find (λ y. bytes_eq (name y) (name x)) rows ≡ Some x) → (text : List ℕ) (r : Option A) → r ≡ find (λ y. bytes_eq (name y) text) rows → (x : A) → (r ≡ Some x) ↔ (text ≡ name x)
found_exactly name rows own text r is x = (λ e. sym ((bytes_eq-Decides (name x) text).0 (passes (λ y. bytes_eq (name y) text) rows x (sym is ∙ e))), λ (e : text ≡ name x). is ∙ (rw e (own x)))

-- nothing is found exactly where no row has the name
pub unknown_exactly : {A : Type 0} (name : A → List ℕ) (rows : List A) → ((x : A) → find (λ y. bytes_eq (name y) (name x)) rows ≡ Some x) → (text : List ℕ) (r : Option A) → r ≡ find (λ y. bytes_eq (name y) text) rows → (r ≡ None) ↔ ((x : A) → text ≢ name x)
unknown_exactly name rows own text None is = (λ e x h. let g : None ≡ Some x = (found_exactly name rows own text None is x).1 h in cc, λ h. refl)
unknown_exactly name rows own text (Some y) is = (λ e. absurd (cc), λ h. absurd (h y ((found_exactly name rows own text (Some y) is y).0 refl)))
