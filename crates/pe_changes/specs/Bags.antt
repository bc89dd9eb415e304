-- Lists that hold the same elements, in whatever order.
use Rattle.std.specs.Prelude.{◌≡◌, ℕ, ◌+◌, Bool, List, [], ◌∷◌, cond}

-- how many elements pass
abbrev pub count : {A : Type 0} → (A → Bool) → List A → ℕ
count test [] = 0
count test (x ∷ xs) = cond (test x) 1 0 + count test xs

-- each test passes as many elements of the one list as of the other
abbrev pub IsSameBag : {A : Type 0} → List A → List A → Type 0
IsSameBag {A} xs ys = (test : A → Bool) → count test xs ≡ count test ys
