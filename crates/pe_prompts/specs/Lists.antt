-- Lists under numbers, and what stands in a list.
use Rattle.std.specs.Prelude.{◌≡◌, ◌⊎◌, ℕ, List, [], ◌∷◌, nat_eq, unwrap_or, option_map}
use Rattle.std.specs.Global.{Vec}
use Rattle.indexmap.specs.IndexMap.{IndexMap, get}

-- the list of a number; where none was put it is the empty one
abbrev pub listed : {T S : Type 0} → IndexMap ℕ (Vec T) S → ℕ → List T
listed lists number = unwrap_or (option_map (λ v. v.items) (get nat_eq lists number)) []

-- the item is in the list
abbrev pub IsIn : {A : Type 0} → List A → A → Type 0
IsIn [] x = ⊥
IsIn (y ∷ ys) x = (y ≡ x) ⊎ IsIn ys x

-- each item of a list
abbrev pub Each : {A : Type 0} → (A → Type 0) → List A → Type 0
Each P [] = Unit {0}
Each P (x ∷ xs) = P x × Each P xs
