-- Tables of names in the code and in the definitions.
use Rattle.std.proofs.Common.{◌≡◌, ℕ, Bool, true, false, List, [], ◌∷◌, Some, option_map, refl, bytes_eq, find, Bor, cond}
use Rattle.std.specs.Prelude.{map}
use Rattle.pe_script.specs.Names.{named_in}

module _ {A : Type 0} where
  -- a row of the code, and what it is in the definitions
  abbrev pub told : Bor (List ℕ) × A → List ℕ × A
  told row = (row.0.now, row.1)

  abbrev pub value : Bor (List ℕ) × A → A
  value row = row.1

  abbrev pub has_name : List ℕ → Bor (List ℕ) × A → Bool
  has_name name row = bytes_eq row.0.now name

  one_row : (row : Bor (List ℕ) × A) (rows : List (Bor (List ℕ) × A)) (name : List ℕ) (b : Bool) → option_map value (find (has_name name) rows) ≡ named_in (map told rows) name
      → option_map value (cond b (Some row) (find (has_name name) rows))
      ≡ option_map (λ (r : List ℕ × A). r.1) (cond b (Some (told row)) (find (λ (r : List ℕ × A). bytes_eq r.0 name) (map told rows)))
  one_row row rows name true later = refl
  one_row row rows name false later = later

  -- the value of the row that a search by name finds
  pub value_of_row : (rows : List (Bor (List ℕ) × A)) (name : List ℕ) → option_map value (find (has_name name) rows) ≡ named_in (map told rows) name
  value_of_row [] name = refl
  value_of_row (row ∷ rows) name = one_row row rows name (bytes_eq row.0.now name) (value_of_row rows name)

-- a table with each value replaced
pub named-map : {A B : Type 0} (g : A → B) (table : List (List ℕ × A)) (name : List ℕ) → option_map g (named_in table name) ≡ named_in (map (λ (r : List ℕ × A). (r.0, g r.1)) table) name
named-map g [] name = refl
named-map {A = A} {B = B} g (row ∷ table) name = by_test (bytes_eq row.0 name) (named-map g table name)
  where
    by_test : (b : Bool) → option_map g (named_in table name) ≡ named_in (map (λ (r : List ℕ × A). (r.0, g r.1)) table) name
        → option_map g (option_map (λ (r : List ℕ × A). r.1) (cond b (Some row) (find (λ (r : List ℕ × A). bytes_eq r.0 name) table)))
        ≡ option_map (λ (r : List ℕ × B). r.1) (cond b (Some (row.0, g row.1)) (find (λ (r : List ℕ × B). bytes_eq r.0 name) (map (λ (r : List ℕ × A). (r.0, g r.1)) table)))
    by_test true later = refl
    by_test false later = later
