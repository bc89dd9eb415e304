-- Replacing the pair of a feature, and adding one.
use Rattle.std.proofs.Common.{◌≡◌, ℕ, nat_lt, suc, ◌+◌, ◌<◌, Bool, true, false, ◌==◌, cond, List, [], ◌∷◌, ◌++◌, length, set, Option, Some, None, option_map, find, refl, sym, ◌∙◌, ap, arith}
use Rattle.std.specs.List.{position, position_or_len}
use Rattle.std.specs.Option.{option_or}
use Rattle.std.proofs.lemmas.Bool.Decides.{nat_tests}
use Rattle.std.proofs.lemmas.List.Folds.{find-append}
use Rattle.pe_features.specs.declared.feature.Feature.{Feature}
use Rattle.pe_features.specs.Features.{feature_number, same_feature}
use Rattle.pe_allowlist.specs.declared.allowlist.Allowlist.{Allowlist}
use Rattle.pe_allowlist.specs.Lists.{is_of_feature, lists_of, NoFeatureTwice}

abbrev Row : Type 0
Row = Feature × Allowlist

abbrev numbered : ℕ → Row → Bool
numbered n row = feature_number row.0 == n

same_number : (a n m : ℕ) → (a == n) ≡ true → (a == m) ≡ (n == m)
same_number a n m h = let e : a ≡ n = grind (arith, nat_tests) in rw e refl

other_number : (a n m : ℕ) → (a == n) ≡ false → (n == m) ≡ true → (a == m) ≡ false
other_number a n m h k = grind (arith, nat_tests)

cond_twice : {A : Type 0} (b : Bool) (p q r : A) → cond b p r ≡ cond b p (cond b q r)
cond_twice true p q r = refl
cond_twice false p q r = refl

cond_swap : {A : Type 0} (b c : Bool) (p q r : A) → (b ≡ true → c ≡ false) → cond c q (cond b p r) ≡ cond b p (cond c q r)
cond_swap true c p q r h = rw (h refl) refl
cond_swap false c p q r h = refl

-- a pair in the place of the first of its number
pub set-found : (rows : List Row) (row : Row) (i n m : ℕ) → feature_number row.0 ≡ n → i ≡ position_or_len (numbered n) rows → i < length rows
    → find (numbered m) (set rows i row) ≡ cond (n == m) (Some row) (find (numbered m) rows)
set-found [] row i n m h e k = absurd (omega arith)
set-found (x ∷ rows) row i n m h e k = elim (feature_number x.0 == n) as (λ b. (feature_number x.0 == n) ≡ b → find (numbered m) (set (x ∷ rows) i row) ≡ cond (n == m) (Some row) (find (numbered m) (x ∷ rows))) [
  | true ↦ λ t.
      let here : i ≡ 0 = rw t at e in
      rw (here, h, same_number (feature_number x.0) n m t) (cond_twice (n == m) (Some row) (Some x) (find (numbered m) rows))
  | false ↦ λ t.
      let counted : i ≡ 1 + position_or_len (numbered n) rows = rw t at e in
      let later : i ≡ suc (position_or_len (numbered n) rows) = omega arith in
      let within : position_or_len (numbered n) rows < length rows = omega arith in
      rw (later, set-found rows row (position_or_len (numbered n) rows) n m h refl within)
      (cond_swap (n == m) (feature_number x.0 == m) (Some row) (Some x) (find (numbered m) rows) (other_number (feature_number x.0) n m t))
] refl

place_found : {n : ℕ} (b : Bool) (i p : ℕ) → (b ≡ nat_lt p n) → cond b (Some p) None ≡ Some i → (i ≡ p) × (p < n)
place_found true i p e h = (cc, grind (arith, nat_tests))
place_found false i p e h = cc

place_not_found : (b : Bool) (p : ℕ) → cond b (Some p) None ≡ None → b ≡ false
place_not_found true p h = cc
place_not_found false p h = refl

option_map_cond : (b : Bool) (row : Row) (o : Option Row) → option_map (λ (r : Row). r.1) (cond b (Some row) o) ≡ cond b (Some row.1) (option_map (λ (r : Row). r.1) o)
option_map_cond true row o = refl
option_map_cond false row o = refl

-- no pair has the number where none has a place
none_found : (rows : List Row) (n : ℕ) → nat_lt (position_or_len (numbered n) rows) (length rows) ≡ false → find (numbered n) rows ≡ None
none_found [] n h = refl
none_found (x ∷ rows) n h = elim (feature_number x.0 == n) as (λ b. (feature_number x.0 == n) ≡ b → find (numbered n) (x ∷ rows) ≡ None) [
  | true ↦ λ t.
      let first : nat_lt 0 (suc (length rows)) ≡ false = rw t at h in
      absurd (grind (arith, nat_tests))
  | false ↦ λ t.
      let further : nat_lt (1 + position_or_len (numbered n) rows) (suc (length rows)) ≡ false = rw t at h in
      let rest : nat_lt (position_or_len (numbered n) rows) (length rows) ≡ false = grind (arith, nat_tests) in
      rw t (none_found rows n rest)
] refl

same_test : (n m : ℕ) → (n == m) ≡ true → numbered n ≡ numbered m
same_test n m h = let e : n ≡ m = grind (arith, nat_tests) in ap numbered e

new_last : (b : Bool) (row : Row) (o : Option Row) → (b ≡ true → o ≡ None)
    → option_map (λ (r : Row). r.1) (option_or o (cond b (Some row) None)) ≡ cond b (Some row.1) (option_map (λ (r : Row). r.1) o)
new_last true row o h = rw (h refl) refl
new_last false row None h = refl
new_last false row (Some other) h = refl

-- the map with the list in place of the feature's earlier one
pub put_found : (rows : List Row) (g f : Feature) (list : Allowlist) (i : ℕ) → Some i ≡ position (is_of_feature g) rows
    → lists_of (set rows i (g, list)) f ≡ cond (same_feature g f) (Some list) (lists_of rows f)
unfolding lists_of
put_found rows g f list i h =
    let n : ℕ = feature_number g in
    let at : (i ≡ position_or_len (numbered n) rows) × (position_or_len (numbered n) rows < length rows) = place_found (nat_lt (position_or_len (numbered n) rows) (length rows)) i (position_or_len (numbered n) rows) refl (sym h) in
    let within : i < length rows = omega (arith, at.0, at.1) in
    rw (set-found rows (g, list) i n (feature_number f) refl at.0 within)
    (option_map_cond (same_feature g f) (g, list) (find (numbered (feature_number f)) rows))

-- the map with the list of a feature that it lacks
pub put_new : (rows : List Row) (g f : Feature) (list : Allowlist) → None ≡ position (is_of_feature g) rows
    → lists_of (rows ++ (g, list) ∷ []) f ≡ cond (same_feature g f) (Some list) (lists_of rows f)
unfolding lists_of
put_new rows g f list h =
    let n : ℕ = feature_number g in
    let absent : find (numbered n) rows ≡ None = none_found rows n (place_not_found _ (position_or_len (numbered n) rows) (sym h)) in
    rw (find-append (numbered (feature_number f)) rows ((g, list) ∷ []))
    (new_last (n == feature_number f) (g, list) (find (numbered (feature_number f)) rows) (λ (t : (n == feature_number f) ≡ true). rw (same_test n (feature_number f) t) at absent))

-- ---- no feature stands twice

-- a pair in the place of the first of its feature
set_once : (rows : List Row) (row : Row) (i : ℕ) → i ≡ position_or_len (is_of_feature row.0) rows → i < length rows
    → NoFeatureTwice rows → NoFeatureTwice (set rows i row)
set_once [] row i e k once = absurd (omega arith)
set_once (x ∷ rows) row i e k once = elim (feature_number x.0 == feature_number row.0) as (λ b. (feature_number x.0 == feature_number row.0) ≡ b → NoFeatureTwice (set (x ∷ rows) i row)) [
  | true ↦ λ t.
      let here : i ≡ 0 = rw t at e in
      rw here (rw (sym (same_test (feature_number x.0) (feature_number row.0) t)) once.0, once.1)
  | false ↦ λ t.
      let counted : i ≡ 1 + position_or_len (is_of_feature row.0) rows = rw t at e in
      let later : i ≡ suc (position_or_len (is_of_feature row.0) rows) = omega arith in
      let within : position_or_len (is_of_feature row.0) rows < length rows = omega arith in
      let other : (feature_number row.0 == feature_number x.0) ≡ false = grind (arith, nat_tests) in
      let found = set-found rows row (position_or_len (is_of_feature row.0) rows) (feature_number row.0) (feature_number x.0) refl refl within in
      rw later (
        found ∙ rw other once.0,
        set_once rows row (position_or_len (is_of_feature row.0) rows) refl within once.1,
      )
] refl

-- a pair of a feature that the list lacks, at the end
append_once : (rows : List Row) (row : Row) → find (is_of_feature row.0) rows ≡ None → NoFeatureTwice rows → NoFeatureTwice (rows ++ row ∷ [])
append_once [] row absent once = (refl, tt)
append_once (x ∷ rows) row absent once = elim (feature_number x.0 == feature_number row.0) as (λ b. (feature_number x.0 == feature_number row.0) ≡ b → NoFeatureTwice ((x ∷ rows) ++ row ∷ [])) [
  | true ↦ λ t.
      let present : Some x ≡ None = rw t at absent in
      cc
  | false ↦ λ t.
      let rest : find (is_of_feature row.0) rows ≡ None = rw t at absent in
      let other : (feature_number row.0 == feature_number x.0) ≡ false = grind (arith, nat_tests) in (
        find-append (is_of_feature x.0) rows (row ∷ []) ∙ rw (once.0, other) refl,
        append_once rows row rest once.1,
      )
] refl

pub put_found_once : (rows : List Row) (g : Feature) (list : Allowlist) (i : ℕ) → Some i ≡ position (is_of_feature g) rows
    → NoFeatureTwice rows → NoFeatureTwice (set rows i (g, list))
put_found_once rows g list i h once =
    let at : (i ≡ position_or_len (is_of_feature g) rows) × (position_or_len (is_of_feature g) rows < length rows) = place_found (nat_lt (position_or_len (is_of_feature g) rows) (length rows)) i (position_or_len (is_of_feature g) rows) refl (sym h) in
    set_once rows (g, list) i at.0 (omega (arith, at.0, at.1)) once

pub put_new_once : (rows : List Row) (g : Feature) (list : Allowlist) → None ≡ position (is_of_feature g) rows
    → NoFeatureTwice rows → NoFeatureTwice (rows ++ (g, list) ∷ [])
put_new_once rows g list h once =
    let absent : find (is_of_feature g) rows ≡ None = none_found rows (feature_number g) (place_not_found _ (position_or_len (is_of_feature g) rows) (sym h)) in
    append_once rows (g, list) absent once
