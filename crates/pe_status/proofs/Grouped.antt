-- What stands in a group, by what lies in its range.
use Rattle.std.proofs.Common.{◌≡◌, ℕ, ◌+◌, Bool, true, false, cond, ◌||◌, ◌&&◌, List, [], ◌∷◌, Some, None, refl, sym, ap, ◌∙◌, arith}
use Rattle.std.specs.Prelude.{◌==◌, nat_le, filter}
use Rattle.std.specs.List.{list_any}
use Rattle.std.specs.Map.{lookup, values_of}
use Rattle.std.specs.BTreeMap.{BTreeMap, is_at}
use Rattle.std.specs.BTreeSet.{BTreeSet}
use Rattle.std.specs.BTreeMap.Range.{range_contains, entries_between}
use Rattle.std.specs.Ordering.{is_eq}
use Rattle.std.specs.declared.ops.Bound.TheVariants.{Included, Excluded}
use Rattle.std.proofs.lemmas.Bool.Decides.{nat_tests, Decides-eqb}
use Rattle.pe_status.specs.declared.place.Place.{Place}
use Rattle.pe_status.specs.Places.{place_cmp, place, value_at, is_taken, is_from}
use Rattle.pe_status.specs.Kept.{values_from}
use Rattle.pe_status.proofs.Walking.{at-test, filter-alike, range-test, between-group, between-none}

-- what is not in the group from its first number is not at a place of it
outside : (g n : ℕ) (q : Place) → is_from g 0 q ≡ false → is_eq (place_cmp (place g n) q) ≡ false
outside g n q h = at-test g n q ∙ by_test (q.group == g) h
  where
    by_test : (b : Bool) → (b && nat_le 0 q.no) ≡ false → (b && q.no == n) ≡ false
    by_test true e = grind (arith, nat_tests)
    by_test false e = refl

inside : (g : ℕ) (q : Place) → is_from g 0 q ≡ true → is_eq (place_cmp (place g q.no) q) ≡ true
inside g q h = at-test g q.no q ∙ by_test (q.group == g) h
  where
    by_test : (b : Bool) → (b && nat_le 0 q.no) ≡ true → (b && q.no == q.no) ≡ true
    by_test true e = (Decides-eqb q.no q.no).1 refl
    by_test false e = e

group-none : (g n : ℕ) (ks : List Place) → filter (is_from g 0) ks ≡ [] → list_any (is_at (place_cmp (place g n))) ks ≡ false
group-none g n [] h = refl
group-none g n (k ∷ ks) h = by_test (group-none g n ks) (is_from g 0 k) refl h
  where
    by_test : (filter (is_from g 0) ks ≡ [] → list_any (is_at (place_cmp (place g n))) ks ≡ false) → (b : Bool) → is_from g 0 k ≡ b
        → cond b (k ∷ filter (is_from g 0) ks) (filter (is_from g 0) ks) ≡ [] → is_eq (place_cmp (place g n) k) || list_any (is_at (place_cmp (place g n))) ks ≡ false
    by_test rest true e f = absurd cc
    by_test rest false e f = ap (λ (b : Bool). b || list_any (is_at (place_cmp (place g n))) ks) (outside g n k e) ∙ rest f

or-true : (b c : Bool) → c ≡ true → b || c ≡ true
or-true true c h = refl
or-true false c h = h

group-some : (g : ℕ) (p : Place) (rest ks : List Place) → filter (is_from g 0) ks ≡ p ∷ rest → list_any (is_at (place_cmp (place g p.no))) ks ≡ true
group-some g p rest [] h = absurd cc
group-some g p rest (k ∷ ks) h = by_test (group-some g p rest ks) (is_from g 0 k) refl h
  where
    by_test : (filter (is_from g 0) ks ≡ p ∷ rest → list_any (is_at (place_cmp (place g p.no))) ks ≡ true) → (b : Bool) → is_from g 0 k ≡ b
        → cond b (k ∷ filter (is_from g 0) ks) (filter (is_from g 0) ks) ≡ p ∷ rest → is_eq (place_cmp (place g p.no) k) || list_any (is_at (place_cmp (place g p.no))) ks ≡ true
    by_test later true e f =
        let is : k ≡ p = cc in
        ap (λ (b : Bool). b || list_any (is_at (place_cmp (place g p.no))) ks) (ap (λ (q : Place). is_eq (place_cmp (place g q.no) k)) (sym is) ∙ inside g k e)
    by_test later false e f = or-true (is_eq (place_cmp (place g p.no) k)) (list_any (is_at (place_cmp (place g p.no))) ks) (later f)

rows-none : {X : Type 0} (g n : ℕ) (es : List (Place × X)) → filter (λ e. is_from g 0 e.0) es ≡ [] → lookup (is_at (place_cmp (place g n))) es ≡ None
rows-none g n [] h = refl
rows-none {X} g n (x ∷ xs) h = by_test (rows-none g n xs) (is_from g 0 x.0) refl h
  where
    by_test : (filter (λ e. is_from g 0 e.0) xs ≡ [] → lookup (is_at (place_cmp (place g n))) xs ≡ None) → (b : Bool) → is_from g 0 x.0 ≡ b
        → cond b (x ∷ filter (λ e. is_from g 0 e.0) xs) (filter (λ e. is_from g 0 e.0) xs) ≡ [] → cond (is_eq (place_cmp (place g n) x.0)) (Some x.1) (lookup (is_at (place_cmp (place g n))) xs) ≡ None
    by_test rest true e f = absurd cc
    by_test rest false e f = ap (λ (b : Bool). cond b (Some x.1) (lookup (is_at (place_cmp (place g n))) xs)) (outside g n x.0 e) ∙ rest f

-- a range with these ends is that of the group
ranged : (g n : ℕ) (a b : Place) → a ≡ place g n → b ≡ place (g + 1) 0 → (ks : List Place) → filter (range_contains place_cmp (Included a) (Excluded b)) ks ≡ filter (is_from g n) ks
ranged g n a b start end ks = rw (start, end) (filter-alike _ _ (range-test g n) ks)

pub first-none : (owned : BTreeSet Place) (doc : ℕ) (a b : Place) → a ≡ place doc 0 → b ≡ place (doc + 1) 0 → (ks : List Place)
    → ks ≡ filter (range_contains place_cmp (Included a) (Excluded b)) owned.keys → ks ≡ [] → (n : ℕ) → is_taken owned doc n ≡ false
unfolding is_taken
first-none owned doc a b start end ks is none n = group-none doc n owned.keys (sym (ranged doc 0 a b start end owned.keys) ∙ sym is ∙ none)

pub first-some : (owned : BTreeSet Place) (doc : ℕ) (a b : Place) → a ≡ place doc 0 → b ≡ place (doc + 1) 0 → (ks : List Place)
    → ks ≡ filter (range_contains place_cmp (Included a) (Excluded b)) owned.keys → (p : Place) (rest : List Place) → ks ≡ p ∷ rest → is_taken owned doc p.no ≡ true
unfolding is_taken
first-some owned doc a b start end ks is p rest some = group-some doc p rest owned.keys (sym (ranged doc 0 a b start end owned.keys) ∙ sym is ∙ some)

-- the entries of a group, and of no group
pub group-entries : {X : Type 0} (m : BTreeMap Place X) (g n : ℕ) (a b : Place) → a ≡ place g n → b ≡ place (g + 1) 0 → entries_between place_cmp (Included a) (Excluded b) m.entries ≡ filter (λ e. is_from g n e.0) m.entries
group-entries m g n a b start end = rw (start, end) (between-group g n m.entries)

pub no-row : {X : Type 0} (m : BTreeMap Place X) (g : ℕ) (a b : Place) → a ≡ place g 0 → b ≡ place (g + 1) 0 → (es : List (Place × X))
    → es ≡ entries_between place_cmp (Included a) (Excluded b) m.entries → es ≡ [] → (n : ℕ) → value_at m g n ≡ None
unfolding value_at
no-row m g a b start end es is none n = rows-none g n m.entries (sym (group-entries m g 0 a b start end) ∙ sym is ∙ none)

pub group-values : {X : Type 0} (m : BTreeMap Place X) (g n : ℕ) (a b : Place) → a ≡ place g n → b ≡ place (g + 1) 0 → (es : List (Place × X))
    → es ≡ entries_between place_cmp (Included a) (Excluded b) m.entries → values_of es ≡ values_from m (Some g) n
group-values m g n a b start end es is = ap values_of (is ∙ group-entries m g n a b start end)

none-entries : {X : Type 0} (m : BTreeMap Place X) (a b : Place) → a ≡ place 0 0 → b ≡ place 0 0 → entries_between place_cmp (Included a) (Excluded b) m.entries ≡ []
none-entries m a b start end = rw (start, end) (between-none m.entries)

pub none-values : {X : Type 0} (m : BTreeMap Place X) (n : ℕ) (a b : Place) → a ≡ place 0 0 → b ≡ place 0 0 → (es : List (Place × X))
    → es ≡ entries_between place_cmp (Included a) (Excluded b) m.entries → values_of es ≡ values_from m None n
none-values m n a b start end es is = ap values_of (is ∙ none-entries m a b start end)
