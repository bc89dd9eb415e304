-- The endings by a document, and the entries that they end.
use Rattle.std.proofs.Common.{◌≡◌, ℕ, ◌+◌, Bool, true, false, ◌&&◌, ◌||◌, List, [], ◌∷◌, map, filter, flat_map, Option, Some, None, option_to_list, refl, sym, ◌∙◌, ap, cond, arith}
use Rattle.std.specs.Prelude.{◌==◌}
use Rattle.std.specs.List.{list_any, AllByRecursion}
use Rattle.std.specs.List.Sorted.{IsStrictlySortedBy}
use Rattle.std.specs.Map.{keys_of, values_of}
use Rattle.std.specs.BTreeMap.{is_at}
use Rattle.std.specs.BTreeMap.Range.{range_contains}
use Rattle.std.specs.declared.ops.Bound.TheVariants.{Included, Excluded}
use Rattle.std.specs.Option.{is_some}
use Rattle.std.specs.Ordering.{nat_cmp, ordering_then, is_eq}
use Rattle.std.specs.Cmp.{eq_by_cmp_equiv}
use Rattle.std.specs.declared.cmp.Ordering.{Ordering}
use Rattle.std.specs.declared.cmp.Ordering.TheVariants.{Less, Equal}
use Rattle.std.proofs.lemmas.Bool.Decides.{nat_tests}
use Rattle.std.proofs.lemmas.List.Folds.{flat_map-map}
use Rattle.std.proofs.lemmas.Map.Entries.{lookup-filter-values, option_filter}
use Rattle.std.proofs.lemmas.Map.Keys.{IsDistinct-from_sorted}
use Rattle.std.proofs.lemmas.Map.Lookups.{btree_set_from_contains}
use Rattle.std.proofs.lemmas.Map.Made.{is_some-lookup}
use Rattle.pe_store.specs.declared.entry.Entry.{Entry}
use Rattle.pe_store.specs.declared.place.Place.{Place}
use Rattle.pe_store.specs.declared.place.Ending.{Ending}
use Rattle.pe_store.specs.Entries.{pair_of}
use Rattle.pe_store.specs.Pages.{pairs_of_page}
use Rattle.pe_store.specs.Pairs.{Pair}
use Rattle.pe_store.specs.Places.{place_cmp, ending_cmp, is_same_place, has_ending, has_life, is_page_of, AreEndings, PlacedEntries, row_at}
use Rattle.pe_store.proofs.Endings.{ending-at}
use Rattle.pe_store.proofs.Numbered.{place-total, place-exact}
use Rattle.pe_store.proofs.Sorted.{all-rows}

abbrev pub first_by : ℕ → Ending
first_by n = record { by = n; place = record { feature = 0; serial = 0 } }

-- what stands from the first ending by a number up to the first by the next is by the number
within-by : (d : ℕ) (x : Ending) → range_contains ending_cmp (Included (first_by d)) (Excluded (first_by (d + 1))) x ≡ (x.by == d)
within-by d x = grind (arith, nat_tests)

between-by : (d : ℕ) (xs : List Ending) → filter (range_contains ending_cmp (Included (first_by d)) (Excluded (first_by (d + 1)))) xs ≡ filter (λ (x : Ending). x.by == d) xs
between-by d [] = refl
between-by d (x ∷ xs) = rw (within-by d x) (ap (λ (ys : List Ending). cond (x.by == d) (x ∷ ys) ys) (between-by d xs))

-- ---- the places of the endings by a number

abbrev places_by : ℕ → List Ending → List Place
places_by d xs = map (λ (x : Ending). x.place) (filter (λ (x : Ending). x.by == d) xs)

behind-by : (d : ℕ) (x y : Ending) → (x.by == d) ≡ true → (y.by == d) ≡ true → ending_cmp x y ≡ Less → place_cmp x.place y.place ≡ Less
behind-by d x y hx hy less = by_number (nat_cmp x.by y.by) equal less
  where
    equal : nat_cmp x.by y.by ≡ Equal
    equal = grind (arith, nat_tests)

    by_number : (o : Ordering) → o ≡ Equal → ordering_then o (place_cmp x.place y.place) ≡ Less → place_cmp x.place y.place ≡ Less
    by_number o is h = rw is at h

all-behind : (d : ℕ) (x : Ending) (xs : List Ending) → (x.by == d) ≡ true → AllByRecursion (λ y. ending_cmp x y ≡ Less) xs → AllByRecursion (λ p. place_cmp x.place p ≡ Less) (places_by d xs)
all-behind d x [] hx h = tt
all-behind d x (y ∷ xs) hx h = by_test (y.by == d) refl (all-behind d x xs hx h.1)
  where
    by_test : (b : Bool) → (y.by == d) ≡ b → AllByRecursion (λ p. place_cmp x.place p ≡ Less) (places_by d xs)
        → AllByRecursion (λ p. place_cmp x.place p ≡ Less) (map (λ (z : Ending). z.place) (cond b (y ∷ filter (λ (z : Ending). z.by == d) xs) (filter (λ (z : Ending). z.by == d) xs)))
    by_test true hy rest = (behind-by d x y hx hy h.0, rest)
    by_test false hy rest = rest

sorted-by : (d : ℕ) (xs : List Ending) → IsStrictlySortedBy ending_cmp xs → IsStrictlySortedBy place_cmp (places_by d xs)
unfolding IsStrictlySortedBy
sorted-by d [] s = tt
sorted-by d (x ∷ xs) s = by_test (x.by == d) refl (sorted-by d xs s.1)
  where
    by_test : (b : Bool) → (x.by == d) ≡ b → IsStrictlySortedBy place_cmp (places_by d xs)
        → IsStrictlySortedBy place_cmp (map (λ (z : Ending). z.place) (cond b (x ∷ filter (λ (z : Ending). z.by == d) xs) (filter (λ (z : Ending). z.by == d) xs)))
    by_test true hx rest = (all-behind d x xs hx s.0, rest)
    by_test false hx rest = rest

any-by : (d : ℕ) (p : Place) (xs : List Ending) → list_any (is_at (place_cmp p)) (places_by d xs) ≡ has_ending xs (record { by = d; place = p })
unfolding has_ending
any-by d p [] = refl
any-by d p (x ∷ xs) = rw (ending-at d p x) (by_test (x.by == d) (is_same_place p x.place) refl (any-by d p xs))
  where
    by_test : (b s : Bool) → is_same_place p x.place ≡ s → list_any (is_at (place_cmp p)) (places_by d xs) ≡ list_any (is_at (ending_cmp (record { by = d; place = p }))) xs
        → list_any (is_at (place_cmp p)) (map (λ (z : Ending). z.place) (cond b (x ∷ filter (λ (z : Ending). z.by == d) xs) (filter (λ (z : Ending). z.by == d) xs)))
        ≡ (s && b) || list_any (is_at (ending_cmp (record { by = d; place = p }))) xs
    by_test true true here rest = rw here refl
    by_test true false here rest = rw here rest
    by_test false true here rest = rest
    by_test false false here rest = rest

-- ---- the rows of the entries that hold while a document is current

abbrev rows_of_page : ℕ → PlacedEntries → PlacedEntries
rows_of_page d rows = filter (λ (r : Place × Entry). is_page_of d r.1.life) rows

all-kept : (P : Place → Type 0) (d : ℕ) (rows : PlacedEntries) → AllByRecursion P (keys_of rows) → AllByRecursion P (keys_of (rows_of_page d rows))
all-kept P d [] h = tt
all-kept P d (r ∷ rows) h = by_test (is_page_of d r.1.life) (all-kept P d rows h.1)
  where
    by_test : (b : Bool) → AllByRecursion P (keys_of (rows_of_page d rows)) → AllByRecursion P (keys_of (cond b (r ∷ rows_of_page d rows) (rows_of_page d rows)))
    by_test true rest = (h.0, rest)
    by_test false rest = rest

sorted-rows : (d : ℕ) (rows : PlacedEntries) → IsStrictlySortedBy place_cmp (keys_of rows) → IsStrictlySortedBy place_cmp (keys_of (rows_of_page d rows))
unfolding IsStrictlySortedBy
sorted-rows d [] s = tt
sorted-rows d (r ∷ rows) s = by_test (is_page_of d r.1.life) (sorted-rows d rows s.1)
  where
    by_test : (b : Bool) → IsStrictlySortedBy place_cmp (keys_of (rows_of_page d rows)) → IsStrictlySortedBy place_cmp (keys_of (cond b (r ∷ rows_of_page d rows) (rows_of_page d rows)))
    by_test true rest = (all-kept (λ k. place_cmp r.0 k ≡ Less) d rows s.0, rest)
    by_test false rest = rest

life-kept : (d : ℕ) (o : Option Entry) → is_some (option_filter (λ (e : Entry). is_page_of d e.life) o) ≡ has_life is_page_of d o
life-kept d None = refl
life-kept d (Some e) = by_test (is_page_of d e.life)
  where
    by_test : (b : Bool) → is_some (cond b (Some e) None) ≡ b
    by_test true = refl
    by_test false = refl

any-rows : (d : ℕ) (p : Place) (rows : PlacedEntries) → IsStrictlySortedBy place_cmp (keys_of rows) → list_any (is_at (place_cmp p)) (keys_of (rows_of_page d rows)) ≡ has_life is_page_of d (row_at rows p)
any-rows d p rows s =
    sym (is_some-lookup (is_at (place_cmp p)) (rows_of_page d rows))
    ∙ ap is_some (lookup-filter-values (eq_by_cmp_equiv place-total) (λ (e : Entry). is_page_of d e.life) p rows (IsDistinct-from_sorted place_cmp (keys_of rows) s))
    ∙ life-kept d (row_at rows p)

-- ---- the pairs of the one are those of the other

module _ (row : Place → Option Entry) (d : ℕ) where
  read-rows : (rows : PlacedEntries) → AllByRecursion (λ (r : Place × Entry). row r.0 ≡ Some r.1) rows
      → flat_map (λ (p : Place). map pair_of (option_to_list (row p))) (keys_of (rows_of_page d rows)) ≡ map pair_of (filter (λ (e : Entry). is_page_of d e.life) (values_of rows))
  read-rows [] h = refl
  read-rows (r ∷ rows) h = by_test (is_page_of d r.1.life) (read-rows rows h.1)
    where
      by_test : (b : Bool) → flat_map (λ (p : Place). map pair_of (option_to_list (row p))) (keys_of (rows_of_page d rows)) ≡ map pair_of (filter (λ (e : Entry). is_page_of d e.life) (values_of rows))
          → flat_map (λ (p : Place). map pair_of (option_to_list (row p))) (keys_of (cond b (r ∷ rows_of_page d rows) (rows_of_page d rows)))
          ≡ map pair_of (cond b (r.1 ∷ filter (λ (e : Entry). is_page_of d e.life) (values_of rows)) (filter (λ (e : Entry). is_page_of d e.life) (values_of rows)))
      by_test true rest = rw h.0 (ap (λ (ps : List Pair). pair_of r.1 ∷ ps) rest)
      by_test false rest = rest

pub pages-read : (d : ℕ) (rows : PlacedEntries) (pages : List Ending) → IsStrictlySortedBy place_cmp (keys_of rows) → AreEndings is_page_of (λ p. row_at rows p) pages → IsStrictlySortedBy ending_cmp pages
    → flat_map (λ (x : Ending). map pair_of (option_to_list (row_at rows x.place))) (filter (range_contains ending_cmp (Included (first_by d)) (Excluded (first_by (d + 1)))) pages) ≡ pairs_of_page d (values_of rows)
unfolding AreEndings pairs_of_page
pages-read d rows pages ordered paged sorted =
    let one : places_by d pages ≡ keys_of (rows_of_page d rows) =
    btree_set_from_contains place-total (record { keys = places_by d pages }) (record { keys = keys_of (rows_of_page d rows) }) (sorted-by d pages sorted) (sorted-rows d rows ordered)
    (λ p. any-by d p pages ∙ paged (record { by = d; place = p }) ∙ sym (any-rows d p rows ordered)) (λ p q h. place-exact p q (ap is_eq h)) in
    ap (flat_map (λ (x : Ending). map pair_of (option_to_list (row_at rows x.place)))) (between-by d pages)
    ∙ sym (flat_map-map (λ (p : Place). map pair_of (option_to_list (row_at rows p))) (λ (x : Ending). x.place) (filter (λ (x : Ending). x.by == d) pages))
    ∙ ap (flat_map (λ (p : Place). map pair_of (option_to_list (row_at rows p)))) one
    ∙ read-rows (λ p. row_at rows p) d rows (all-rows place-total (λ (r : Place × Entry). row_at rows r.0 ≡ Some r.1) rows ordered (λ k x there. there))
