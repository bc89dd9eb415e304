-- The ending by a moment that is first, and the entry that is due first.
use Rattle.std.proofs.Common.{◌≡◌, ◌⊎◌, inl, inr, ℕ, zero, suc, ◌<◌, ◌≤◌, true, false, not, List, [], ◌∷◌, length, get_or, slice_get, Option, Some, None, refl, sym, ◌∙◌, ap, subst, arith, true≢false}
use Rattle.std.specs.List.{AllByRecursion}
use Rattle.std.specs.List.Sorted.{IsStrictlySortedBy}
use Rattle.std.specs.Map.{keys_of, values_of}
use Rattle.std.specs.Option.{option_map, option_and_then}
use Rattle.std.specs.BTreeMap.{is_at}
use Rattle.std.specs.BTreeMap.Range.{entries_between, range_contains}
use Rattle.std.specs.declared.ops.Bound.TheVariants.{Excluded, Unbounded}
use Rattle.std.specs.Ordering.{nat_cmp, ordering_then, ordering_reverse, is_gt, is_le}
use Rattle.std.specs.Cmp.{eq_by_cmp_equiv}
use Rattle.std.specs.declared.cmp.Ordering.{Ordering}
use Rattle.std.specs.declared.cmp.Ordering.TheVariants.{Less, Equal, Greater}
use Rattle.std.proofs.lemmas.Bool.{cases_lt}
use Rattle.std.proofs.lemmas.Bool.Decides.{nat_tests}
use Rattle.std.proofs.lemmas.Cmp.{ranked, tied_itself}
use Rattle.std.proofs.lemmas.Map.Entries.{lookup_from_place, place_from_lookup}
use Rattle.std.proofs.lemmas.Map.Keys.{IsDistinct-from_sorted, Less-from_sorted, sorted_head, sorted_tail}
use Rattle.std.proofs.lemmas.Option.{slice_get-map, slice_get_within, get_or_from_slice_get}
use Rattle.pe_store.specs.declared.entry.Entry.{Entry}
use Rattle.pe_store.specs.declared.key.Life.{Life}
use Rattle.pe_store.specs.declared.key.Life.TheVariants as life
use Rattle.pe_store.specs.declared.place.Place.{Place}
use Rattle.pe_store.specs.declared.place.Ending.{Ending}
use Rattle.pe_store.specs.Due.{moment_of, moment_at, IsDue, IsDueEntry, IsFirstEnd}
use Rattle.pe_store.specs.Places.{place_cmp, ending_cmp, has_ending, has_life, is_moment_of, AreEndings, PlacedEntries, row_at}
use Rattle.pe_store.proofs.Numbered.{place-total, place-exact}

-- ---- places in the order of the store and places in the list

pub row-at-index : (rows : PlacedEntries) (i : ℕ) (p : Place) (e : Entry) → IsStrictlySortedBy place_cmp (keys_of rows) → slice_get rows i ≡ Some (p, e) → row_at rows p ≡ Some e
row-at-index rows i p e s h = lookup_from_place (eq_by_cmp_equiv place-total) rows i p e (IsDistinct-from_sorted place_cmp (keys_of rows) s) h

pub index-of-row : (rows : PlacedEntries) (p : Place) (e : Entry) → row_at rows p ≡ Some e → (i : ℕ) × (slice_get rows i ≡ Some (p, e))
index-of-row rows p e h =
    let found = place_from_lookup (is_at (place_cmp p)) rows e h in
    (found.0, subst (λ (k : Place). slice_get rows found.0 ≡ Some (k, e)) (sym (place-exact p found.1 found.3)) found.2)

pub row-of-value : (rows : PlacedEntries) (i : ℕ) (e : Entry) → slice_get (values_of rows) i ≡ Some e → (p : Place) × (slice_get rows i ≡ Some (p, e))
row-of-value rows i e h = by_row (slice_get rows i) refl (sym (slice_get-map (λ (r : Place × Entry). r.1) rows i) ∙ h)
  where
    by_row : (o : Option (Place × Entry)) → slice_get rows i ≡ o → option_map (λ (r : Place × Entry). r.1) o ≡ Some e → (p : Place) × (slice_get rows i ≡ Some (p, e))
    by_row None is k = absurd cc
    by_row (Some r) is k = let one : r.1 ≡ e = cc in (r.0, is ∙ ap (λ (x : Entry). let o : Option (Place × Entry) = Some (r.0, x) in o) one)

pub value-of-row : (rows : PlacedEntries) (i : ℕ) (p : Place) (e : Entry) → slice_get rows i ≡ Some (p, e) → slice_get (values_of rows) i ≡ Some e
value-of-row rows i p e h = slice_get-map (λ (r : Place × Entry). r.1) rows i ∙ ap (option_map (λ (r : Place × Entry). r.1)) h

key-of-row : (rows : PlacedEntries) (i : ℕ) (p : Place) (e : Entry) → slice_get rows i ≡ Some (p, e) → slice_get (keys_of rows) i ≡ Some p
key-of-row rows i p e h = slice_get-map (λ (r : Place × Entry). r.0) rows i ∙ ap (option_map (λ (r : Place × Entry). r.0)) h

pub in-order : (rows : PlacedEntries) (i j : ℕ) (p q : Place) (e f : Entry) → IsStrictlySortedBy place_cmp (keys_of rows) → slice_get rows i ≡ Some (p, e) → slice_get rows j ≡ Some (q, f) → i < j
    → place_cmp p q ≡ Less
in-order rows i j p q e f s at-i at-j lt =
    let first : get_or (keys_of rows) i p ≡ p = get_or_from_slice_get (keys_of rows) i p p (key-of-row rows i p e at-i) in
    let second : get_or (keys_of rows) j p ≡ q = get_or_from_slice_get (keys_of rows) j q p (key-of-row rows j q f at-j) in
    subst (λ (x : Place). place_cmp x q ≡ Less) first
    (subst (λ (x : Place). place_cmp (get_or (keys_of rows) i p) x ≡ Less) second
    (Less-from_sorted place_cmp (keys_of rows) i j p s lt (slice_get_within (keys_of rows) j q (key-of-row rows j q f at-j))))

not-behind : (p q : Place) → place_cmp q p ≡ Less → is_gt (place_cmp p q) ≡ false → ⊥
not-behind p q less low =
    let greater : place_cmp p q ≡ Greater = place-total.antisymm p q ∙ ap ordering_reverse less in
    let yes : is_gt (place_cmp p q) ≡ true = ap is_gt greater in
    true≢false (sym yes ∙ low)

-- ---- the moments

pub moment-is : (l : Life) (m : ℕ) → moment_of l ≡ Some m → l ≡ life.Until m
moment-is (life.Until end) m h = let one : end ≡ m = cc in ap life.Until one
moment-is life.Forever m h = absurd cc
moment-is (life.Page d) m h = absurd cc

row-ends : (o : Option Entry) (m : ℕ) → has_life is_moment_of m o ≡ true → (e : Entry) × (o ≡ Some e) × (e.life ≡ life.Until m)
row-ends None m h = absurd (true≢false (sym h))
row-ends (Some e) m h = by_life e.life refl h
  where
    by_life : (l : Life) → e.life ≡ l → is_moment_of m l ≡ true → (x : Entry) × (Some e ≡ Some x) × (x.life ≡ life.Until m)
    by_life life.Forever is k = absurd (true≢false (sym k))
    by_life (life.Page d) is k = absurd (true≢false (sym k))
    by_life (life.Until end) is k = let one : end ≡ m = grind (arith, nat_tests) in (e, refl, is ∙ ap life.Until one)

at-moment : (m : ℕ) → is_moment_of m (life.Until m) ≡ true
at-moment m = grind (arith, nat_tests)

pub at-value : (es : List Entry) (i m : ℕ) → moment_at es i ≡ Some m → (e : Entry) × (slice_get es i ≡ Some e) × (e.life ≡ life.Until m)
at-value es i m h = by_value (slice_get es i) refl h
  where
    by_value : (o : Option Entry) → slice_get es i ≡ o → option_and_then (λ (e : Entry). moment_of e.life) o ≡ Some m → (e : Entry) × (slice_get es i ≡ Some e) × (e.life ≡ life.Until m)
    by_value None is k = absurd cc
    by_value (Some e) is k = (e, is, moment-is e.life m k)

pub ends-at : (es : List Entry) (i m : ℕ) (e : Entry) → slice_get es i ≡ Some e → e.life ≡ life.Until m → moment_at es i ≡ Some m
ends-at es i m e at is = ap (option_and_then (λ (x : Entry). moment_of x.life)) at ∙ ap moment_of is

-- of two endings, the first is by an earlier moment, or by the same and at no later place
compared : (m n : ℕ) (o : Ordering) → is_gt (ordering_then (nat_cmp m n) o) ≡ false → (m < n) ⊎ ((m ≡ n) × (is_gt o ≡ false))
compared m n o h = by_case (nat_cmp m n) refl (ranked m n (nat_cmp m n) refl) h
  where
    by_case : (r : Ordering) → nat_cmp m n ≡ r → Rattle.std.specs.Ordering.MatchOrdering r (m < n) (m ≡ n) (n < m) → is_gt (ordering_then r o) ≡ false → (m < n) ⊎ ((m ≡ n) × (is_gt o ≡ false))
    by_case Less is k low = inl k
    by_case Equal is k low = inr (k, low)
    by_case Greater is k low = absurd (true≢false low)

module _ (rows : PlacedEntries) (moments : List Ending) (ordered : IsStrictlySortedBy place_cmp (keys_of rows)) (timed : AreEndings is_moment_of (λ p. row_at rows p) moments) where
  -- an entry that ends by a moment has its ending
  ending-of : (i m : ℕ) → moment_at (values_of rows) i ≡ Some m
      → (p : Place) × (e : Entry) × (slice_get rows i ≡ Some (p, e)) × (has_ending moments (record { by = m; place = p }) ≡ true)
  unfolding AreEndings
  ending-of i m h =
      let value = at-value (values_of rows) i m h in
      let at = row-of-value rows i value.0 value.1 in
      let row = row-at-index rows i at.0 value.0 ordered at.1 in
      (at.0, value.0, at.1, timed (record { by = m; place = at.0 }) ∙ ap (has_life is_moment_of m) row ∙ ap (is_moment_of m) value.2 ∙ at-moment m)

  pub no-end : (upto : ℕ) → moments ≡ [] → IsDue (values_of rows) upto None
  unfolding has_ending
  no-end upto none i m h =
      let of = ending-of i m h in
      absurd (true≢false (sym of.3 ∙ ap (λ (ends : List Ending). has_ending ends (record { by = m; place = of.0 })) none))

  pub first-end : (first : Ending) → has_ending moments first ≡ true → ((x : Ending) → has_ending moments x ≡ true → is_gt (ending_cmp first x) ≡ false) → IsFirstEnd rows first
  unfolding AreEndings
  first-end first member lowest = record {
    place = at.0;
    entry = row.0;
    there = at.1;
    row = row.1;
    ends = row.2;
    least = by_least;
  }
    where
      row : (e : Entry) × (row_at rows first.place ≡ Some e) × (e.life ≡ life.Until first.by)
      row = row-ends (row_at rows first.place) first.by (sym (timed first) ∙ member)

      at : (i : ℕ) × (slice_get rows i ≡ Some (first.place, row.0))
      at = index-of-row rows first.place row.0 row.1

      by_least : (i m : ℕ) → moment_at (values_of rows) i ≡ Some m → (first.by < m) ⊎ ((first.by ≡ m) × (at.0 ≤ i))
      by_least i m h = elim (compared first.by m (place_cmp first.place of.0) (lowest (record { by = m; place = of.0 }) of.3)) [ inl lt ↦ inl lt | inr k ↦ inr (k.0, behind k.1) ]
        where
          of : (p : Place) × (e : Entry) × (slice_get rows i ≡ Some (p, e)) × (has_ending moments (record { by = m; place = p }) ≡ true)
          of = ending-of i m h

          behind : is_gt (place_cmp first.place of.0) ≡ false → at.0 ≤ i
          behind low = elim (cases_lt i at.0) [ inl lt ↦ absurd (not-behind first.place of.0 (in-order rows i at.0 of.0 first.place of.1 row.0 ordered of.2 at.1 lt) low) | inr le ↦ le ]

-- ---- what is due

pub due-first : (rows : PlacedEntries) (first : Ending) (is : IsFirstEnd rows first) (upto i : ℕ) → first.by ≤ upto → i ≡ is.place → IsDue (values_of rows) upto (Some (first.by, i))
due-first rows first is upto i le at = (
  ap (moment_at (values_of rows)) at ∙ ends-at (values_of rows) is.place first.by is.entry (value-of-row rows is.place first.place is.entry is.there) is.ends,
  le,
  subst (λ (n : ℕ). (other moment : ℕ) → moment_at (values_of rows) other ≡ Some moment → (first.by < moment) ⊎ ((first.by ≡ moment) × (n ≤ other))) (sym at) is.least,
)

pub not-due : (rows : PlacedEntries) (first : Ending) (upto : ℕ) → IsFirstEnd rows first → upto < first.by → IsDue (values_of rows) upto None
not-due rows first upto is lt i m h = elim (is.least i m h) [ inl above ↦ omega arith | inr same ↦ omega (arith, same.0) ]

pub due-entry : (rows : PlacedEntries) (first : Ending) (e : Entry) → IsFirstEnd rows first → (upto : ℕ) → first.by ≤ upto → row_at rows first.place ≡ Some e → IsDueEntry (values_of rows) upto first.by e
due-entry rows first e is upto le there =
    let one : is.entry ≡ e = cc in (
      is.place,
      due-first rows first is upto is.place le refl,
      value-of-row rows is.place first.place is.entry is.there ∙ ap Some one,
    )

-- ---- how many entries stand before a place

none-before : (p : Place) (rows : PlacedEntries) → AllByRecursion (λ (k : Place). place_cmp p k ≡ Less) (keys_of rows) → entries_between place_cmp Unbounded (Excluded p) rows ≡ []
none-before p [] h = refl
none-before p (r ∷ rows) h =
    let out : range_contains place_cmp Unbounded (Excluded p) r.0 ≡ false = ap (λ (o : Ordering). not (is_le o)) h.0 in
    rw out (none-before p rows h.1)

pub count-before : (rows : PlacedEntries) (i : ℕ) (p : Place) (e : Entry) → IsStrictlySortedBy place_cmp (keys_of rows) → slice_get rows i ≡ Some (p, e) → length (entries_between place_cmp Unbounded (Excluded p) rows) ≡ i
count-before [] i p e s h = cc
count-before (r ∷ rows) zero p e s h =
    let here : r ≡ (p, e) = cc in
    let at : r.0 ≡ p = ap (λ (x : Place × Entry). x.0) here in
    let out : range_contains place_cmp Unbounded (Excluded p) r.0 ≡ false = ap (λ (k : Place). not (is_le (place_cmp p k))) at ∙ ap (λ (o : Ordering). not (is_le o)) (tied_itself place-total p) in
    let later : AllByRecursion (λ (k : Place). place_cmp p k ≡ Less) (keys_of rows) =
    subst (λ (x : Place). AllByRecursion (λ (k : Place). place_cmp x k ≡ Less) (keys_of rows)) at (sorted_head place_cmp r.0 (keys_of rows) s) in
    rw out (ap length (none-before p rows later))
count-before (r ∷ rows) (suc i) p e s h =
    let less : place_cmp r.0 p ≡ Less = in-order (r ∷ rows) 0 (suc i) r.0 p r.1 e s refl h (omega arith) in
    let greater : place_cmp p r.0 ≡ Greater = place-total.antisymm p r.0 ∙ ap ordering_reverse less in
    let within : range_contains place_cmp Unbounded (Excluded p) r.0 ≡ true = ap (λ (o : Ordering). not (is_le o)) greater in
    rw within (ap suc (count-before rows i p e (sorted_tail place_cmp r.0 (keys_of rows) s) h))
