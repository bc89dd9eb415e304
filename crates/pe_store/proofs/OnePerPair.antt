-- Lists with one entry for each pair.
use Rattle.std.proofs.Common.{◌≡◌, ℕ, Bool, true, false, List, [], ◌∷◌, Option, Some, None, refl, sym, ◌∙◌, ap, cond, true≢false}
use Rattle.std.specs.Bool.{Decides}
use Rattle.std.specs.List.{find, AllByRecursion}
use Rattle.std.specs.List.Sorted.{IsStrictlySortedBy}
use Rattle.std.specs.Map.{keys_of, values_of}
use Rattle.std.specs.BTreeMap.{is_at}
use Rattle.std.specs.Ordering.{is_eq}
use Rattle.std.specs.declared.cmp.Ordering.TheVariants.{Less}
use Rattle.std.proofs.lemmas.Map.Keys.{sorted_head, sorted_tail}
use Rattle.pe_features.specs.Features.{feature_number}
use Rattle.pe_store.specs.declared.entry.Entry.{Entry}
use Rattle.pe_store.specs.declared.place.Place.{Place}
use Rattle.pe_store.specs.declared.place.Ending.{Ending}
use Rattle.pe_store.specs.Entries.{pair_of, is_of, entry_of, IsOnePerPair}
use Rattle.pe_store.specs.Numbers.{KeyNumbers, number_of}
use Rattle.pe_store.specs.Pairs.{Pair, is_same_pair}
use Rattle.pe_store.specs.Places.{place_cmp, PlacedEntries, IsRows}
use Rattle.pe_store.proofs.Lists.{same-self}
use Rattle.pe_store.proofs.Numbered.{place-total, place-parts, place-itself}
use Rattle.pe_store.proofs.RowChanges.{none-found}
use Rattle.pe_store.proofs.Sorted.{all-rows}

pub all-weaker : {X : Type 0} (P Q : X → Type 0) (xs : List X) → ((x : X) → P x → Q x) → AllByRecursion P xs → AllByRecursion Q xs
all-weaker P Q [] f h = tt
all-weaker P Q (x ∷ xs) f h = (f x h.0, all-weaker P Q xs f h.1)

module _ (pairs : (p q : Pair) → Decides (is_same_pair p q) (p ≡ q)) where
  -- each entry is that of its pair
  pub own-each : (es : List Entry) → IsOnePerPair es → AllByRecursion (λ (e : Entry). entry_of es (pair_of e) ≡ Some e) es
  unfolding entry_of
  own-each [] one = tt
  own-each (e ∷ es) one = (
    rw (same-self pairs (pair_of e)) refl,
    all-weaker (λ (x : Entry). find (is_of (pair_of x)) es ≡ Some x) (λ (x : Entry). cond (is_same_pair (pair_of e) (pair_of x)) (Some e) (find (is_of (pair_of x)) es) ≡ Some x) es later (own-each es one.1),
  )
    where
      later : (x : Entry) → find (is_of (pair_of x)) es ≡ Some x → cond (is_same_pair (pair_of e) (pair_of x)) (Some e) (find (is_of (pair_of x)) es) ≡ Some x
      later x here = by_same (is_same_pair (pair_of e) (pair_of x)) refl
        where
          by_same : (b : Bool) → is_same_pair (pair_of e) (pair_of x) ≡ b → cond b (Some e) (find (is_of (pair_of x)) es) ≡ Some x
          by_same false is = here
          by_same true is =
              let none : find (is_of (pair_of x)) es ≡ None = ap (λ (q : Pair). find (is_of q) es) (sym ((pairs (pair_of e) (pair_of x)).0 is)) ∙ one.0 in
              absurd cc

  -- entries that stand where their pairs' numbers say are one for each pair
  module _ (number : Pair → Option ℕ) where
    abbrev IsOwn : Place × Entry → Type 0
    IsOwn r = (r.0.feature ≡ feature_number r.1.feature) × (number (pair_of r.1) ≡ Some r.0.serial)

    apart : (r : Place × Entry) (rows : PlacedEntries) → IsOwn r → AllByRecursion IsOwn rows → AllByRecursion (λ (k : Place). place_cmp r.0 k ≡ Less) (keys_of rows)
        → AllByRecursion (λ (x : Place × Entry). is_of (pair_of r.1) x.1 ≡ false) rows
    apart r [] own owns above = tt
    apart r (x ∷ rows) own owns above = (by_test (is_same_pair (pair_of x.1) (pair_of r.1)) refl, apart r rows own owns.1 above.1)
      where
        by_test : (b : Bool) → is_same_pair (pair_of x.1) (pair_of r.1) ≡ b → b ≡ false
        by_test false is = refl
        by_test true is =
            let same : pair_of x.1 ≡ pair_of r.1 = (pairs (pair_of x.1) (pair_of r.1)).0 is in
            let feature : r.0.feature ≡ x.0.feature = own.0 ∙ sym (owns.0.0 ∙ ap (λ (q : Pair). feature_number q.0) same) in
            let numbers : number (pair_of x.1) ≡ number (pair_of r.1) = ap number same in
            let serials : Some x.0.serial ≡ Some r.0.serial = sym owns.0.1 ∙ numbers ∙ own.1 in
            let serial : r.0.serial ≡ x.0.serial = cc in
            let equal : is_at (place_cmp r.0) x.0 ≡ true = place-itself r.0 x.0 (place-parts r.0 x.0 feature serial) in
            absurd (true≢false (sym equal ∙ ap is_eq above.0))

    one-each : (rows : PlacedEntries) → IsStrictlySortedBy place_cmp (keys_of rows) → AllByRecursion IsOwn rows → IsOnePerPair (values_of rows)
    unfolding entry_of
    one-each [] s owns = tt
    one-each (r ∷ rows) s owns = (
      none-found (pair_of r.1) rows (apart r rows owns.0 owns.1 (sorted_head place_cmp r.0 (keys_of rows) s)),
      one-each rows (sorted_tail place_cmp r.0 (keys_of rows) s) owns.1,
    )

pub one-per-pair : (pairs : (p q : Pair) → Decides (is_same_pair p q) (p ≡ q)) (rows : PlacedEntries) (serials : List KeyNumbers) (moments pages : List Ending) (next : ℕ) → IsRows rows serials moments pages next
    → IsOnePerPair (values_of rows)
one-per-pair pairs rows serials moments pages next is =
    one-each pairs (λ q. number_of serials q) rows is.ordered
    (all-rows place-total (λ (r : Place × Entry). (r.0.feature ≡ feature_number r.1.feature) × (number_of serials (pair_of r.1) ≡ Some r.0.serial)) rows is.ordered
    (λ k x there. let own = is.numbered.own k x there in (own.0, own.1)))
