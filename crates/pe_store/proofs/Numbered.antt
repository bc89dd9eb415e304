-- Rows at places.
use Rattle.std.proofs.Common.{◌≡◌, ℕ, ◌<◌, ◌≤◌, Bool, true, false, cond, Option, None, Some, refl, sym, ◌∙◌, ap, arith, subst}
use Rattle.std.specs.Bool.{Decides}
use Rattle.std.specs.BTreeMap.{is_at}
use Rattle.std.specs.Ordering.{is_eq}
use Rattle.std.specs.Cmp.{IsTotalOrder, nat_cmp_total, both_ways}
use Rattle.std.specs.Option.{option_map}
use Rattle.std.proofs.lemmas.Cmp.{tied_itself, on_total, then_total}
use Rattle.std.proofs.lemmas.Bool.Decides.{nat_tests}
use Rattle.pe_features.specs.Features.{feature_number}
use Rattle.pe_store.specs.declared.entry.Entry.{Entry}
use Rattle.pe_store.specs.declared.place.Place.{Place}
use Rattle.pe_store.specs.Entries.{pair_of}
use Rattle.pe_store.specs.Pairs.{Pair, is_same_pair}
use Rattle.pe_store.specs.Places.{place_cmp, IsNumbered}
use Rattle.pe_store.proofs.Lists.{same-turned}

pub place-total : IsTotalOrder place_cmp
place-total = then_total (on_total (λ (p : Place). p.feature) nat_cmp_total) (on_total (λ (p : Place). p.serial) nat_cmp_total)

same-parts : (p r : Place) → is_at (place_cmp p) r ≡ true → (p.feature ≡ r.feature) × (p.serial ≡ r.serial)
same-parts p r h = (grind (arith, nat_tests), grind (arith, nat_tests))

pub place-parts : (p r : Place) → p.feature ≡ r.feature → p.serial ≡ r.serial → p ≡ r
place-parts p r f s =
    let one : ◌≡◌ {A = Place} p (record { feature = r.feature; serial = p.serial }) = ap (λ (n : ℕ). let x : Place = record { feature = n; serial = p.serial } in x) f in
    one ∙ ap (λ (n : ℕ). let x : Place = record { feature = r.feature; serial = n } in x) s

pub place-exact : (p r : Place) → is_at (place_cmp p) r ≡ true → p ≡ r
place-exact p r h = place-parts p r (same-parts p r h).0 (same-parts p r h).1

pub place-itself : (p r : Place) → p ≡ r → is_at (place_cmp p) r ≡ true
place-itself p r e = subst (λ (x : Place). is_at (place_cmp p) x ≡ true) e (ap is_eq (tied_itself place-total p))

module _ (decides : (p q : Pair) → Decides (is_same_pair p q) (p ≡ q)) where
  -- the rows at the place are those of the pair
  abbrev pub IsPlaceOf : (Place → Option Entry) → Place → Pair → Type 0
  IsPlaceOf rows p q = (r : Place) (e : Entry) → rows r ≡ Some e → is_at (place_cmp p) r ≡ is_same_pair (pair_of e) q

  module _ (rows : Place → Option Entry) (numbers : Pair → Option ℕ) (next : ℕ) (is : IsNumbered rows numbers next) where
    -- the place of a pair that has a number
    pub place-known : (q : Pair) (n : ℕ) → numbers q ≡ Some n → IsPlaceOf rows (record { feature = feature_number q.0; serial = n }) q
    place-known q n h r e there =
        let p : Place = record { feature = feature_number q.0; serial = n } in
        let own = is.own r e there in
        let known = is.known q n h in
        both_ways (is_at (place_cmp p) r) (is_same_pair (pair_of e) q)
        (λ here.
        let one : p ≡ r = place-exact p r here in
        let found : rows r ≡ Some known.0 = subst (λ (x : Place). rows x ≡ Some known.0) one known.1 in
        let e-is : e ≡ known.0 = cc in
        (decides (pair_of e) q).1 (ap pair_of e-is ∙ known.2))
        (λ pairs.
        let one : pair_of e ≡ q = (decides (pair_of e) q).0 pairs in
        let number : numbers q ≡ Some r.serial = subst (λ (x : Pair). numbers x ≡ Some r.serial) one own.1 in
        let serial : n ≡ r.serial = cc in
        let feature : feature_number q.0 ≡ r.feature = sym (own.0 ∙ ap (λ (x : Pair). feature_number x.0) one) in
        let place : p ≡ r = place-parts p r feature serial in
        place-itself p r place)

    -- a place with the next number has no row
    pub place-fresh : (f : ℕ) (r : Place) (e : Entry) → rows r ≡ Some e → is_at (place_cmp (record { feature = f; serial = next })) r ≡ false
    place-fresh f r e there = let own = is.own r e there in let low : r.serial < next = own.2 in grind (arith, nat_tests)

    -- a pair without a number has no row
    pub pair-fresh : (q : Pair) (r : Place) (e : Entry) → numbers q ≡ None → rows r ≡ Some e → is_same_pair (pair_of e) q ≡ false
    pair-fresh q r e none there = by_test (is_same_pair (pair_of e) q) refl
      where
        by_test : (b : Bool) → is_same_pair (pair_of e) q ≡ b → is_same_pair (pair_of e) q ≡ false
        by_test false is-not = is-not
        by_test true pairs =
            let one : pair_of e ≡ q = (decides (pair_of e) q).0 pairs in
            let number : numbers q ≡ Some r.serial = subst (λ (x : Pair). numbers x ≡ Some r.serial) one (is.own r e there).1 in
            let both : ◌≡◌ {A = Option ℕ} None (Some r.serial) = sym none ∙ number in
            absurd cc

    -- one row that changes with its number
    pub changed : (p : Place) (q : Pair) (w : Option Entry) (rows' : Place → Option Entry) (numbers' : Pair → Option ℕ) (next' : ℕ)
        → IsPlaceOf rows p q → p.feature ≡ feature_number q.0 → ((e : Entry) → w ≡ Some e → pair_of e ≡ q) → next ≤ next' → p.serial < next'
        → ((r : Place) → rows' r ≡ cond (is_at (place_cmp p) r) w (rows r))
        → ((r : Pair) → numbers' r ≡ cond (is_same_pair q r) (option_map (λ (e : Entry). p.serial) w) (numbers r))
        → IsNumbered rows' numbers' next'
    changed p q w rows' numbers' next' place feature pair later low at-rows at-numbers = record { own = own; known = known }
      where
        own : (r : Place) (e : Entry) → rows' r ≡ Some e → (r.feature ≡ feature_number e.feature) × (numbers' (pair_of e) ≡ Some r.serial) × (r.serial < next')
        own r e there = by_test (is_at (place_cmp p) r) refl (at-rows r)
          where
            by_test : (b : Bool) → is_at (place_cmp p) r ≡ b → rows' r ≡ cond b w (rows r) → (r.feature ≡ feature_number e.feature) × (numbers' (pair_of e) ≡ Some r.serial) × (r.serial < next')
            by_test true here row =
                let one : p ≡ r = place-exact p r here in
                let w-is : w ≡ Some e = sym row ∙ there in
                let pair-is : pair_of e ≡ q = pair e w-is in
                let test : is_same_pair q (pair_of e) ≡ true = (decides q (pair_of e)).1 (sym pair-is) in
                let number : numbers' (pair_of e) ≡ Some p.serial = at-numbers (pair_of e) ∙ rw (test, w-is) refl in
                let f : r.feature ≡ p.feature = ap (λ (x : Place). x.feature) (sym one) in
                let s : p.serial ≡ r.serial = ap (λ (x : Place). x.serial) one in
                (f ∙ feature ∙ ap (λ (x : Pair). feature_number x.0) (sym pair-is), number ∙ ap Some s, omega arith)
            by_test false apart row =
                let there' : rows r ≡ Some e = sym row ∙ there in
                let old = is.own r e there' in
                let test : is_same_pair q (pair_of e) ≡ false = same-turned decides q (pair_of e) ∙ sym (place r e there') ∙ apart in
                (old.0, at-numbers (pair_of e) ∙ rw test old.1, omega (arith, old.2))

        known : (r : Pair) (n : ℕ) → numbers' r ≡ Some n → (e : Entry) × (rows' (record { feature = feature_number r.0; serial = n }) ≡ Some e) × (pair_of e ≡ r)
        known r n there = by_test (is_same_pair q r) refl (at-numbers r)
          where
            by_some : (o : Option Entry) → w ≡ o → q ≡ r → Some n ≡ option_map (λ (e : Entry). p.serial) o → (e : Entry) × (rows' (record { feature = feature_number r.0; serial = n }) ≡ Some e) × (pair_of e ≡ r)
            by_some None w-is one h = absurd cc
            by_some (Some e) w-is one h =
                let s : n ≡ p.serial = cc in
                let f : feature_number r.0 ≡ p.feature = ap (λ (x : Pair). feature_number x.0) (sym one) ∙ sym feature in
                let place-is : p ≡ record { feature = feature_number r.0; serial = n } = place-parts p (record { feature = feature_number r.0; serial = n }) (sym f) (sym s) in
                (e, at-rows (record { feature = feature_number r.0; serial = n }) ∙ rw (place-itself p (record { feature = feature_number r.0; serial = n }) place-is) w-is, pair e w-is ∙ one)

            by_test : (b : Bool) → is_same_pair q r ≡ b → numbers' r ≡ cond b (option_map (λ (e : Entry). p.serial) w) (numbers r) → (e : Entry) × (rows' (record { feature = feature_number r.0; serial = n }) ≡ Some e) × (pair_of e ≡ r)
            by_test true here number = by_some w refl ((decides q r).0 here) (sym there ∙ number)
            by_test false apart number =
                let old = is.known r n (sym number ∙ there) in
                let test : is_at (place_cmp p) (record { feature = feature_number r.0; serial = n }) ≡ false =
                place (record { feature = feature_number r.0; serial = n }) old.0 old.1 ∙ ap (λ (x : Pair). is_same_pair x q) old.2 ∙ same-turned decides r q ∙ apart in
                (old.0, at-rows (record { feature = feature_number r.0; serial = n }) ∙ rw test old.1, old.2)
