-- What the rows of a store say of the list of its entries, and what a change of one row does.
use Rattle.std.proofs.Common.{◌≡◌, ℕ, ◌+◌, ◌<◌, Bool, true, false, ◌&&◌, ◌||◌, not, cond, List, [], ◌∷◌, filter, Option, Some, None, refl, sym, ◌∙◌, ap, subst, arith, true≢false, nat_lt}
use Rattle.std.specs.Bool.{Decides}
use Rattle.std.specs.List.{find, AllByRecursion}
use Rattle.std.specs.List.Sorted.{IsStrictlySortedBy}
use Rattle.std.specs.Map.{keys_of, values_of, remove_entry, set_value}
use Rattle.std.specs.BTreeMap.{is_at, insert_entry}
use Rattle.std.specs.Ordering.{nat_cmp, ordering_then}
use Rattle.std.specs.declared.cmp.Ordering.TheVariants.{Less, Greater}
use Rattle.std.proofs.lemmas.Bool.Decides.{nat_tests}
use Rattle.pe_features.specs.Features.{feature_number}
use Rattle.pe_store.specs.declared.entry.Entry.{Entry}
use Rattle.pe_store.specs.declared.key.Life.{Life}
use Rattle.pe_store.specs.declared.place.Place.{Place}
use Rattle.pe_store.specs.declared.place.Ending.{Ending}
use Rattle.pe_store.specs.Entries.{pair_of, is_of, entry_of, without, put_entry}
use Rattle.pe_store.specs.Numbers.{KeyNumbers, number_of, HoldsNone, IsChangedFor}
use Rattle.pe_store.specs.Pairs.{Pair, is_same_pair}
use Rattle.pe_store.specs.Places.{place_cmp, is_same_place, has_ending, has_life, is_moment_of, is_page_of, PutsEnd, DropsEnd, ChangesEnd, AreEndings, PlacedEntries, row_at, IsNumbered, IsRows, HasRow}
use Rattle.pe_store.proofs.Endings.{ended-changed}
use Rattle.pe_store.proofs.Numbered.{place-total, place-exact, place-itself, place-parts, IsPlaceOf, place-known, place-fresh, pair-fresh, changed}
use Rattle.pe_store.proofs.Sorted.{put_sorted, all-rows, Agrees, find-agrees, remove-agrees, insert-fresh, set-agrees}

put-is : (n : Entry) (es : List Entry) → put_entry n es ≡ put_sorted (is_of (pair_of n)) (λ (e : Entry). nat_lt (feature_number n.feature) (feature_number e.feature)) n es
unfolding put_entry
put-is n [] = refl
put-is n (e ∷ es) =
    ap (λ xs. cond (is_of (pair_of n) e) (n ∷ es) (cond (nat_lt (feature_number n.feature) (feature_number e.feature)) (n ∷ e ∷ es) (e ∷ xs))) (put-is n es)

found-of : (q : Pair) (es : List Entry) → find (is_of q) es ≡ entry_of es q
unfolding entry_of
found-of q es = refl

without-of : (q : Pair) (es : List Entry) → filter (λ e. not (is_of q e)) es ≡ without q es
unfolding without
without-of q es = refl

pub none-found : (q : Pair) (rows : PlacedEntries) → AllByRecursion (λ (r : Place × Entry). is_of q r.1 ≡ false) rows → find (is_of q) (values_of rows) ≡ None
none-found q [] h = refl
none-found q (r ∷ rows) h = rw h.0 (none-found q rows h.1)

above-is : (f g s n : ℕ) (p : Place) → p.feature ≡ g → p.serial < n → ordering_then (nat_cmp f p.feature) (nat_cmp n p.serial) ≡ cond (nat_lt f g) Less Greater
above-is f g s n p is low = grind (arith, nat_tests)

low-is : (f g pf kf ps ks : ℕ) → pf ≡ f → kf ≡ g → ordering_then (nat_cmp pf kf) (nat_cmp ps ks) ≡ Greater → nat_lt f g ≡ false
low-is f g pf kf ps ks fs gs h = grind (arith, nat_tests)

put-end : (s t h : Bool) → (s && t) || h ≡ (s && t) || (h && not (s && false))
put-end true true h = refl
put-end true false true = refl
put-end true false false = refl
put-end false t true = refl
put-end false t false = refl

drop-end : (s t h : Bool) → h && not (s && t) ≡ (s && false) || (h && not (s && t))
drop-end true t h = refl
drop-end false t h = refl

pub changed-back : (q : Pair) (w : Option ℕ) (s mid new : List KeyNumbers) → IsChangedFor q w s mid → IsChangedFor q None mid new → IsChangedFor q None s new
unfolding IsChangedFor
changed-back q w s mid new put dropped r =
    dropped r ∙ ap (λ (o : Option ℕ). cond (is_same_pair q r) None o) (put r) ∙ twice (is_same_pair q r)
  where
    twice : (b : Bool) → cond b None (cond b w (number_of s r)) ≡ cond b None (number_of s r)
    twice true = refl
    twice false = refl

module _ (pairs : (p q : Pair) → Decides (is_same_pair p q) (p ≡ q)) (rows : PlacedEntries) (serials : List KeyNumbers) (moments pages : List Ending) (next : ℕ) (is : IsRows rows serials moments pages next) where
  abbrev row : Place → Option Entry
  row p = row_at rows p

  abbrev number : Pair → Option ℕ
  number q = number_of serials q

  agrees : (p : Place) (q : Pair) → IsPlaceOf pairs row p q → Agrees place-total p (is_of q) rows
  agrees p q h = all-rows place-total (λ (r : Place × Entry). is_at (place_cmp p) r.0 ≡ is_of q r.1) rows is.ordered (λ k x e. h k x e)

  -- a row is at the place of its pair
  pub place-of : (p : Place) (e : Entry) → row p ≡ Some e → IsPlaceOf pairs row p (pair_of e)
  place-of p e there =
      let own = is.numbered.own p e there in
      let one : record { feature = feature_number e.feature; serial = p.serial } ≡ p = place-parts (record { feature = feature_number e.feature; serial = p.serial }) p (sym own.0) refl in
      subst (λ (x : Place). IsPlaceOf pairs row x (pair_of e)) one (place-known pairs row number next is.numbered (pair_of e) p.serial own.1)

  -- the row at a place is the entry of its pair
  pub found-at : (p : Place) (e : Entry) → row p ≡ Some e → entry_of (values_of rows) (pair_of e) ≡ Some e
  found-at p e there = sym (found-of (pair_of e) (values_of rows)) ∙ sym (find-agrees place-total p (is_of (pair_of e)) rows (agrees p (pair_of e) (place-of p e there))) ∙ there

  -- a pair without a number has no entry
  pub found-none : (q : Pair) → number q ≡ None → entry_of (values_of rows) q ≡ None
  found-none q none =
      sym (found-of q (values_of rows))
      ∙ none-found q rows (all-rows place-total (λ (r : Place × Entry). is_of q r.1 ≡ false) rows is.ordered (λ k x e. pair-fresh pairs row number next is.numbered q k x none e))

  -- a pair with a number has its entry at the place
  pub found-some : (q : Pair) (n : ℕ) → number q ≡ Some n
      → (e : Entry) × (row (record { feature = feature_number q.0; serial = n }) ≡ Some e) × (pair_of e ≡ q) × (entry_of (values_of rows) q ≡ Some e)
  found-some q n h =
      let known = is.numbered.known q n h in
      (known.0, known.1, known.2, ap (entry_of (values_of rows)) (sym known.2) ∙ found-at (record { feature = feature_number q.0; serial = n }) known.0 known.1)

  -- a pair without an entry has no number
  pub absent-number : (q : Pair) → entry_of (values_of rows) q ≡ None → number q ≡ None
  absent-number q none = by_number (number q) refl
    where
      by_number : (o : Option ℕ) → number q ≡ o → number q ≡ None
      by_number None h = h
      by_number (Some n) h =
          let found = found-some q n h in
          let both : ◌≡◌ {A = Option Entry} None (Some found.0) = sym none ∙ found.3 in
          absurd cc

  -- ---- a new entry
  module _ (new : Entry) (absent : number (pair_of new) ≡ None) where
    abbrev fresh : Place
    fresh = record { feature = feature_number new.feature; serial = next }

    fresh-none : row fresh ≡ None
    fresh-none = by_row (row fresh) refl
      where
        by_row : (o : Option Entry) → row fresh ≡ o → row fresh ≡ None
        by_row None h = h
        by_row (Some e) h = absurd (true≢false (sym (place-itself fresh fresh refl) ∙ place-fresh pairs row number next is.numbered (feature_number new.feature) fresh e h))

    pub list-added : values_of (insert_entry place_cmp rows fresh new) ≡ put_entry new (values_of rows)
    list-added =
        insert-fresh place-total fresh (is_of (pair_of new)) (λ (e : Entry). nat_lt (feature_number new.feature) (feature_number e.feature)) new rows
        (all-rows place-total
        (λ (r : Place × Entry). (place_cmp fresh r.0 ≡ cond (nat_lt (feature_number new.feature) (feature_number r.1.feature)) Less Greater) × (is_of (pair_of new) r.1 ≡ false)) rows is.ordered
        (λ k x e.
        let own = is.numbered.own k x e in
        (above-is (feature_number new.feature) (feature_number x.feature) 0 next k own.0 own.2, pair-fresh pairs row number next is.numbered (pair_of new) k x absent e)))
        ∙ sym (put-is new (values_of rows))

    put-ending : (test : ℕ → Life → Bool) (rows' : PlacedEntries) (old ends : List Ending) → ((r : Place) → row_at rows' r ≡ cond (is_at (place_cmp fresh) r) (Some new) (row r))
        → AreEndings test row old → PutsEnd test new.life fresh old ends → AreEndings test (λ p. row_at rows' p) ends
    unfolding PutsEnd
    put-ending test rows' old ends at-rows ended h =
        ended-changed test fresh (Some new) None row (λ p. row_at rows' p) old ends fresh-none at-rows (λ r e. place-exact fresh r e) ended
        (λ x. h x ∙ put-end (is_same_place fresh x.place) (test x.by new.life) (has_ending old x))

    pub rows-added : (rows' : PlacedEntries) (serials' : List KeyNumbers) (moments' pages' : List Ending) → IsStrictlySortedBy place_cmp (keys_of rows')
        → ((r : Place) → row_at rows' r ≡ cond (is_at (place_cmp fresh) r) (Some new) (row r)) → IsChangedFor (pair_of new) (Some next) serials serials'
        → PutsEnd is_moment_of new.life fresh moments moments' → PutsEnd is_page_of new.life fresh pages pages' → IsRows rows' serials' moments' pages' (next + 1)
    unfolding IsChangedFor
    rows-added rows' serials' moments' pages' ordered at-rows at-numbers put-moment put-page = record {
      ordered = ordered;
      numbered =
          changed pairs row number next is.numbered fresh (pair_of new) (Some new) (λ p. row_at rows' p) (λ q. number_of serials' q) (next + 1)
          (λ r e there. place-fresh pairs row number next is.numbered (feature_number new.feature) r e there ∙ sym (pair-fresh pairs row number next is.numbered (pair_of new) r e absent there))
          refl (λ e h. cc) (omega arith) (omega arith) at-rows at-numbers;
      timed = put-ending is_moment_of rows' moments moments' at-rows is.timed put-moment;
      paged = put-ending is_page_of rows' pages pages' at-rows is.paged put-page;
    }

    pub rows-kept : (serials' : List KeyNumbers) (moments' pages' : List Ending) → IsChangedFor (pair_of new) None serials serials'
        → AreEndings is_moment_of row moments' → AreEndings is_page_of row pages' → IsRows rows serials' moments' pages' next
    unfolding IsChangedFor
    rows-kept serials' moments' pages' at-numbers timed paged = record {
      ordered = is.ordered;
      numbered = by_entry;
      timed = timed;
      paged = paged;
    }
      where
        same-number : (r : Pair) → number_of serials' r ≡ number r
        same-number r = at-numbers r ∙ by_test (is_same_pair (pair_of new) r) refl
          where
            by_test : (b : Bool) → is_same_pair (pair_of new) r ≡ b → cond b None (number r) ≡ number r
            by_test true h = sym absent ∙ ap number ((pairs (pair_of new) r).0 h)
            by_test false h = refl

        by_entry : IsNumbered row (λ q. number_of serials' q) next
        by_entry = record {
          own = λ p e there. let own = is.numbered.own p e there in (own.0, same-number (pair_of e) ∙ own.1, own.2);
          known = λ q n h. is.numbered.known q n (sym (same-number q) ∙ h);
        }

    pub endings-undone : (test : ℕ → Life → Bool) (old mid ends : List Ending) → AreEndings test row old → PutsEnd test new.life fresh old mid → DropsEnd test new.life fresh mid ends → AreEndings test row ends
    unfolding AreEndings PutsEnd DropsEnd
    endings-undone test old mid ends ended put dropped x =
        dropped x ∙ ap (λ b. b && not (is_same_place fresh x.place && test x.by new.life)) (put x ∙ ap (λ b. (is_same_place fresh x.place && test x.by new.life) || b) (ended x))
        ∙ by_place (is_same_place fresh x.place) refl
      where
        gone : (t : Bool) → false ≡ (t || false) && not t
        gone true = refl
        gone false = refl

        stays : (h : Bool) → h && true ≡ h
        stays true = refl
        stays false = refl

        by_place : (b : Bool) → is_same_place fresh x.place ≡ b
            → ((b && test x.by new.life) || has_life test x.by (row x.place)) && not (b && test x.by new.life) ≡ has_life test x.by (row x.place)
        by_place true h =
            let none : row x.place ≡ None = ap row (sym (place-exact fresh x.place h)) ∙ fresh-none in
            rw none (sym (gone (test x.by new.life)))
        by_place false h = stays (has_life test x.by (row x.place))

    -- the same where the place is known to be that one
    module _ (p : Place) (at : p ≡ fresh) where
      pub list-added-at : values_of (insert_entry place_cmp rows p new) ≡ put_entry new (values_of rows)
      list-added-at = ap (λ (x : Place). values_of (insert_entry place_cmp rows x new)) at ∙ list-added

      pub none-at : row p ≡ None
      none-at = ap row at ∙ fresh-none

      pub rows-added-at : (rows' : PlacedEntries) (serials' : List KeyNumbers) (moments' pages' : List Ending) (next' : ℕ) → IsStrictlySortedBy place_cmp (keys_of rows')
          → ((r : Place) → row_at rows' r ≡ cond (is_at (place_cmp p) r) (Some new) (row r)) → IsChangedFor (pair_of new) (Some next) serials serials'
          → PutsEnd is_moment_of new.life p moments moments' → PutsEnd is_page_of new.life p pages pages' → next' ≡ next + 1 → IsRows rows' serials' moments' pages' next'
      rows-added-at rows' serials' moments' pages' next' ordered at-rows at-numbers put-moment put-page more =
          subst (λ (n : ℕ). IsRows rows' serials' moments' pages' n) (sym more)
          (rows-added rows' serials' moments' pages' ordered
          (subst (λ (x : Place). (r : Place) → row_at rows' r ≡ cond (is_at (place_cmp x) r) (Some new) (row r)) at at-rows) at-numbers
          (subst (λ (x : Place). PutsEnd is_moment_of new.life x moments moments') at put-moment) (subst (λ (x : Place). PutsEnd is_page_of new.life x pages pages') at put-page))

      pub rows-undone : (rows' : PlacedEntries) (mid serials' : List KeyNumbers) (moments-mid moments' pages-mid pages' : List Ending) → rows' ≡ rows
          → IsChangedFor (pair_of new) (Some next) serials mid → PutsEnd is_moment_of new.life p moments moments-mid → PutsEnd is_page_of new.life p pages pages-mid
          → IsChangedFor (pair_of new) None mid serials' → DropsEnd is_moment_of new.life p moments-mid moments' → DropsEnd is_page_of new.life p pages-mid pages'
          → IsRows rows' serials' moments' pages' next
      rows-undone rows' mid serials' moments-mid moments' pages-mid pages' same put put-moment put-page dropped drop-moment drop-page =
          subst (λ (es : PlacedEntries). IsRows es serials' moments' pages' next) (sym same)
          (rows-kept serials' moments' pages' (changed-back (pair_of new) (Some next) serials mid serials' put dropped)
          (endings-undone is_moment_of moments moments-mid moments' is.timed
          (subst (λ (x : Place). PutsEnd is_moment_of new.life x moments moments-mid) at put-moment) (subst (λ (x : Place). DropsEnd is_moment_of new.life x moments-mid moments') at drop-moment))
          (endings-undone is_page_of pages pages-mid pages' is.paged
          (subst (λ (x : Place). PutsEnd is_page_of new.life x pages pages-mid) at put-page) (subst (λ (x : Place). DropsEnd is_page_of new.life x pages-mid pages') at drop-page)))

      pub rows-refused : (serials' : List KeyNumbers) (moments' pages' : List Ending) → (number (pair_of new) ≡ None → IsChangedFor (pair_of new) None serials serials') → moments' ≡ moments → pages' ≡ pages
          → IsRows rows serials' moments' pages' next
      rows-refused serials' moments' pages' kept same-moments same-pages =
          rows-kept serials' moments' pages' (kept absent) (subst (λ (ends : List Ending). AreEndings is_moment_of row ends) (sym same-moments) is.timed)
          (subst (λ (ends : List Ending). AreEndings is_page_of row ends) (sym same-pages) is.paged)

  -- ---- an entry that is taken out
  module _ (p : Place) (e : Entry) (there : row p ≡ Some e) where
    pub list-taken : values_of (remove_entry (is_at (place_cmp p)) rows) ≡ without (pair_of e) (values_of rows)
    list-taken = remove-agrees place-total p (is_of (pair_of e)) rows is.ordered (agrees p (pair_of e) (place-of p e there)) ∙ without-of (pair_of e) (values_of rows)

    drop-ending : (test : ℕ → Life → Bool) (rows' : PlacedEntries) (old ends : List Ending) → ((r : Place) → row_at rows' r ≡ cond (is_at (place_cmp p) r) None (row r))
        → AreEndings test row old → DropsEnd test e.life p old ends → AreEndings test (λ r. row_at rows' r) ends
    unfolding DropsEnd
    drop-ending test rows' old ends at-rows ended h =
        ended-changed test p None (Some e) row (λ r. row_at rows' r) old ends there at-rows (λ r h. place-exact p r h) ended
        (λ x. h x ∙ drop-end (is_same_place p x.place) (test x.by e.life) (has_ending old x))

    pub rows-taken : (rows' : PlacedEntries) (serials' : List KeyNumbers) (moments' pages' : List Ending) → IsStrictlySortedBy place_cmp (keys_of rows')
        → ((r : Place) → row_at rows' r ≡ cond (is_at (place_cmp p) r) None (row r)) → IsChangedFor (pair_of e) None serials serials'
        → DropsEnd is_moment_of e.life p moments moments' → DropsEnd is_page_of e.life p pages pages' → IsRows rows' serials' moments' pages' next
    unfolding IsChangedFor
    rows-taken rows' serials' moments' pages' ordered at-rows at-numbers drop-moment drop-page = record {
      ordered = ordered;
      numbered =
          changed pairs row number next is.numbered p (pair_of e) None (λ r. row_at rows' r) (λ q. number_of serials' q) next
          (place-of p e there) (is.numbered.own p e there).0 (λ x h. absurd cc) (omega arith) (is.numbered.own p e there).2 at-rows at-numbers;
      timed = drop-ending is_moment_of rows' moments moments' at-rows is.timed drop-moment;
      paged = drop-ending is_page_of rows' pages pages' at-rows is.paged drop-page;
    }

  -- ---- an entry in the place of that of its pair
  module _ (p : Place) (new e : Entry) (there : row p ≡ Some e) (same : pair_of e ≡ pair_of new) where
    same-place : IsPlaceOf pairs row p (pair_of new)
    same-place = subst (λ (q : Pair). IsPlaceOf pairs row p q) same (place-of p e there)

    same-feature : p.feature ≡ feature_number new.feature
    same-feature = (is.numbered.own p e there).0 ∙ ap (λ (q : Pair). feature_number q.0) same

    pub list-replaced : values_of (set_value (is_at (place_cmp p)) rows new) ≡ put_entry new (values_of rows)
    list-replaced =
        set-agrees place-total p (is_of (pair_of new)) (λ (x : Entry). nat_lt (feature_number new.feature) (feature_number x.feature)) new rows e is.ordered
        (agrees p (pair_of new) same-place)
        (all-rows place-total (λ (r : Place × Entry). place_cmp p r.0 ≡ Greater → nat_lt (feature_number new.feature) (feature_number r.1.feature) ≡ false) rows is.ordered
        (λ k x h. λ g. low-is (feature_number new.feature) (feature_number x.feature) p.feature k.feature p.serial k.serial same-feature (is.numbered.own k x h).0 g))
        there
        ∙ sym (put-is new (values_of rows))

    change-ending : (test : ℕ → Life → Bool) (rows' : PlacedEntries) (old ends : List Ending) → ((r : Place) → row_at rows' r ≡ cond (is_at (place_cmp p) r) (Some new) (row r))
        → AreEndings test row old → ChangesEnd test e.life new.life p old ends → AreEndings test (λ r. row_at rows' r) ends
    unfolding ChangesEnd
    change-ending test rows' old ends at-rows ended h =
        ended-changed test p (Some new) (Some e) row (λ r. row_at rows' r) old ends there at-rows (λ r h. place-exact p r h) ended (λ x. h x)

    same-numbers : (r : Pair) → number r ≡ cond (is_same_pair (pair_of new) r) (Some p.serial) (number r)
    same-numbers r = by_test (is_same_pair (pair_of new) r) refl
      where
        by_test : (b : Bool) → is_same_pair (pair_of new) r ≡ b → number r ≡ cond b (Some p.serial) (number r)
        by_test true h = ap number (sym (same ∙ (pairs (pair_of new) r).0 h)) ∙ (is.numbered.own p e there).1
        by_test false h = refl

    pub rows-replaced : (rows' : PlacedEntries) (moments' pages' : List Ending) → IsStrictlySortedBy place_cmp (keys_of rows')
        → ((r : Place) → row_at rows' r ≡ cond (is_at (place_cmp p) r) (Some new) (row r))
        → ChangesEnd is_moment_of e.life new.life p moments moments' → ChangesEnd is_page_of e.life new.life p pages pages' → IsRows rows' serials moments' pages' next
    rows-replaced rows' moments' pages' ordered at-rows change-moment change-page = record {
      ordered = ordered;
      numbered =
          changed pairs row number next is.numbered p (pair_of new) (Some new) (λ r. row_at rows' r) number next
          same-place same-feature (λ x h. cc) (omega arith) (is.numbered.own p e there).2 at-rows same-numbers;
      timed = change-ending is_moment_of rows' moments moments' at-rows is.timed change-moment;
      paged = change-ending is_page_of rows' pages pages' at-rows is.paged change-page;
    }

pub replaced-pair : (rows self : PlacedEntries) (p : Place) (q : Pair) (e : Entry) → rows ≡ self → HasRow self p q → row_at rows p ≡ Some e → pair_of e ≡ q
replaced-pair rows self p q e same h there =
    let row : row_at self p ≡ Some e = subst (λ (es : PlacedEntries). row_at es p ≡ Some e) same there in
    let both : ◌≡◌ {A = Option Entry} (Some e) (Some h.entry) = sym row ∙ h.row in
    let one : e ≡ h.entry = cc in
    ap pair_of one ∙ h.of_pair

-- ---- nothing changes

pub rows-empty : (rows : PlacedEntries) (serials : List KeyNumbers) (moments pages : List Ending) → rows ≡ [] → IsStrictlySortedBy place_cmp (keys_of rows) → HoldsNone serials → moments ≡ [] → pages ≡ []
    → IsRows rows serials moments pages 0
unfolding HoldsNone AreEndings has_ending
rows-empty rows serials moments pages empty ordered none no-moments no-pages = record {
  ordered = ordered;
  numbered = record {
    own = λ p e h. let nothing : row_at rows p ≡ None = ap (λ (es : PlacedEntries). row_at es p) empty in absurd cc;
    known = λ q n h. let nothing = none q in absurd cc;
  };
  timed = λ x. rw (no-moments, empty) refl;
  paged = λ x. rw (no-pages, empty) refl;
}

pub has-row : (pairs : (p q : Pair) → Decides (is_same_pair p q) (p ≡ q)) (rows self : PlacedEntries) (serials : List KeyNumbers) (moments pages : List Ending) (next : ℕ) → IsRows rows serials moments pages next
    → rows ≡ self → (q : Pair) (n i : ℕ) → number_of serials q ≡ Some n → i ≡ feature_number q.0 → HasRow self (record { feature = i; serial = n }) q
has-row pairs rows self serials moments pages next is same q n i number feature =
    let found = found-some pairs rows serials moments pages next is q n number in
    let at : HasRow rows (record { feature = feature_number q.0; serial = n }) q = record { entry = found.0; row = found.1; of_pair = found.2; own = found.3 } in
    subst (λ (es : PlacedEntries). HasRow es (record { feature = i; serial = n }) q) same (subst (λ (f : ℕ). HasRow rows (record { feature = f; serial = n }) q) (sym feature) at)

pub changed-to-none : (pairs : (p q : Pair) → Decides (is_same_pair p q) (p ≡ q)) (q : Pair) (s new : List KeyNumbers) → new ≡ s → number_of s q ≡ None → IsChangedFor q None s new
unfolding IsChangedFor
changed-to-none pairs q s new same none r = ap (λ (lists : List KeyNumbers). number_of lists r) same ∙ by_test (is_same_pair q r) refl
  where
    by_test : (b : Bool) → is_same_pair q r ≡ b → number_of s r ≡ cond b None (number_of s r)
    by_test true h = ap (number_of s) (sym ((pairs q r).0 h)) ∙ none
    by_test false h = refl
