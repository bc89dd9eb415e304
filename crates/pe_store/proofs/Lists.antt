-- Look-ups in lists of entries.
use Rattle.std.proofs.Common.{◌≡◌, ℕ, Bool, true, false, not, List, [], ◌∷◌, filter, Option, Some, None, refl, sym, ◌∙◌, ap, cond, subst, true≢false, IfSome, nat_lt}
use Rattle.std.specs.Bool.{Decides}
use Rattle.std.specs.Cmp.{both_ways}
use Rattle.std.specs.List.{find}
use Rattle.std.specs.Map.{values_of}
use Rattle.std.specs.Option.{unwrap_or}
use Rattle.pe_features.specs.Features.{feature_number}
use Rattle.pe_store.specs.declared.entry.Entry.{Entry}
use Rattle.pe_store.specs.declared.place.Place.{Place}
use Rattle.pe_store.specs.Entries.{StoreValue, dismissals_of, pair_of, is_of, entry_of, without, put_entry}
use Rattle.pe_store.specs.Numbers.{number_of, IsChangedFor}
use Rattle.pe_store.specs.Pairs.{Pair, is_same_pair}
use Rattle.pe_store.specs.Places.{PlacedEntries, row_at, HasRow}

module _ (pairs : (p q : Pair) → Decides (is_same_pair p q) (p ≡ q)) where
  pub same-self : (p : Pair) → is_same_pair p p ≡ true
  same-self p = (pairs p p).1 refl

  pub same-as : (p q r : Pair) → is_same_pair p q ≡ true → is_same_pair q r ≡ is_same_pair p r
  same-as p q r h = let e : p ≡ q = (pairs p q).0 h in ap (λ (x : Pair). is_same_pair x r) (sym e)

  pub same-turned : (p q : Pair) → is_same_pair p q ≡ is_same_pair q p
  same-turned p q = both_ways (is_same_pair p q) (is_same_pair q p) (λ h. (pairs q p).1 (sym ((pairs p q).0 h))) (λ h. (pairs p q).1 (sym ((pairs q p).0 h)))

  pub same-apart : (p q r : Pair) → is_same_pair p q ≡ false → is_same_pair p r ≡ true → is_same_pair q r ≡ false
  same-apart p q r h k = by_test (is_same_pair q r) refl
    where
      by_test : (b : Bool) → is_same_pair q r ≡ b → is_same_pair q r ≡ false
      by_test false is = is
      by_test true is =
          let e : p ≡ r = (pairs p r).0 k in
          let f : q ≡ r = (pairs q r).0 is in
          let same : is_same_pair p q ≡ true = (pairs p q).1 (e ∙ sym f) in
          absurd (true≢false (sym same ∙ h))

  -- what is left is found, and nothing of the pair
  pub found-without : (p q : Pair) (es : List Entry) → entry_of (without p es) q ≡ cond (is_same_pair p q) None (entry_of es q)
  unfolding entry_of without
  found-without p q [] = by_test (is_same_pair p q)
    where
      by_test : (b : Bool) → ◌≡◌ {A = Option Entry} None (cond b None None)
      by_test true = refl
      by_test false = refl
  found-without p q (e ∷ es) = by_pair (is_same_pair (pair_of e) p) refl (found-without p q es)
    where
      gone : (b : Bool) → is_same_pair p q ≡ b → is_same_pair (pair_of e) q ≡ b → find (is_of q) (filter (λ e. not (is_of p e)) es) ≡ cond b None (find (is_of q) es)
          → find (is_of q) (filter (λ e. not (is_of p e)) es) ≡ cond b None (cond (is_same_pair (pair_of e) q) (Some e) (find (is_of q) es))
      gone true is here rest = rest
      gone false is here rest = rw here rest

      kept : (b c : Bool) → is_same_pair p q ≡ b → is_same_pair (pair_of e) q ≡ c → is_same_pair (pair_of e) p ≡ false → find (is_of q) (filter (λ e. not (is_of p e)) es) ≡ cond b None (find (is_of q) es)
          → cond c (Some e) (find (is_of q) (filter (λ e. not (is_of p e)) es)) ≡ cond b None (cond c (Some e) (find (is_of q) es))
      kept b false is here other rest = rest
      kept false true is here other rest = refl
      kept true true is here other rest = absurd (true≢false (sym is ∙ same-apart (pair_of e) p q other here))

      by_pair : (b : Bool) → is_same_pair (pair_of e) p ≡ b → find (is_of q) (filter (λ e. not (is_of p e)) es) ≡ cond (is_same_pair p q) None (find (is_of q) es)
          → find (is_of q) (cond (not b) (e ∷ filter (λ e. not (is_of p e)) es) (filter (λ e. not (is_of p e)) es)) ≡ cond (is_same_pair p q) None (cond (is_same_pair (pair_of e) q) (Some e) (find (is_of q) es))
      by_pair true is rest = gone (is_same_pair p q) refl (sym (same-as (pair_of e) p q is)) rest
      by_pair false is rest = kept (is_same_pair p q) (is_same_pair (pair_of e) q) refl refl is rest

  -- ---- nothing to take out

  pub without-none : (p : Pair) (es : List Entry) → entry_of es p ≡ None → without p es ≡ es
  unfolding entry_of without
  without-none p [] h = refl
  without-none p (e ∷ es) h = by_of (is_of p e) h (without-none p es)
    where
      by_of : (b : Bool) → cond b (Some e) (find (is_of p) es) ≡ None → (find (is_of p) es ≡ None → filter (λ e. not (is_of p e)) es ≡ es) → cond (not b) (e ∷ filter (λ e. not (is_of p e)) es) (filter (λ e. not (is_of p e)) es) ≡ e ∷ es
      by_of true h rest = cc
      by_of false h rest = ap (λ (xs : List Entry). e ∷ xs) (rest h)

  -- ---- the row of a pair, taken out

  row-taken : (q : Pair) (old : PlacedEntries) (p : Place) (r : Option Entry) (P : Entry → Type 0) (h : HasRow old p q) → r ≡ row_at old p → IfSome r P → P h.entry
  row-taken q old p r P h is holds = subst (λ (o : Option Entry). IfSome o P) (is ∙ h.row) holds

  pub list-cleared : (q : Pair) (old new : PlacedEntries) (p : Place) (r : Option Entry) → HasRow old p q → r ≡ row_at old p
      → IfSome r (λ e. values_of new ≡ without (pair_of e) (values_of old)) → values_of new ≡ without q (values_of old)
  list-cleared q old new p r h is holds =
      row-taken q old p r (λ e. values_of new ≡ without (pair_of e) (values_of old)) h is holds ∙ ap (λ (x : Pair). without x (values_of old)) h.of_pair

  -- a setting is found for its pair, and every other pair has what it had
  pub found-put : (n : Entry) (q : Pair) (es : List Entry) → entry_of (put_entry n es) q ≡ cond (is_same_pair (pair_of n) q) (Some n) (entry_of es q)
  unfolding entry_of put_entry
  found-put n q [] = refl
  found-put n q (e ∷ es) = by_pair (is_same_pair (pair_of e) (pair_of n)) refl (found-put n q es)
    where
      replaced : (b c : Bool) → b ≡ c → cond b (Some n) (find (is_of q) es) ≡ cond b (Some n) (cond c (Some e) (find (is_of q) es))
      replaced true true h = refl
      replaced false false h = refl
      replaced true false h = absurd (true≢false h)
      replaced false true h = absurd (true≢false (sym h))

      passed : (b c : Bool) → is_same_pair (pair_of n) q ≡ b → is_same_pair (pair_of e) q ≡ c → is_same_pair (pair_of e) (pair_of n) ≡ false
          → cond c (Some e) (cond b (Some n) (find (is_of q) es)) ≡ cond b (Some n) (cond c (Some e) (find (is_of q) es))
      passed false c is here other = refl
      passed true false is here other = refl
      passed true true is here other = absurd (true≢false (sym is ∙ same-apart (pair_of e) (pair_of n) q other here))

      by_place : (l : Bool) → is_same_pair (pair_of e) (pair_of n) ≡ false → find (is_of q) (put_entry n es) ≡ cond (is_same_pair (pair_of n) q) (Some n) (find (is_of q) es)
          → find (is_of q) (cond l (n ∷ e ∷ es) (e ∷ put_entry n es)) ≡ cond (is_same_pair (pair_of n) q) (Some n) (cond (is_same_pair (pair_of e) q) (Some e) (find (is_of q) es))
      by_place true other rest = refl
      by_place false other rest =
          ap (λ (o : Option Entry). cond (is_same_pair (pair_of e) q) (Some e) o) rest ∙ passed (is_same_pair (pair_of n) q) (is_same_pair (pair_of e) q) refl refl other

      by_pair : (b : Bool) → is_same_pair (pair_of e) (pair_of n) ≡ b → find (is_of q) (put_entry n es) ≡ cond (is_same_pair (pair_of n) q) (Some n) (find (is_of q) es)
          → find (is_of q) (cond b (n ∷ es) (cond (nat_lt (feature_number n.feature) (feature_number e.feature)) (n ∷ e ∷ es) (e ∷ put_entry n es)))
          ≡ cond (is_same_pair (pair_of n) q) (Some n) (cond (is_same_pair (pair_of e) q) (Some e) (find (is_of q) es))
      by_pair true is rest = replaced (is_same_pair (pair_of n) q) (is_same_pair (pair_of e) q) (same-as (pair_of e) (pair_of n) q is)
      by_pair false is rest = by_place (nat_lt (feature_number n.feature) (feature_number e.feature)) is rest

-- ---- how often pairs were dismissed

pub counts-anew : (q : Pair) (old new : StoreValue) → IsChangedFor q None old.dismissals new.dismissals → (pair : Pair) → dismissals_of new pair ≡ cond (is_same_pair q pair) 0 (dismissals_of old pair)
unfolding dismissals_of IsChangedFor
counts-anew q old new changed pair = ap (λ (o : Option ℕ). unwrap_or o 0) (changed pair) ∙ by_test (is_same_pair q pair) (number_of old.dismissals pair)
  where
    by_test : (b : Bool) (o : Option ℕ) → unwrap_or (cond b None o) 0 ≡ cond b 0 (unwrap_or o 0)
    by_test true o = refl
    by_test false o = refl
