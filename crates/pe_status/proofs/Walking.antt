-- What a walk over the statuses of a pair gives.
use Rattle.std.proofs.Common.{◌≡◌, ℕ, ◌+◌, ◌<◌, Bool, true, false, cond, ◌&&◌, List, [], ◌∷◌, Option, Some, None, refl, sym, ap, ◌∙◌, arith, rules, true≢false, Bor, MatchOption}
use Rattle.std.specs.Prelude.{◌==◌, nat_le, filter, find, option_and_then}
use Rattle.std.specs.Bool.{Decides}
use Rattle.std.specs.Option.{option_copied}
use Rattle.std.specs.Cmp.{IsTotalOrder}
use Rattle.std.specs.List.{AllByRecursion}
use Rattle.std.specs.List.Sorted.{IsStrictlySortedBy}
use Rattle.std.specs.Map.{lookup, keys_of, values_of}
use Rattle.std.specs.BTreeMap.{BTreeMap, IsOrdered, is_at}
use Rattle.std.specs.BTreeMap.Range.{range_contains, entries_between}
use Rattle.std.specs.Ordering.{is_eq}
use Rattle.std.specs.declared.cmp.Ordering.TheVariants.{Less}
use Rattle.std.specs.declared.ops.Bound.TheVariants.{Included, Excluded}
use Rattle.std.proofs.lemmas.Bool.Decides.{nat_tests, Decides-eqb}
use Rattle.std.proofs.lemmas.List.Elements.{recursion_from_All}
use Rattle.std.proofs.lemmas.Map.Views.{All-found}
use Rattle.pe_store.specs.Pairs.{Pair, is_same_pair}
use Rattle.pe_status.specs.declared.giving.Given.{Given}
use Rattle.pe_status.specs.declared.place.Place.{Place}
use Rattle.pe_status.specs.declared.registered.Registered.{Registered}
use Rattle.pe_status.specs.Registry.{pair_of, status_of, is_above, is_later_under, later_under, next_under, AreAbove, AreRising}
use Rattle.pe_status.specs.Places.{place_cmp, place, value_at, is_from}
use Rattle.pe_status.specs.Kept.{pair_given, live_rows, values_from, first_no, IsKept}
use Rattle.pe_status.proofs.Listed.{nos, kept, found-no, found-filter, rising-filter, same-statuses}
use Rattle.pe_status.proofs.Keeping.{rising, found, found-at}

pub at-test : (g n : ℕ) (q : Place) → is_eq (place_cmp (place g n) q) ≡ (q.group == g && q.no == n)
at-test g n q = grind (arith, nat_tests)

pub range-test : (g lo : ℕ) (q : Place) → range_contains place_cmp (Included (place g lo)) (Excluded (place (g + 1) 0)) q ≡ is_from g lo q
range-test g lo q = grind (arith, nat_tests)

pub none-test : (q : Place) → range_contains place_cmp (Included (place 0 0)) (Excluded (place 0 0)) q ≡ false
none-test q = grind (arith, nat_tests)

less-no : (p q : Place) → place_cmp p q ≡ Less → p.group ≡ q.group → p.no < q.no
less-no p q h e = grind (arith, nat_tests)

above-test : (after : Option ℕ) (n : ℕ) → nat_le (first_no after) n ≡ is_above after n
above-test None n = grind (arith, nat_tests)
above-test (Some a) n = grind (arith, nat_tests)

pub place-total : IsTotalOrder place_cmp
place-total = search rules

pub filter-alike : {A : Type 0} (p q : A → Bool) → ((x : A) → p x ≡ q x) → (xs : List A) → filter p xs ≡ filter q xs
filter-alike p q h [] = refl
filter-alike {A} p q h (x ∷ xs) =
    ap (λ (b : Bool). cond b (x ∷ filter p xs) (filter p xs)) (h x) ∙ ap (λ (ys : List A). cond (q x) (x ∷ ys) ys) (filter-alike p q h xs)

filter-none : {A : Type 0} (p : A → Bool) → ((x : A) → p x ≡ false) → (xs : List A) → filter p xs ≡ []
filter-none p h [] = refl
filter-none p h (x ∷ xs) = ap (λ (b : Bool). cond b (x ∷ filter p xs) (filter p xs)) (h x) ∙ filter-none p h xs

pub between-group : {X : Type 0} (g lo : ℕ) (es : List (Place × X)) → entries_between place_cmp (Included (place g lo)) (Excluded (place (g + 1) 0)) es ≡ filter (λ e. is_from g lo e.0) es
between-group g lo es = filter-alike _ _ (λ e. range-test g lo e.0) es

pub between-none : {X : Type 0} (es : List (Place × X)) → entries_between place_cmp (Included (place 0 0)) (Excluded (place 0 0)) es ≡ []
between-none es = filter-none _ (λ e. none-test e.0) es

-- each status stands under its own number
abbrev AreOwn : List (Place × Registered) → Type 0
AreOwn es = AllByRecursion (λ e. e.1.no ≡ e.0.no) es

abbrev group_rows : ℕ → ℕ → List (Place × Registered) → List Registered
group_rows g lo es = values_of (filter (λ e. is_from g lo e.0) es)

own-entries : (m : BTreeMap Place Registered) → IsOrdered place_cmp m → ((g n : ℕ) (r : Registered) → value_at m g n ≡ Some r → r.no ≡ n) → AreOwn m.entries
unfolding value_at
own-entries m ordered own = recursion_from_All _ _ (λ k d lt. own _ _ _ (All-found place-total m ordered k d lt))

found-group : (g lo n : ℕ) (es : List (Place × Registered)) → AreOwn es → status_of (group_rows g lo es) n ≡ cond (nat_le lo n) (lookup (is_at (place_cmp (place g n))) es) None
unfolding status_of
found-group g lo n [] own = by_test (nat_le lo n)
  where
    by_test : (b : Bool) → ◌≡◌ {A = Option Registered} None (cond b None None)
    by_test true = refl
    by_test false = refl
found-group g lo n (e ∷ es) own =
    by_tests (found-group g lo n es own.1) (e.0.group == g) refl (nat_le lo e.0.no) refl (e.0.no == n) refl
    ∙ ap (λ (b : Bool). cond (nat_le lo n) (cond b (Some e.1) (lookup (is_at (place_cmp (place g n))) es)) None) (sym (at-test g n e.0))
  where
    bound : (e.0.no == n) ≡ true → nat_le lo n ≡ nat_le lo e.0.no
    bound c = ap (nat_le lo) (sym ((Decides-eqb e.0.no n).0 c))

    by_tests : status_of (group_rows g lo es) n ≡ cond (nat_le lo n) (lookup (is_at (place_cmp (place g n))) es) None
        → (a : Bool) → (e.0.group == g) ≡ a → (b : Bool) → nat_le lo e.0.no ≡ b → (c : Bool) → (e.0.no == n) ≡ c
        → status_of (values_of (cond (a && b) (e ∷ filter (λ x. is_from g lo x.0) es) (filter (λ x. is_from g lo x.0) es))) n
        ≡ cond (nat_le lo n) (cond (a && c) (Some e.1) (lookup (is_at (place_cmp (place g n))) es)) None
    by_tests rest true fa true fb true fc =
        ap (λ (t : Bool). cond t (Some e.1) (status_of (group_rows g lo es) n)) (ap (λ (m : ℕ). m == n) own.0 ∙ fc)
        ∙ sym (ap (λ (t : Bool). cond t (Some e.1) None) (bound fc ∙ fb))
    by_tests rest true fa true fb false fc =
        ap (λ (t : Bool). cond t (Some e.1) (status_of (group_rows g lo es) n)) (ap (λ (m : ℕ). m == n) own.0 ∙ fc) ∙ rest
    by_tests rest true fa false fb true fc =
        rest ∙ ap (λ (t : Bool). cond t (lookup (is_at (place_cmp (place g n))) es) None) (bound fc ∙ fb)
        ∙ sym (ap (λ (t : Bool). cond t (Some e.1) None) (bound fc ∙ fb))
    by_tests rest true fa false fb false fc = rest
    by_tests rest false fa b fb c fc = rest

above-group : (g lo : ℕ) (p : Place) (es : List (Place × Registered)) → p.group ≡ g → AllByRecursion (λ q. place_cmp p q ≡ Less) (keys_of es) → AreOwn es → AreAbove p.no (nos (group_rows g lo es))
above-group g lo p [] is less own = tt
above-group g lo p (e ∷ es) is less own = by_tests (e.0.group == g) refl (nat_le lo e.0.no) (above-group g lo p es is less.1 own.1)
  where
    by_tests : (a : Bool) → (e.0.group == g) ≡ a → (b : Bool) → AreAbove p.no (nos (group_rows g lo es))
        → AreAbove p.no (nos (values_of (cond (a && b) (e ∷ filter (λ x. is_from g lo x.0) es) (filter (λ x. is_from g lo x.0) es))))
    by_tests true f true rest =
        let lt = less-no p e.0 less.0 (is ∙ sym ((Decides-eqb e.0.group g).0 f)) in
        let mine = own.0 in
        (omega (arith, lt, mine), rest)
    by_tests true f false rest = rest
    by_tests false f b rest = rest

rising-group : (g lo : ℕ) (es : List (Place × Registered)) → IsStrictlySortedBy place_cmp (keys_of es) → AreOwn es → AreRising (nos (group_rows g lo es))
unfolding IsStrictlySortedBy
rising-group g lo [] sorted own = tt
rising-group g lo (e ∷ es) sorted own = by_tests (e.0.group == g) refl (nat_le lo e.0.no) (rising-group g lo es sorted.1 own.1)
  where
    by_tests : (a : Bool) → (e.0.group == g) ≡ a → (b : Bool) → AreRising (nos (group_rows g lo es))
        → AreRising (nos (values_of (cond (a && b) (e ∷ filter (λ x. is_from g lo x.0) es) (filter (λ x. is_from g lo x.0) es))))
    by_tests true f true rest = (rw own.0 (above-group g lo e.0 es ((Decides-eqb e.0.group g).0 f) sorted.0 own.1), rest)
    by_tests true f false rest = rest
    by_tests false f b rest = rest

nothing-found : (n : ℕ) → status_of [] n ≡ None
unfolding status_of
nothing-found n = refl

value-is : (m : BTreeMap Place Registered) (g n : ℕ) → lookup (is_at (place_cmp (place g n))) m.entries ≡ value_at m g n
unfolding value_at
value-is m g n = refl

module _ (same : (x y : Pair) → Decides (is_same_pair x y) (x ≡ y)) (gs : List Given) (m : BTreeMap Place Registered) (ordered : IsOrdered place_cmp m)
    (number : Pair → Option ℕ) (owned : ℕ → ℕ → Bool) (count : ℕ → ℕ) (k : IsKept gs (value_at m) number owned count) (pair : Pair) (after : Option ℕ) where
  abbrev live : List Registered
  live = live_rows (value_at m) gs

  -- where a live status stands
  stands : (n : ℕ) (s : Registered) → status_of live n ≡ Some s → (a : ℕ) × (value_at m a n ≡ Some s)
  stands n s e = by_given (pair_given gs n) (sym (found k n) ∙ e)
    where
      by_given : (o : Option ℕ) → option_and_then (λ p. value_at m p n) o ≡ Some s → (a : ℕ) × (value_at m a n ≡ Some s)
      by_given None h = absurd cc
      by_given (Some a) h = (a, h)

  either : (b : Bool) (o : Option Registered) → o ≡ None → cond b o None ≡ None
  either true o e = e
  either false o e = refl

  -- no status of a pair without a number is live
  none-kept : number pair ≡ None → (n : ℕ) → None ≡ kept (is_later_under pair after) (status_of live n)
  none-kept none n = by_status (status_of live n) refl
    where
      by_status : (o : Option Registered) → status_of live n ≡ o → None ≡ kept (is_later_under pair after) o
      by_status None e = refl
      by_status (Some s) e = by_test (is_same_pair (pair_of s) pair) refl
        where
          by_test : (b : Bool) → is_same_pair (pair_of s) pair ≡ b → None ≡ cond (b && is_above after s.no) (Some s) None
          by_test true f =
              let at = stands n s e in
              let has : number pair ≡ Some at.0 = ap number (sym ((same (pair_of s) pair).0 f)) ∙ (k.placed at.0 n s at.1).pair in
              absurd cc
          by_test false f = refl

  -- what stands under the pair's number is its live status
  some-kept : (g : ℕ) → number pair ≡ Some g → (n : ℕ) → cond (nat_le (first_no after) n) (value_at m g n) None ≡ kept (is_later_under pair after) (status_of live n)
  some-kept g has n = by_status (status_of live n) refl
    where
      here : (o : Option Registered) → value_at m g n ≡ o → status_of live n ≡ None → o ≡ None
      here None f e = refl
      here (Some s) f e = let there = found-at k g n s f in absurd cc

      by_status : (o : Option Registered) → status_of live n ≡ o → cond (nat_le (first_no after) n) (value_at m g n) None ≡ kept (is_later_under pair after) o
      by_status None e = either (nat_le (first_no after) n) (value_at m g n) (here (value_at m g n) refl e)
      by_status (Some s) e = by_test (is_same_pair (pair_of s) pair) refl
        where
          at : (a : ℕ) × (value_at m a n ≡ Some s)
          at = stands n s e

          own : number (pair_of s) ≡ Some at.0
          own = (k.placed at.0 n s at.1).pair

          mine : pair_of s ≡ pair → value_at m g n ≡ Some s
          mine is =
              let one : at.0 ≡ g = one_of (sym own ∙ ap number is ∙ has) in
              ap (λ (a : ℕ). value_at m a n) (sym one) ∙ at.1
            where
              one_of : Some at.0 ≡ Some g → at.0 ≡ g
              one_of h = cc

          other : is_same_pair (pair_of s) pair ≡ false → (o : Option Registered) → value_at m g n ≡ o → o ≡ None
          other f None h = refl
          other f (Some t) h =
              let found : Some s ≡ Some t = sym e ∙ found-at k g n t h in
              let is : s ≡ t = cc in
              let theirs : number (pair_of s) ≡ Some g = ap (λ (x : Registered). number (pair_of x)) is ∙ (k.placed g n t h).pair in
              absurd (true≢false (sym ((same (pair_of s) pair).1 (k.apart (pair_of s) pair g theirs has)) ∙ f))

          by_test : (b : Bool) → is_same_pair (pair_of s) pair ≡ b → cond (nat_le (first_no after) n) (value_at m g n) None ≡ cond (b && is_above after s.no) (Some s) None
          by_test true f =
              ap (λ (o : Option Registered). cond (nat_le (first_no after) n) o None) (mine ((same (pair_of s) pair).0 f))
              ∙ ap (λ (b : Bool). cond b (Some s) None) (above-test after n ∙ ap (is_above after) (sym (found-no live n s e)))
          by_test false f = either (nat_le (first_no after) n) (value_at m g n) (other f (value_at m g n) refl)

  pub walked : values_from m (number pair) (first_no after) ≡ later_under pair after live
  unfolding later_under
  walked = by_number (number pair) refl
    where
      own : AreOwn m.entries
      own = own-entries m ordered (λ g n r e. (k.placed g n r e).no)

      rising-rest : AreRising (nos (filter (is_later_under pair after) live))
      rising-rest = rising-filter (is_later_under pair after) live (rising k)

      by_number : (o : Option ℕ) → number pair ≡ o → values_from m o (first_no after) ≡ filter (is_later_under pair after) live
      by_number None e =
          same-statuses [] (filter (is_later_under pair after) live) tt rising-rest
          (λ n. nothing-found n ∙ none-kept e n ∙ sym (found-filter (is_later_under pair after) live n (rising k)))
      by_number (Some g) e =
          same-statuses (group_rows g (first_no after) m.entries) (filter (is_later_under pair after) live) (rising-group g (first_no after) m.entries ordered own) rising-rest
          (λ n. found-group g (first_no after) n m.entries own ∙ ap (λ (o : Option Registered). cond (nat_le (first_no after) n) o None) (value-is m g n) ∙ some-kept g e n ∙ sym (found-filter (is_later_under pair after) live n (rising k)))

-- the first of those that pass
pub first-none : (test : Registered → Bool) (rs : List Registered) → filter test rs ≡ [] → None ≡ find test rs
first-none test [] h = refl
first-none test (r ∷ rs) h = by_test (first-none test rs) (test r) h
  where
    by_test : (filter test rs ≡ [] → None ≡ find test rs) → (b : Bool) → cond b (r ∷ filter test rs) (filter test rs) ≡ [] → None ≡ cond b (Some r) (find test rs)
    by_test rest true e = absurd cc
    by_test rest false e = rest e

pub first-some : (test : Registered → Bool) (rs ys : List Registered) (x : Registered) → filter test rs ≡ x ∷ ys → Some x ≡ find test rs
first-some test [] ys x h = absurd cc
first-some test (r ∷ rs) ys x h = by_test (first-some test rs ys x) (test r) h
  where
    by_test : (filter test rs ≡ x ∷ ys → Some x ≡ find test rs) → (b : Bool) → cond b (r ∷ filter test rs) (filter test rs) ≡ x ∷ ys → Some x ≡ cond b (Some r) (find test rs)
    by_test rest true e = cc
    by_test rest false e = rest e

pub touched-first : (pair : Pair) (after : Option ℕ) (live : List Registered) (r : Option (Bor Registered)) (s t : List Registered) → s ≡ later_under pair after live
    → MatchOption r ((s ≡ []) × (t ≡ [])) (λ x. s ≡ x.now ∷ t) → option_copied r ≡ next_under pair after live
unfolding later_under next_under
touched-first pair after live None s t is h = first-none (is_later_under pair after) live (sym is ∙ h.0)
touched-first pair after live (Some x) s t is h = first-some (is_later_under pair after) live t x.now (sym is ∙ h)
