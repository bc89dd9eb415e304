-- Entries in the order of their keys, beside the list of their values.
use Rattle.std.proofs.Common.{◌≡◌, Bool, true, false, not, cond, List, [], ◌∷◌, filter, Option, None, Some, refl, sym, ◌∙◌, ap, true≢false}
use Rattle.std.specs.List.{find, AllByRecursion}
use Rattle.std.specs.List.Sorted.{IsStrictlySortedBy}
use Rattle.std.specs.Map.{lookup, remove_entry, set_value, keys_of, values_of}
use Rattle.std.specs.BTreeMap.{is_at, insert_entry}
use Rattle.std.specs.Ordering.{is_eq, match_ordering}
use Rattle.std.specs.declared.cmp.Ordering.{Ordering}
use Rattle.std.specs.declared.cmp.Ordering.TheVariants.{Less, Equal, Greater}
use Rattle.std.specs.Cmp.{IsTotalOrder, eq_by_cmp_equiv}
use Rattle.std.proofs.lemmas.Cmp.{tied_itself}
use Rattle.std.proofs.lemmas.Map.{NonePasses, lookup-none}
use Rattle.std.proofs.lemmas.Map.Keys.{IsDistinct-from_sorted, sorted_tail}
use Rattle.std.proofs.lemmas.Map.Entries.{none_past_head, none_below_head}

-- n in the place of the first item that passes the test, else before the first that stands above it
abbrev pub put_sorted : {X : Type 0} → (X → Bool) → (X → Bool) → X → List X → List X
put_sorted test above n [] = n ∷ []
put_sorted test above n (x ∷ xs) = cond (test x) (n ∷ xs) (cond (above x) (n ∷ x ∷ xs) (x ∷ put_sorted test above n xs))

module _ {K X : Type 0} {cmp : K → K → Ordering} (total : IsTotalOrder cmp) where
  -- nothing past the first is at its key
  past-head : (p : K) (r : K × X) (es : List (K × X)) → IsStrictlySortedBy cmp (keys_of (r ∷ es)) → is_at (cmp p) r.0 ≡ true → NonePasses (is_at (cmp p)) es
  past-head p r es s h = none_past_head (eq_by_cmp_equiv total) p r es (IsDistinct-from_sorted cmp (keys_of (r ∷ es)) s) h

  -- what a later key has is what the key has
  pub later : (p : K) (r : K × X) (es : List (K × X)) (x : X) → IsStrictlySortedBy cmp (keys_of (r ∷ es)) → lookup (is_at (cmp p)) es ≡ Some x
      → (is_at (cmp p) r.0 ≡ false) × (lookup (is_at (cmp p)) (r ∷ es) ≡ Some x)
  later p r es x s h = by_test (is_at (cmp p) r.0) refl
    where
      by_test : (b : Bool) → is_at (cmp p) r.0 ≡ b → (is_at (cmp p) r.0 ≡ false) × (cond (is_at (cmp p) r.0) (Some r.1) (lookup (is_at (cmp p)) es) ≡ Some x)
      by_test false is = (is, rw is h)
      by_test true is =
          let none : lookup (is_at (cmp p)) es ≡ None = lookup-none (is_at (cmp p)) es (past-head p r es s is) in
          let both : ◌≡◌ {A = Option X} (Some x) None = sym h ∙ none in
          absurd cc

  -- what holds of each key with what the list has there holds of each entry
  pub all-rows : (P : K × X → Type 0) (es : List (K × X)) → IsStrictlySortedBy cmp (keys_of es) → ((k : K) (x : X) → lookup (is_at (cmp k)) es ≡ Some x → P (k, x)) → AllByRecursion P es
  all-rows P [] s h = tt
  all-rows P (r ∷ es) s h =
      (h r.0 r.1 (rw (tied_itself total r.0) refl), all-rows P es (sorted_tail cmp r.0 (keys_of es) s) (λ k x e. h k x (later k r es x s e).1))

  module _ (p : K) (t : X → Bool) where
    -- the entries at the key are those that pass the test
    abbrev pub Agrees : List (K × X) → Type 0
    Agrees es = AllByRecursion (λ (r : K × X). is_at (cmp p) r.0 ≡ t r.1) es

    pub find-agrees : (es : List (K × X)) → Agrees es → lookup (is_at (cmp p)) es ≡ find t (values_of es)
    find-agrees [] h = refl
    find-agrees (r ∷ es) h =
        ap (λ b. cond b (Some r.1) (lookup (is_at (cmp p)) es)) h.0 ∙ ap (λ o. cond (t r.1) (Some r.1) o) (find-agrees es h.1)

    kept : (es : List (K × X)) → Agrees es → NonePasses (is_at (cmp p)) es → values_of es ≡ filter (λ x. not (t x)) (values_of es)
    kept [] h none = refl
    kept (r ∷ es) h none =
        let no : t r.1 ≡ false = sym h.0 ∙ none.0 in
        rw no (ap (λ xs. r.1 ∷ xs) (kept es h.1 none.1))

    pub remove-agrees : (es : List (K × X)) → IsStrictlySortedBy cmp (keys_of es) → Agrees es → values_of (remove_entry (is_at (cmp p)) es) ≡ filter (λ x. not (t x)) (values_of es)
    remove-agrees [] s h = refl
    remove-agrees (r ∷ es) s h = by_test (is_at (cmp p) r.0) refl (remove-agrees es (sorted_tail cmp r.0 (keys_of es) s) h.1)
      where
        by_test : (b : Bool) → is_at (cmp p) r.0 ≡ b → values_of (remove_entry (is_at (cmp p)) es) ≡ filter (λ x. not (t x)) (values_of es)
            → values_of (cond (is_at (cmp p) r.0) es (r ∷ remove_entry (is_at (cmp p)) es)) ≡ cond (not (t r.1)) (r.1 ∷ filter (λ x. not (t x)) (values_of es)) (filter (λ x. not (t x)) (values_of es))
        by_test true is rest = rw (is, sym h.0 ∙ is) (kept es h.1 (past-head p r es s is))
        by_test false is rest = rw (is, sym h.0 ∙ is) (ap (λ xs. r.1 ∷ xs) rest)

    -- where a later key is p, p is greater than the first
    below : (r : K × X) (es : List (K × X)) (x : X) → IsStrictlySortedBy cmp (keys_of (r ∷ es)) → lookup (is_at (cmp p)) es ≡ Some x → cmp p r.0 ≡ Greater
    below r es x s h = by_case (cmp p r.0) refl
      where
        by_case : (o : Ordering) → cmp p r.0 ≡ o → cmp p r.0 ≡ Greater
        by_case Greater is = is
        by_case Equal is =
            let apart = (later p r es x s h).0 in
            let here : is_at (cmp p) r.0 ≡ true = ap is_eq is in
            absurd (true≢false (sym here ∙ apart))
        by_case Less is =
            let none : lookup (is_at (cmp p)) (r ∷ es) ≡ None = lookup-none (is_at (cmp p)) (r ∷ es) (none_below_head total p r es s is) in
            let both : ◌≡◌ {A = Option X} (Some x) None = sym (later p r es x s h).1 ∙ none in
            absurd cc

    module _ (above : X → Bool) (n : X) where
      pub set-agrees : (es : List (K × X)) (x : X) → IsStrictlySortedBy cmp (keys_of es) → Agrees es → AllByRecursion (λ (r : K × X). cmp p r.0 ≡ Greater → above r.1 ≡ false) es
          → lookup (is_at (cmp p)) es ≡ Some x → values_of (set_value (is_at (cmp p)) es n) ≡ put_sorted t above n (values_of es)
      set-agrees [] x s h low there = cc
      set-agrees (r ∷ es) x s h low there = by_test (is_at (cmp p) r.0) refl there (set-agrees es x (sorted_tail cmp r.0 (keys_of es) s) h.1 low.1)
        where
          by_test : (b : Bool) → is_at (cmp p) r.0 ≡ b → cond (is_at (cmp p) r.0) (Some r.1) (lookup (is_at (cmp p)) es) ≡ Some x
              → (lookup (is_at (cmp p)) es ≡ Some x → values_of (set_value (is_at (cmp p)) es n) ≡ put_sorted t above n (values_of es))
              → values_of (cond (is_at (cmp p) r.0) ((r.0, n) ∷ es) (r ∷ set_value (is_at (cmp p)) es n)) ≡ cond (t r.1) (n ∷ values_of es) (cond (above r.1) (n ∷ r.1 ∷ values_of es) (r.1 ∷ put_sorted t above n (values_of es)))
          by_test true is there rest = rw (is, sym h.0 ∙ is) refl
          by_test false is there rest =
              let there' : lookup (is_at (cmp p)) es ≡ Some x = rw is at there in
              let no : above r.1 ≡ false = low.0 (below r es x s there') in
              rw (is, sym h.0 ∙ is, no) (ap (λ xs. r.1 ∷ xs) (rest there'))

      pub insert-fresh : (es : List (K × X)) → AllByRecursion (λ (r : K × X). (cmp p r.0 ≡ cond (above r.1) Less Greater) × (t r.1 ≡ false)) es
          → values_of (insert_entry cmp es p n) ≡ put_sorted t above n (values_of es)
      insert-fresh [] h = refl
      insert-fresh (r ∷ es) h = rw (h.0.0, h.0.1) (by_test (above r.1) (insert-fresh es h.1))
        where
          by_test : (b : Bool) → values_of (insert_entry cmp es p n) ≡ put_sorted t above n (values_of es)
              → values_of (match_ordering (cond b Less Greater) ((p, n) ∷ r ∷ es) ((r.0, n) ∷ es) (r ∷ insert_entry cmp es p n)) ≡ cond b (n ∷ r.1 ∷ values_of es) (r.1 ∷ put_sorted t above n (values_of es))
          by_test true rest = refl
          by_test false rest = ap (λ xs. r.1 ∷ xs) rest
