-- How many statuses the walks over several pairs visit: each at most once.
use Rattle.std.proofs.Common.{◌≡◌, suc, ◌+◌, ◌≤◌, Bool, true, false, not, List, [], ◌∷◌, ◌++◌, length, filter, flat_map, Option, None, Some, is_some, refl, sym, ◌∙◌, ap, arith, cond, true≢false}
use Rattle.std.specs.Bool.{Decides}
use Rattle.pe_store.specs.declared.entry.Entry.{Entry}
use Rattle.pe_store.specs.Entries as store
use Rattle.pe_store.specs.Pages.{AreApart}
use Rattle.pe_store.specs.Pairs.{Pair, is_same_pair}
use Rattle.pe_status.specs.declared.registered.Registered.{Registered}
use Rattle.pe_status.specs.Registry.{pair_of, is_under, later_under}
use Rattle.pe_store.specs.Pages.{is_listed}
use Rattle.pe_changes.specs.Bags.{count}
use Rattle.pe_changes.specs.Gathered.{statuses_under}
use Rattle.pe_changes.proofs.End.{ended-bag}
use Rattle.pe_changes.proofs.Lapses.{all-under}

-- those that pass now are those that passed, and some more
count-more : {A : Type 0} (before after more : A → Bool) → ((x : A) → more x ≡ true → (before x ≡ false) × (after x ≡ true)) → ((x : A) → more x ≡ false → after x ≡ before x)
    → (xs : List A) → count after xs ≡ count before xs + length (filter more xs)
count-more before after more new old [] = omega arith
count-more before after more new old (x ∷ xs) = by_test (more x) refl (count-more before after more new old xs)
  where
    by_test : (b : Bool) → more x ≡ b → count after xs ≡ count before xs + length (filter more xs)
        → cond (after x) 1 0 + count after xs ≡ cond (before x) 1 0 + count before xs + length (cond b (x ∷ filter more xs) (filter more xs))
    by_test true is rest = rw ((new x is).0, (new x is).1) (omega (arith, rest))
    by_test false is rest = rw (old x is) (omega (arith, rest))

pub count-most : {A : Type 0} (test : A → Bool) (xs : List A) → count test xs ≤ length xs
count-most test [] = omega arith
count-most test (x ∷ xs) = by_test (test x) (count-most test xs)
  where
    by_test : (b : Bool) → count test xs ≤ length xs → cond b 1 0 + count test xs ≤ suc (length xs)
    by_test true rest = omega (arith, rest)
    by_test false rest = omega (arith, rest)

-- the pair of the status has no entry
abbrev pub is_without : List Entry → Registered → Bool
is_without entries r = not (is_some (store.entry_of entries (pair_of r)))

-- an entry that is taken out leaves the statuses of its pair without one
pub taken-more : ((p q : Pair) → Decides (is_same_pair p q) (p ≡ q)) → (live : List Registered) (now new : List Entry) (e : Entry) → store.entry_of now (store.pair_of e) ≡ Some e
    → ((p : Pair) → store.entry_of new p ≡ cond (is_same_pair (store.pair_of e) p) None (store.entry_of now p))
    → count (is_without new) live ≡ count (is_without now) live + length (later_under (store.pair_of e) None live)
taken-more pairs live now new e was found =
    rw (all-under (store.pair_of e) live) (count-more (is_without now) (is_without new) (is_under (store.pair_of e)) here other live)
  where
    here : (r : Registered) → is_under (store.pair_of e) r ≡ true → (is_without now r ≡ false) × (is_without new r ≡ true)
    here r in_pair =
        let q : pair_of r ≡ store.pair_of e = (pairs (pair_of r) (store.pair_of e)).0 in_pair in
        let same : is_same_pair (store.pair_of e) (pair_of r) ≡ true = (pairs (store.pair_of e) (pair_of r)).1 (sym q) in
        let o : store.entry_of now (pair_of r) ≡ Some e = ap (store.entry_of now) q ∙ was in
        let n : store.entry_of new (pair_of r) ≡ None = found (pair_of r) ∙ ap (λ b. cond b None (store.entry_of now (pair_of r))) same in
        (ap (λ (x : Option Entry). not (is_some x)) o, ap (λ (x : Option Entry). not (is_some x)) n)

    other : (r : Registered) → is_under (store.pair_of e) r ≡ false → is_without new r ≡ is_without now r
    other r out = by_same (is_same_pair (store.pair_of e) (pair_of r)) refl
      where
        by_same : (b : Bool) → is_same_pair (store.pair_of e) (pair_of r) ≡ b → is_without new r ≡ is_without now r
        by_same false k = ap (λ (x : Option Entry). not (is_some x)) (found (pair_of r) ∙ ap (λ b. cond b None (store.entry_of now (pair_of r))) k)
        by_same true k =
            let q : store.pair_of e ≡ pair_of r = (pairs (store.pair_of e) (pair_of r)).0 k in
            let under : is_under (store.pair_of e) r ≡ true = (pairs (pair_of r) (store.pair_of e)).1 (sym q) in
            absurd (true≢false (sym under ∙ out))

-- ---- pairs that are apart

count-all : {A : Type 0} (xs : List A) → count (λ x. true) xs ≡ length xs
count-all [] = refl
count-all (x ∷ xs) = let k = count-all xs in omega (arith, k)

flat-own : {A : Type 0} (xs : List A) → flat_map (λ x. x ∷ []) xs ≡ xs
flat-own [] = refl
flat-own (x ∷ xs) = ap (λ ys. x ∷ ys) (flat-own xs)

flat-alike : {A B : Type 0} (f g : A → List B) → ((x : A) → f x ≡ g x) → (xs : List A) → flat_map f xs ≡ flat_map g xs
flat-alike f g same [] = refl
flat-alike f g same (x ∷ xs) = rw (same x, flat-alike f g same xs) refl

listed-most : (ended : List Pair) (live : List Registered) → length (flat_map (λ (r : Registered). cond {A = List Registered} (is_listed (pair_of r) ended) (r ∷ []) []) live) ≤ length live
listed-most ended [] = omega arith
listed-most ended (r ∷ live) = by_test (is_listed (pair_of r) ended) (listed-most ended live)
  where
    by_test : (b : Bool) → length (flat_map (λ (r : Registered). cond {A = List Registered} (is_listed (pair_of r) ended) (r ∷ []) []) live) ≤ length live
        → length (cond {A = List Registered} b (r ∷ []) [] ++ flat_map (λ (r : Registered). cond {A = List Registered} (is_listed (pair_of r) ended) (r ∷ []) []) live) ≤ suc (length live)
    by_test true rest = omega (arith, rest)
    by_test false rest = omega (arith, rest)

pub under-most : ((p q : Pair) → Decides (is_same_pair p q) (p ≡ q)) → (live : List Registered) (ended : List Pair) → AreApart ended → length (statuses_under live ended) ≤ length live
under-most pairs live ended apart =
    let own = flat-alike (λ p. flat_map (λ (r : Registered). r ∷ []) (later_under p None live)) (λ p. later_under p None live) (λ p. flat-own (later_under p None live)) ended in
    let bag = ended-bag pairs (λ (r : Registered). r ∷ []) live ended apart (λ r. true) in
    let many = sym (count-all (statuses_under live ended)) ∙ ap (count (λ (r : Registered). true)) (sym own) ∙ bag ∙ count-all (flat_map (λ (r : Registered). cond {A = List Registered} (is_listed (pair_of r) ended) (r ∷ []) []) live) in
    let most = listed-most ended live in
    omega (arith, many, most)
