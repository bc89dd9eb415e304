-- The places that are noted, and what a change of one leaves.
use Rattle.std.proofs.Common.{◌≡◌, ℕ, ◌+◌, Bool, true, false, cond, ◌||◌, ◌&&◌, List, [], ◌∷◌, length, nat_eq, refl, sym, ap, ◌∙◌, arith}
use Rattle.std.specs.Prelude.{filter}
use Rattle.std.specs.List.{list_any}
use Rattle.std.specs.BTreeMap.{is_at}
use Rattle.std.specs.BTreeSet.{BTreeSet, contains}
use Rattle.std.specs.BTreeMap.Range.{range_contains}
use Rattle.std.specs.Ordering.{is_eq}
use Rattle.std.specs.declared.ops.Bound.TheVariants.{Included, Excluded}
use Rattle.std.proofs.lemmas.Bool.Decides.{nat_tests}
use Rattle.pe_prompts.specs.declared.place.Place.{Place}
use Rattle.pe_prompts.specs.Places.{place_cmp, place, is_noted}

at-test : (p q : Place) → is_eq (place_cmp p q) ≡ (nat_eq p.doc q.doc && nat_eq p.at q.at)
at-test p q = grind (arith, nat_tests)

pub itself : (n : ℕ) → nat_eq n n ≡ true
itself n = grind (arith, nat_tests)

or-cond : (b c : Bool) → cond b true c ≡ b || c
or-cond true c = refl
or-cond false c = refl

pub noted-with : (p : Place) (old new : BTreeSet Place) → ((q : Place) → contains place_cmp new q ≡ cond (is_eq (place_cmp p q)) true (contains place_cmp old q))
    → (d i : ℕ) → is_noted new d i ≡ (nat_eq p.doc d && nat_eq p.at i) || is_noted old d i
unfolding is_noted
noted-with p old new h d i =
    h (place d i) ∙ ap (λ (b : Bool). cond b true (is_noted old d i)) (at-test p (place d i)) ∙ or-cond (nat_eq p.doc d && nat_eq p.at i) (is_noted old d i)

pub noted-without : (p : Place) (old new : BTreeSet Place) → ((q : Place) → contains place_cmp new q ≡ cond (is_eq (place_cmp p q)) false (contains place_cmp old q))
    → (d i : ℕ) → is_noted new d i ≡ cond (nat_eq p.doc d && nat_eq p.at i) false (is_noted old d i)
unfolding is_noted
noted-without p old new h d i = h (place d i) ∙ ap (λ (b : Bool). cond b false (is_noted old d i)) (at-test p (place d i))

-- a noted place that is taken out makes them fewer
pub noted-fewer : (places new : BTreeSet Place) (doc n at : ℕ) (r : Bool) → n ≡ doc → is_noted places doc at ≡ true → r ≡ contains place_cmp places (place n at)
    → length new.keys + cond r 1 0 ≡ length places.keys → length new.keys + 1 ≡ length places.keys
unfolding is_noted
noted-fewer places new doc n at r same noted test len =
    let there : r ≡ true = test ∙ ap (λ (m : ℕ). contains place_cmp places (place m at)) same ∙ noted in
    sym (ap (λ (b : Bool). length new.keys + cond b 1 0) there) ∙ len

-- the keys of a range with these ends are those of the document
is_own : ℕ → Place → Bool
is_own doc q = nat_eq doc q.doc

range-test : (doc : ℕ) (q : Place) → range_contains place_cmp (Included (place doc 0)) (Excluded (place (doc + 1) 0)) q ≡ is_own doc q
unfolding is_own
range-test doc q = grind (arith, nat_tests)

filter-alike : {A : Type 0} (p q : A → Bool) → ((x : A) → p x ≡ q x) → (xs : List A) → filter p xs ≡ filter q xs
filter-alike p q h [] = refl
filter-alike {A} p q h (x ∷ xs) =
    ap (λ (b : Bool). cond b (x ∷ filter p xs) (filter p xs)) (h x) ∙ ap (λ (ys : List A). cond (q x) (x ∷ ys) ys) (filter-alike p q h xs)

ranged : (doc : ℕ) (a b : Place) → a ≡ place doc 0 → b ≡ place (doc + 1) 0 → (ks : List Place) → filter (range_contains place_cmp (Included a) (Excluded b)) ks ≡ filter (is_own doc) ks
ranged doc a b start end ks = rw (start, end) (filter-alike _ _ (range-test doc) ks)

own-none : (doc at : ℕ) (ks : List Place) → filter (is_own doc) ks ≡ [] → list_any (is_at (place_cmp (place doc at))) ks ≡ false
unfolding is_own
own-none doc at [] h = refl
own-none doc at (k ∷ ks) h = by_test (own-none doc at ks) (nat_eq doc k.doc) refl h
  where
    by_test : (filter (is_own doc) ks ≡ [] → list_any (is_at (place_cmp (place doc at))) ks ≡ false) → (b : Bool) → nat_eq doc k.doc ≡ b
        → cond b (k ∷ filter (is_own doc) ks) (filter (is_own doc) ks) ≡ [] → is_eq (place_cmp (place doc at) k) || list_any (is_at (place_cmp (place doc at))) ks ≡ false
    by_test rest true e f = absurd cc
    by_test rest false e f =
        ap (λ (b : Bool). b || list_any (is_at (place_cmp (place doc at))) ks) (at-test (place doc at) k ∙ ap (λ (b : Bool). b && nat_eq at k.at) e) ∙ rest f

pub or-true : (b c : Bool) → c ≡ true → b || c ≡ true
or-true true c h = refl
or-true false c h = h

own-some : (doc : ℕ) (p : Place) (rest ks : List Place) → filter (is_own doc) ks ≡ p ∷ rest → list_any (is_at (place_cmp (place doc p.at))) ks ≡ true
unfolding is_own
own-some doc p rest [] h = absurd cc
own-some doc p rest (k ∷ ks) h = by_test (own-some doc p rest ks) (nat_eq doc k.doc) refl h
  where
    by_test : (filter (is_own doc) ks ≡ p ∷ rest → list_any (is_at (place_cmp (place doc p.at))) ks ≡ true) → (b : Bool) → nat_eq doc k.doc ≡ b
        → cond b (k ∷ filter (is_own doc) ks) (filter (is_own doc) ks) ≡ p ∷ rest → is_eq (place_cmp (place doc p.at) k) || list_any (is_at (place_cmp (place doc p.at))) ks ≡ true
    by_test later true e f =
        let is : k ≡ p = cc in
        ap (λ (b : Bool). b || list_any (is_at (place_cmp (place doc p.at))) ks)
        (at-test (place doc p.at) k ∙ ap (λ (b : Bool). b && nat_eq p.at k.at) e ∙ ap (λ (q : Place). nat_eq p.at q.at) is ∙ itself p.at)
    by_test later false e f = or-true (is_eq (place_cmp (place doc p.at) k)) (list_any (is_at (place_cmp (place doc p.at))) ks) (later f)

pub first-none : (places : BTreeSet Place) (doc : ℕ) (a b : Place) → a ≡ place doc 0 → b ≡ place (doc + 1) 0 → (ks : List Place)
    → ks ≡ filter (range_contains place_cmp (Included a) (Excluded b)) places.keys → ks ≡ [] → (at : ℕ) → is_noted places doc at ≡ false
unfolding is_noted
first-none places doc a b start end ks is none at = own-none doc at places.keys (sym (ranged doc a b start end places.keys) ∙ sym is ∙ none)

pub first-some : (places : BTreeSet Place) (doc : ℕ) (a b : Place) → a ≡ place doc 0 → b ≡ place (doc + 1) 0 → (ks : List Place)
    → ks ≡ filter (range_contains place_cmp (Included a) (Excluded b)) places.keys → (p : Place) (rest : List Place) → ks ≡ p ∷ rest → is_noted places doc p.at ≡ true
unfolding is_noted
first-some places doc a b start end ks is p rest some = own-some doc p rest places.keys (sym (ranged doc a b start end places.keys) ∙ sym is ∙ some)
