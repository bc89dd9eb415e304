-- Requests, their places, and what is taken out.
use Rattle.std.proofs.Common.{◌≡◌, ◌⊎◌, ℕ, zero, suc, ◌+◌, ◌<◌, ◌≤◌, slice_set, get_or, take, Bool, true, false, cond, not, ◌&&◌, ◌||◌, nat_eq, List, [], ◌∷◌, ◌++◌, length, Option, None, Some, slice_get, refl, sym, ap, subst, ◌∙◌, true≢false, inl, inr, arith}
use Rattle.std.specs.Prelude.{option_to_list}
use Rattle.std.specs.BTreeSet.{BTreeSet}
use Rattle.pe_arena.specs.declared.handle.DocRef.{DocRef}
use Rattle.pe_prompts.specs.declared.place.Place.{Place}
use Rattle.pe_prompts.specs.Places.{is_noted}
use Rattle.pe_prompts.specs.Requests.{somes, is_of, without, holds, cleared, cleared_count, AreNoted}
use Rattle.pe_prompts.proofs.Items.{same_number}
use Rattle.pe_prompts.proofs.Noted.{itself, or-true}

-- the values of one more
pub somes-push : {A : Type 0} (xs : List (Option A)) (x : A) → somes (xs ++ Some x ∷ []) ≡ somes xs ++ x ∷ []
somes-push [] x = refl
somes-push (None ∷ xs) x = somes-push xs x
somes-push (Some y ∷ xs) x = ap (λ l. y ∷ l) (somes-push xs x)

-- what stands in a list with one more
pub get-push : {A : Type 0} (xs : List A) (y z : A) (k : ℕ) → slice_get (xs ++ y ∷ []) k ≡ Some z → (slice_get xs k ≡ Some z) ⊎ ((k ≡ length xs) × (y ≡ z))
get-push [] y z zero h = inr (refl, cc)
get-push [] y z (suc k) h = inl h
get-push (x ∷ xs) y z zero h = inl h
get-push (x ∷ xs) y z (suc k) h =
    elim (get-push xs y z k h) [ inl e ↦ inl e | inr e ↦ inr (ap suc e.0, e.1) ]

module _ (doc : ℕ) where
  -- the requests of the others stay
  pub without-cleared : (xs : List (Option DocRef)) (i : ℕ) → without doc (somes (cleared doc xs i)) ≡ without doc (somes xs)
  without-cleared [] i = refl
  without-cleared (None ∷ xs) zero = refl
  without-cleared (Some r ∷ xs) zero =
      (elim (is_of doc r) as (λ b. is_of doc r ≡ b → without doc (somes (cond b None (Some r) ∷ xs)) ≡ cond (not b) (r ∷ without doc (somes xs)) (without doc (somes xs)))
      [ true ↦ λ e. refl | false ↦ λ e. ap (λ b. cond (not b) (r ∷ without doc (somes xs)) (without doc (somes xs))) e ]) refl
  without-cleared (None ∷ xs) (suc i) = without-cleared xs i
  without-cleared (Some r ∷ xs) (suc i) =
      ap (λ l. cond (not (is_of doc r)) (r ∷ l) l) (without-cleared xs i)

  -- as many requests are taken out as are counted
  pub count-cleared : (xs : List (Option DocRef)) (i : ℕ) → length (somes (cleared doc xs i)) + cleared_count doc xs i ≡ length (somes xs)
  count-cleared [] i = refl
  count-cleared (None ∷ xs) zero = omega arith
  count-cleared (Some r ∷ xs) zero =
      elim (is_of doc r) as (λ b. length (somes (cond b None (Some r) ∷ xs)) + cond b 1 0 ≡ suc (length (somes xs))) [ true ↦ omega arith | false ↦ omega arith ]
  count-cleared (None ∷ xs) (suc i) = count-cleared xs i
  count-cleared (Some r ∷ xs) (suc i) = let rest = count-cleared xs i in omega arith

  -- what stands somewhere then stood there before
  pub get-cleared : (xs : List (Option DocRef)) (i k : ℕ) (r : DocRef) → slice_get (cleared doc xs i) k ≡ Some (Some r) → slice_get xs k ≡ Some (Some r)
  get-cleared [] i k r h = h
  get-cleared (None ∷ xs) zero zero r h = h
  get-cleared (Some s ∷ xs) zero zero r h =
      (elim (is_of doc s) as (λ b. Some (cond b None (Some s)) ≡ Some (Some r) → Some (Some s) ≡ Some (Some r)) [ true ↦ λ e. absurd cc | false ↦ λ e. e ]) h
  get-cleared (x ∷ xs) zero (suc k) r h = h
  get-cleared (x ∷ xs) (suc i) zero r h = h
  get-cleared (x ∷ xs) (suc i) (suc k) r h = get-cleared xs i k r h

  -- no request of the document stands where one was taken out
  pub not-cleared : (xs : List (Option DocRef)) (i : ℕ) (r : DocRef) → slice_get (cleared doc xs i) i ≡ Some (Some r) → is_of doc r ≡ true → ⊥
  not-cleared [] i r h of = cc
  not-cleared (None ∷ xs) zero r h of = cc
  not-cleared (Some s ∷ xs) zero r h of =
      (elim (is_of doc s) as (λ b. is_of doc s ≡ b → Some (cond b None (Some s)) ≡ Some (Some r) → ⊥)
      [ true ↦ λ p e. cc | false ↦ λ p e. let same : s ≡ r = cc in true≢false (sym of ∙ ap (is_of doc) (sym same) ∙ p) ]) refl h
  not-cleared (x ∷ xs) (suc i) r h of = not-cleared xs i r h of

  -- where none is of the document, all are the others'
  pub none-without : (xs : List (Option DocRef)) → ((i : ℕ) (r : DocRef) → slice_get xs i ≡ Some (Some r) → is_of doc r ≡ true → ⊥) → without doc (somes xs) ≡ somes xs
  none-without [] h = refl
  none-without (None ∷ xs) h = none-without xs (λ i. h (suc i))
  none-without (Some r ∷ xs) h =
      let rest = none-without xs (λ i. h (suc i)) in
      (elim (is_of doc r) as (λ b. is_of doc r ≡ b → cond (not b) (r ∷ without doc (somes xs)) (without doc (somes xs)) ≡ r ∷ somes xs)
      [ true ↦ λ e. absurd (h zero r refl e) | false ↦ λ e. ap (λ l. r ∷ l) rest ]) refl

  -- the places stay noted, once a request of the document is taken from one that is noted no more
  pub AreNoted-cleared : (xs : List (Option DocRef)) (at : ℕ) (old new : BTreeSet Place) → AreNoted xs old
      → ((d i : ℕ) → is_noted new d i ≡ cond (nat_eq doc d && nat_eq at i) false (is_noted old d i)) → AreNoted (cleared doc xs at) new
  AreNoted-cleared xs at old new h rest = λ i r stands. rest r.doc i ∙ by_test i r stands (nat_eq doc r.doc) refl (nat_eq at i) refl
    where
      by_test : (i : ℕ) (r : DocRef) → slice_get (cleared doc xs at) i ≡ Some (Some r) → (b : Bool) → nat_eq doc r.doc ≡ b → (c : Bool) → nat_eq at i ≡ c
          → cond (b && c) false (is_noted old r.doc i) ≡ true
      by_test i r stands true e true f = absurd (not-cleared xs at r (subst (λ j. slice_get (cleared doc xs at) j ≡ Some (Some r)) (sym (same_number at i f)) stands) e)
      by_test i r stands true e false f = h i r (get-cleared xs at i r stands)
      by_test i r stands false e c f = h i r (get-cleared xs at i r stands)

  -- where no place is noted for the document, all requests are the others'
  pub none-noted : (xs : List (Option DocRef)) (places : BTreeSet Place) → AreNoted xs places → ((i : ℕ) → is_noted places doc i ≡ false) → without doc (somes xs) ≡ somes xs
  none-noted xs places h none =
      none-without xs (λ i r stands of. true≢false (sym (h i r stands) ∙ ap (λ d. is_noted places d i) (sym (same_number doc r.doc of)) ∙ none i))

-- the places with one more
pub AreNoted-push : (xs : List (Option DocRef)) (asker : DocRef) (old new : BTreeSet Place) → AreNoted xs old
    → ((d i : ℕ) → is_noted new d i ≡ (nat_eq asker.doc d && nat_eq (length xs) i) || is_noted old d i) → AreNoted (xs ++ Some asker ∷ []) new
AreNoted-push xs asker old new h more = λ i r stands.
    more r.doc i ∙ elim (get-push xs (Some asker) (Some r) i stands) [
      | inl e ↦ or-true (nat_eq asker.doc r.doc && nat_eq (length xs) i) (is_noted old r.doc i) (h i r e)
      | inr e ↦ let same : asker ≡ r = cc in
          ap (λ b. (b && nat_eq (length xs) i) || is_noted old r.doc i) (ap (λ (x : DocRef). nat_eq asker.doc x.doc) (sym same) ∙ itself asker.doc)
          ∙ ap (λ b. b || is_noted old r.doc i) (ap (nat_eq (length xs)) e.0 ∙ itself (length xs))
    ]

-- what a write of None does
module _ (doc : ℕ) where
  pub cleared-write : (xs : List (Option DocRef)) (i : ℕ) (d : Option DocRef) → i < length xs → holds doc (get_or xs i d) ≡ true → slice_set xs i None ≡ cleared doc xs i
  cleared-write [] i d lt h = absurd (omega arith)
  cleared-write (x ∷ xs) zero d lt h = ap (λ b. cond b None x ∷ xs) (sym h)
  cleared-write (x ∷ xs) (suc i) d lt h = ap (λ l. x ∷ l) (cleared-write xs i d (omega arith) h)

  pub count-write : (xs : List (Option DocRef)) (i : ℕ) (d : Option DocRef) → i < length xs → holds doc (get_or xs i d) ≡ true → 1 ≡ cleared_count doc xs i
  count-write [] i d lt h = absurd (omega arith)
  count-write (x ∷ xs) zero d lt h = ap (λ b. cond b 1 0) (sym h)
  count-write (x ∷ xs) (suc i) d lt h = count-write xs i d (omega arith) h

  pub cleared-keep : (xs : List (Option DocRef)) (i : ℕ) (d : Option DocRef) → i < length xs → holds doc (get_or xs i d) ≡ false → xs ≡ cleared doc xs i
  cleared-keep [] i d lt h = absurd (omega arith)
  cleared-keep (x ∷ xs) zero d lt h = ap (λ b. cond b None x ∷ xs) (sym h)
  cleared-keep (x ∷ xs) (suc i) d lt h = ap (λ l. x ∷ l) (cleared-keep xs i d (omega arith) h)

  pub count-keep : (xs : List (Option DocRef)) (i : ℕ) (d : Option DocRef) → i < length xs → holds doc (get_or xs i d) ≡ false → 0 ≡ cleared_count doc xs i
  count-keep [] i d lt h = absurd (omega arith)
  count-keep (x ∷ xs) zero d lt h = ap (λ b. cond b 1 0) (sym h)
  count-keep (x ∷ xs) (suc i) d lt h = count-keep xs i d (omega arith) h

  pub cleared-beyond : (xs : List (Option DocRef)) (i : ℕ) → length xs ≤ i → xs ≡ cleared doc xs i
  cleared-beyond [] i le = refl
  cleared-beyond (x ∷ xs) zero le = absurd (omega arith)
  cleared-beyond (x ∷ xs) (suc i) le = ap (λ l. x ∷ l) (cleared-beyond xs i (omega arith))

  pub count-beyond : (xs : List (Option DocRef)) (i : ℕ) → length xs ≤ i → 0 ≡ cleared_count doc xs i
  count-beyond [] i le = refl
  count-beyond (x ∷ xs) zero le = absurd (omega arith)
  count-beyond (x ∷ xs) (suc i) le = count-beyond xs i (omega arith)

-- the values of the first, and of one more
pub somes-take : {A : Type 0} (xs : List (Option A)) (k : ℕ) (d : Option A) → k < length xs → somes (take (suc k) xs) ≡ somes (take k xs) ++ option_to_list (get_or xs k d)
somes-take [] k d lt = absurd (omega arith)
somes-take (None ∷ xs) zero d lt = refl
somes-take (Some x ∷ xs) zero d lt = refl
somes-take (None ∷ xs) (suc k) d lt = somes-take xs k d (omega arith)
somes-take (Some x ∷ xs) (suc k) d lt = ap (λ l. x ∷ l) (somes-take xs k d (omega arith))

-- no more values than places
pub length-somes : {A : Type 0} (xs : List (Option A)) → length (somes xs) ≤ length xs
length-somes [] = omega arith
length-somes (None ∷ xs) = let rest = length-somes xs in omega arith
length-somes (Some x ∷ xs) = let rest = length-somes xs in omega arith
