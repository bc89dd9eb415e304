-- Rows that were removed.
use Rattle.std.proofs.Common.{◌≡◌, inl, inr, ℕ, zero, suc, ◌+◌, ◌<◌, ◌≤◌, add-one, append_assoc, arith, length, length-append, get_or, take, Bool, true, false, cond, ◌||◌, List, [], ◌∷◌, ◌++◌, Option, None, Some, IsSome, is_some, refl, sym, ap, subst, ◌∙◌, true≢false}
use Rattle.std.specs.Prelude.{filter}
use Rattle.std.specs.Option.{option_map}
use Rattle.std.proofs.Math.Seq.{take-suc}
use Rattle.pe_arena.specs.declared.handle.Handle.{Handle}
use Rattle.pe_arena.specs.Slots.{Slot, Slots, live, mark, emptied, Updates}
use Rattle.pe_frames.specs.declared.row.Row.{Row}
use Rattle.pe_frames.specs.Forest.{same_handle, has_handle}
use Rattle.pe_frames.specs.Neighbours.{SameMarks, Removes, doc_before, docs_at}
use Rattle.pe_frames.specs.Order.{AreOnce}
use Rattle.pe_frames.specs.Kept.{Kept, joined, shown, kept, Sweeps, IsSwept}
use Rattle.pe_frames.proofs.Handles.{has-push, same_handle-Decides, same_or_other}
use Rattle.pe_frames.proofs.Writes.{map-set_same, different, SameMarks-refl, SameMarks-then}
use Rattle.std.proofs.Math.Bool.{or-true}
use Rattle.std.proofs.lemmas.Bool.{or_right}

swept-known : (p : Handle → Bool) (k : Handle) (hs : List Handle) → has_handle k (filter p hs) ≡ true → has_handle k hs ≡ true
swept-known p k [] e = e
swept-known p k (h ∷ hs) e = by_test (p h) e (λ q. swept-known p k hs q)
  where
    keep : (b c d : Bool) → (c ≡ true → d ≡ true) → (b || c) ≡ true → (b || d) ≡ true
    keep true c d f q = refl
    keep false c d f q = f q

    by_test : (b : Bool) → has_handle k (cond b (h ∷ filter p hs) (filter p hs)) ≡ true → (has_handle k (filter p hs) ≡ true → has_handle k hs ≡ true) → has_handle k (h ∷ hs) ≡ true
    by_test true q rest = keep (same_handle h k) (has_handle k (filter p hs)) (has_handle k hs) rest q
    by_test false q rest = or_right (same_handle h k) (has_handle k hs) (rest q)

swept-listed : (p : Handle → Bool) (k : Handle) → p k ≡ true → (hs : List Handle) → has_handle k hs ≡ true → has_handle k (filter p hs) ≡ true
swept-listed p k t [] e = e
swept-listed p k t (h ∷ hs) e = elim (same_or_other h k) as (λ _. has_handle k (cond (p h) (h ∷ filter p hs) (filter p hs)) ≡ true) [
  | inl q ↦
      ap (λ b. has_handle k (cond b (h ∷ filter p hs) (filter p hs))) (ap p ((same_handle-Decides h k).0 q) ∙ t)
      ∙ ap (λ b. b || has_handle k (filter p hs)) q
  | inr q ↦ keep (p h) (swept-listed p k t hs (ap (λ b. b || has_handle k hs) (sym q) ∙ e))
]
  where
    keep : (b : Bool) → has_handle k (filter p hs) ≡ true → has_handle k (cond b (h ∷ filter p hs) (filter p hs)) ≡ true
    keep true r = ap (λ c. same_handle h k || c) r ∙ or-true (same_handle h k)
    keep false r = r

module _ {D : Type 0} where
  -- one row was taken out
  pub Removes-one : (s t : Slots (Row D)) (h : Handle) → t ≡ emptied s h.slot → Updates s t h None → Removes s t (h ∷ [])
  Removes-one s t h is up = record {
    rows = rows;
    same = subst (λ x. SameMarks s x) (sym is) (record {
      marks = map-set_same (λ (x : Slot (Row D)). x.mark) s.slots h.slot (record { mark = mark s h.slot; value = None }) (record { mark = s.first; value = None }) refl;
      made = refl;
      limit = refl;
      first = refl;
    });
  }
    where
      rows : (k : Handle) → live t k ≡ cond (has_handle k (h ∷ [])) None (live s k)
      rows k = elim (same_or_other h k) as (λ _. live t k ≡ cond (same_handle h k || false) None (live s k)) [
        | inl e ↦ ap (live t) (sym ((same_handle-Decides h k).0 e)) ∙ up.changed ∙ ap (λ b. cond (b || false) None (live s k)) (sym e)
        | inr e ↦ up.others k (λ x. different h k e (sym x)) ∙ ap (λ b. cond (b || false) None (live s k)) (sym e)
      ]

  -- none was taken out
  pub Removes-none : (s : Slots (Row D)) → Removes s s []
  Removes-none s = record { rows = λ k. refl; same = SameMarks-refl s }

  -- one more was taken out
  pub Removes-push : (a b c : Slots (Row D)) (ks : List Handle) (h : Handle) → Removes a b ks → Removes b c (h ∷ []) → Removes a c (ks ++ h ∷ [])
  Removes-push a b c ks h x y = record {
    rows = λ k. y.rows k ∙ ap (cond (same_handle h k || false) None) (x.rows k) ∙ both (has_handle k ks) (same_handle h k) (live a k) ∙ ap (λ t. cond t None (live a k)) (sym (has-push k h ks));
    same = SameMarks-then a b c x.same y.same;
  }
    where
      both : (p q : Bool) (o : Option (Row D)) → cond (q || false) None (cond p None o) ≡ cond (p || q) None o
      both true true o = refl
      both true false o = refl
      both false true o = refl
      both false false o = refl

  before-append : (o : Option (Row D)) (xs ys : List D) → doc_before o (xs ++ ys) ≡ doc_before o xs ++ ys
  before-append None xs ys = refl
  before-append (Some r) xs ys = refl

  -- the documents of one more
  pub docs-push : (s : Slots (Row D)) (ks : List Handle) (h : Handle) → docs_at s (ks ++ h ∷ []) ≡ docs_at s ks ++ docs_at s (h ∷ [])
  docs-push s [] h = refl
  docs-push s (k ∷ ks) h = ap (doc_before (live s k)) (docs-push s ks h) ∙ before-append (live s k) (docs_at s ks) (docs_at s (h ∷ []))

  -- the document of a row that stands as before
  pub docs-still : (a b : Slots (Row D)) (ks : List Handle) (h : Handle) → Removes a b ks → has_handle h ks ≡ false → docs_at b (h ∷ []) ≡ docs_at a (h ∷ [])
  docs-still a b ks h x e = ap (λ o. doc_before o []) (x.rows h ∙ ap (λ t. cond t None (live a h)) e)

  -- the list of live handles, swept
  abbrev pub is_shown : Slots (Row D) → Handle → Bool
  is_shown s h = is_some (live s h)

  kept-swept : (s : Slots (Row D)) (hs : List Handle) (xs : List (Kept D)) → kept s (filter (is_shown s) hs) xs ≡ kept s hs xs
  unfolding kept
  kept-swept s [] xs = refl
  kept-swept s (h ∷ hs) xs = by_row (live s h) refl (λ ys. kept-swept s hs ys)
    where
      by_row : (o : Option (Row D)) → live s h ≡ o → ((ys : List (Kept D)) → kept s (filter (is_shown s) hs) ys ≡ kept s hs ys) → kept s (cond (is_shown s h) (h ∷ filter (is_shown s) hs) (filter (is_shown s) hs)) xs ≡ kept s hs (joined h (shown s h) xs)
      by_row None e rest =
          ap (λ o. kept s (cond (is_some o) (h ∷ filter (is_shown s) hs) (filter (is_shown s) hs)) xs) e
          ∙ rest xs
          ∙ ap (λ (o : Option (Row D)). kept s hs (joined h (option_map (λ r. r.node) o) xs)) (sym e)
      by_row (Some r) e rest =
          ap (λ o. kept s (cond (is_some o) (h ∷ filter (is_shown s) hs) (filter (is_shown s) hs)) xs) e
          ∙ rest (joined h (shown s h) xs)

  -- as many frames are kept as handles are live
  length-kept : (s : Slots (Row D)) (hs : List Handle) (xs : List (Kept D)) → length (kept s hs xs) ≡ length (filter (is_shown s) hs) + length xs
  unfolding kept
  length-kept s [] xs = omega arith
  length-kept s (h ∷ hs) xs = by_row (live s h) refl (λ ys. length-kept s hs ys)
    where
      by_row : (o : Option (Row D)) → live s h ≡ o → ((ys : List (Kept D)) → length (kept s hs ys) ≡ length (filter (is_shown s) hs) + length ys)
          → length (kept s hs (joined h (shown s h) xs)) ≡ length (cond (is_shown s h) (h ∷ filter (is_shown s) hs) (filter (is_shown s) hs)) + length xs
      by_row None e rest =
          let more = ap (λ (o : Option (Row D)). length (kept s hs (joined h (option_map (λ r. r.node) o) xs))) e in
          let less = ap (λ (o : Option (Row D)). length (cond (is_some o) (h ∷ filter (is_shown s) hs) (filter (is_shown s) hs))) e in
          let n = rest xs in
          omega (arith, more, less, n)
      by_row (Some r) e rest =
          let more = ap (λ (o : Option (Row D)). length (kept s hs (joined h (option_map (λ r. r.node) o) xs))) e in
          let less = ap (λ (o : Option (Row D)). length (cond (is_some o) (h ∷ filter (is_shown s) hs) (filter (is_shown s) hs))) e in
          let n = rest (record { handle = h; node = r.node } ∷ xs) in
          omega (arith, more, less, n)

  live_of : (o : Option (Row D)) → IsSome (option_map (λ r. r.node) o) → is_some o ≡ true
  live_of None p = absurd (true≢false (sym p))
  live_of (Some r) p = refl

  pub Sweeps-filter : (s : Slots (Row D)) (old new : List Handle) → new ≡ filter (is_shown s) old → Sweeps s old new
  Sweeps-filter s old new e = subst (λ hs. Sweeps s old hs) (sym e) (record {
    same = kept-swept s old [];
    listed = λ h p q. swept-listed (is_shown s) h (live_of (live s h) p) old q;
    known = λ h q. swept-known (is_shown s) h old q;
  })

  -- no dead handle is listed then
  pub IsSwept-filter : (s : Slots (Row D)) (old new : List Handle) → new ≡ filter (is_shown s) old → IsSwept s new 0
  IsSwept-filter s old new e =
      let n = ap length e in
      let same = ap length (ap (λ hs. kept s hs []) e ∙ kept-swept s old []) in
      let all = length-kept s old [] in
      record { counted = omega (arith, n, same, all); half = omega arith }

get-has : (ks : List Handle) (i : ℕ) (d : Handle) → i < length ks → has_handle (get_or ks i d) ks ≡ true
get-has [] i d lt = absurd (omega (arith, lt))
get-has (k ∷ ks) zero d lt = ap (λ b. b || has_handle k ks) ((same_handle-Decides k k).1 refl)
get-has (k ∷ ks) (suc i) d lt = ap (λ b. same_handle k (get_or ks i d) || b) (get-has ks i d (omega (arith, lt))) ∙ or-true (same_handle k (get_or ks i d))

-- what stands at a place does not stand before it
pub once-at : (ks : List Handle) (i : ℕ) (d : Handle) → AreOnce ks → i < length ks → has_handle (get_or ks i d) (take i ks) ≡ false
once-at [] i d once lt = absurd (omega (arith, lt))
once-at (k ∷ ks) zero d once lt = refl
once-at (k ∷ ks) (suc i) d once lt =
    ap (λ b. b || has_handle (get_or ks i d) (take i ks)) other
    ∙ once-at ks i d once.1 (omega (arith, lt))
  where
    other : same_handle k (get_or ks i d) ≡ false
    other = elim (same_or_other k (get_or ks i d)) as (λ _. same_handle k (get_or ks i d) ≡ false) [
      | inl t ↦ absurd (true≢false (sym (ap (λ x. has_handle x ks) ((same_handle-Decides k (get_or ks i d)).0 t) ∙ get-has ks i d (omega (arith, lt))) ∙ once.0))
      | inr f ↦ f
    ]

module _ {D : Type 0} where
  -- one more handle of the list was removed
  pub Removes-step : (a b c : Slots (Row D)) (ks : List Handle) (i : ℕ) (d : Handle) → i < length ks → Removes a b (take i ks) → Removes b c (get_or ks i d ∷ []) → Removes a c (take (i + 1) ks)
  Removes-step a b c ks i d lt x y = subst (Removes a c) (sym (ap (λ n. take n ks) (add-one i) ∙ take-suc ks i d lt)) (Removes-push a b c (take i ks) (get_or ks i d) x y)

  -- and its document was put behind the others
  pub docs-step : (a b : Slots (Row D)) (ks : List Handle) (i : ℕ) (d : Handle) → i < length ks → AreOnce ks → Removes a b (take i ks) → (xs ys zs : List D) → ys ≡ xs ++ docs_at a (take i ks) → zs ≡ ys ++ docs_at b (get_or ks i d ∷ []) → zs ≡ xs ++ docs_at a (take (i + 1) ks)
  docs-step a b ks i d lt once x xs ys zs e f =
      f
      ∙ ap (λ us. us ++ docs_at b (get_or ks i d ∷ [])) e
      ∙ ap (λ us. (xs ++ docs_at a (take i ks)) ++ us) (docs-still a b (take i ks) (get_or ks i d) x (once-at ks i d once lt))
      ∙ append_assoc xs (docs_at a (take i ks)) (docs_at a (get_or ks i d ∷ []))
      ∙ ap (λ us. xs ++ us) (sym (docs-push a (take i ks) (get_or ks i d)))
      ∙ ap (λ us. xs ++ docs_at a us) (sym (ap (λ n. take n ks) (add-one i) ∙ take-suc ks i d lt))

  pub one-more : (o : Option (Row D)) (xs : List D) → length (xs ++ doc_before o []) ≤ length xs + 1
  one-more None xs = let n = length-append xs [] in omega (arith, n)
  one-more (Some r) xs = let n = length-append xs (r.node.doc ∷ []) in omega (arith, n)
