-- What a contract sees of an arena, through an insert, a removal and a write.
use Rattle.std.proofs.Common.{◌≡◌, ◌≢◌, ℕ, zero, suc, ◌+◌, ◌<◌, ◌^◌, Bool, true, false, cond, List, [], ◌∷◌, ◌++◌, map, length, get_or, set, Option, None, Some, IsSome, is_some, refl, sym, ap, ◌∙◌, arith, true≢false, get_or-set_same, get_or-set_other}
use Rattle.std.specs.Prelude.{◌==◌}
use Rattle.std.proofs.lemmas.Bool.Decides.{nat_tests}
use Rattle.std.proofs.lemmas.List.{get_or-map, length-map, map-append, set-get_or}
use Rattle.slab.specs.Slab.{Slab, get, Updates, with_value as slab_with_value}
use Rattle.pe_arena.specs.declared.handle.Handle.{Handle}
use Rattle.pe_arena.specs.declared.arena.Row.{Row}
use Rattle.pe_arena.specs.Rows.{row_at, no_row, times, under, slot_of, IsArena}
use Rattle.pe_arena.specs.Slots.{Slot, Slots, put, live, IsFree, HasNoFree, HasFree}
use Rattle.pe_arena.proofs.Lists.{map-agree, map-set-change, times-first}
use Rattle.pe_arena.proofs.Kept.{kept_under, left_under, IsFreeRow-once, once-free}

pub put-within : {A : Type 0} (xs : List A) (i : ℕ) (x : A) → i < length xs → put xs i x ≡ set xs i x
put-within xs i x lt =
    let e : (i == length xs) ≡ false = grind (arith, nat_tests) in
    ap (λ b. cond b (xs ++ x ∷ []) (set xs i x)) e

pub put-last : {A : Type 0} (xs : List A) (i : ℕ) (x : A) → i ≡ length xs → put xs i x ≡ xs ++ x ∷ []
put-last xs i x same =
    let e : (i == length xs) ≡ true = grind (arith, nat_tests) in
    ap (λ b. cond b (xs ++ x ∷ []) (set xs i x)) e

-- past the list stands the default
pub get_or-past : {A : Type 0} (xs : List A) (i : ℕ) (d : A) → i ≡ length xs → get_or xs i d ≡ d
get_or-past [] zero d e = refl
get_or-past [] (suc i) d e = absurd (omega arith)
get_or-past (x ∷ xs) zero d e = absurd (omega arith)
get_or-past (x ∷ xs) (suc i) d e = get_or-past xs i d (omega arith)

-- a row that has a generation left was made
pub free_within : (rows : List Row) (i : ℕ) → (row_at rows i).generation + 1 < 2 ^ 64 → i < length rows
free_within [] i p = absurd (omega arith)
free_within (r ∷ rows) zero p = omega arith
free_within (r ∷ rows) (suc i) p = let q = free_within rows i p in omega arith

module _ {T : Type 0} where
  -- what a contract sees of rows over a slab
  abbrev pub view_of : Slab T → List Row → (limit first made : ℕ) → Slots T
  view_of s rows limit first made = record { slots = map (slot_of s) rows; limit = limit; first = first; made = made }

  none_there : (b : Bool) (o : Option T) → o ≡ None → IsSome (cond b o None) → ⊥
  none_there true o e h = true≢false (sym h ∙ ap is_some e)
  none_there false o e h = true≢false (sym h)

  within : (xs : List (Slot T)) (d : Slot T) (i g : ℕ) → d.value ≡ None → IsSome (cond ((get_or xs i d).mark == g + 1) (get_or xs i d).value None) → i < length xs
  within [] d i g none p = absurd (none_there _ d.value none p)
  within (x ∷ xs) d zero g none p = omega arith
  within (x ∷ xs) d (suc i) g none p = let q = within xs d i g none p in omega arith

  -- a live handle names a slot that was made
  pub live-within : (s : Slots T) (h : Handle) → IsSome (live s h) → h.slot < length s.slots
  live-within s h p = within s.slots (record { mark = s.first; value = None }) h.slot h.generation refl p

  pub cond-value : (b : Bool) (o : Option T) → IsSome (cond b o None) → cond b o None ≡ o
  cond-value true o h = refl
  cond-value false o h = absurd (true≢false (sym h))

  pub cond-test : (b : Bool) (o : Option T) → IsSome (cond b o None) → b ≡ true
  cond-test true o h = refl
  cond-test false o h = absurd (true≢false (sym h))

  -- the slot of a row that was made
  pub slot-made : (s : Slab T) (rows : List Row) (i : ℕ) (d : Slot T) → i < length rows → get_or (map (slot_of s) rows) i d ≡ slot_of s (row_at rows i)
  slot-made s rows i d lt = get_or-map (slot_of s) rows i no_row d lt

  module _ (s : Slab T) (rows : List Row) (free : List ℕ) (room limit first made most : ℕ) (is : IsArena s rows free room limit made) where
    no_key : (i : ℕ) (o : Option ℕ) → (row_at rows i).key ≡ o → under s o ≡ None → (row_at rows i).key ≡ None
    no_key i None e n = e
    no_key i (Some k) e n = absurd (true≢false (sym (is.held i k e) ∙ ap is_some n))

    -- a free slot is listed
    pub free-listed : (i : ℕ) → IsFree (view_of s rows limit first most) i → times i free ≡ 1
    free-listed i f =
        let lt : i < length rows = omega (arith, f.made, length-map rows (slot_of s)) in
        let at = slot-made s rows i (record { mark = first; value = None }) lt in
        let key = no_key i (row_at rows i).key refl (sym (ap (λ x. x.value) at) ∙ f.empty) in
        let mark = ap (λ x. x.mark) at in
        is.listed i ∙ once-free (row_at rows i) (record { empty = key; left = omega (arith, f.left, mark) })

    -- a listed slot is free
    pub listed-free : (i : ℕ) → 0 < times i free → IsFree (view_of s rows limit first most) i
    listed-free i p =
        let once = is.listed i in
        let f = IsFreeRow-once (row_at rows i) (omega arith) in
        let lt = free_within rows i f.left in
        let at = slot-made s rows i (record { mark = first; value = None }) lt in
        let mark = ap (λ x. x.mark) at in
        record {
          made = omega (arith, lt, length-map rows (slot_of s));
          empty = ap (λ x. x.value) at ∙ ap (under s) f.empty;
          left = omega (arith, f.left, mark);
        }

    pub HasNoFree-seen : free ≡ [] → HasNoFree (view_of s rows limit first most)
    HasNoFree-seen none i f =
        let once = sym (free-listed i f) ∙ ap (times i) none in
        absurd (omega arith)

  pub HasFree-seen : (s : Slab T) (rows : List Row) (free : List ℕ) (room limit first made most : ℕ) → IsArena s rows free room limit made → 0 < length free → HasFree (view_of s rows limit first most)
  HasFree-seen s rows [] room limit first made most is p = absurd (omega arith)
  HasFree-seen s rows (x ∷ xs) room limit first made most is p =
      (x, listed-free s rows (x ∷ xs) room limit first made most is x (omega (arith, times-first x xs)))

  -- an insert under a new key
  module _ (s t : Slab T) (k : ℕ) (v : T) (up : Updates s t k (Some v)) (vacant : get s k ≡ None)
      (rows : List Row) (free : List ℕ) (room limit made : ℕ) (is : IsArena s rows free room limit made) where
    same_slot : (j : ℕ) → slot_of t (row_at rows j) ≡ slot_of s (row_at rows j)
    same_slot j = ap (λ o. record { mark = (row_at rows j).generation + 1; value = o }) (kept_under s t k v up vacant rows free room limit made is j (row_at rows j).key refl)

    pub seen-again : (i g first : ℕ) → i < length rows → g ≡ (row_at rows i).generation →
        map (slot_of t) (set rows i (record { generation = g + 1; key = Some k }))
        ≡ put (map (slot_of s) rows) i (record { mark = (get_or (map (slot_of s) rows) i (record { mark = first; value = None })).mark + 1; value = Some v })
    seen-again i g first lt e =
        let n = length-map rows (slot_of s) in
        let at = slot-made s rows i (record { mark = first; value = None }) lt in
        let m : g + 1 ≡ (get_or (map (slot_of s) rows) i (record { mark = first; value = None })).mark = ap (λ x. x + 1) e ∙ sym (ap (λ x. x.mark) at) in
        map-set-change (slot_of s) (slot_of t) no_row (record { generation = g + 1; key = Some k })
        (record { mark = (get_or (map (slot_of s) rows) i (record { mark = first; value = None })).mark + 1; value = Some v })
        rows i lt
        (ap (λ o. record { mark = g + 1 + 1; value = o }) up.changed ∙ ap (λ x. record { mark = x + 1; value = Some v }) m)
        (λ j ne l. same_slot j)
        ∙ sym (put-within (map (slot_of s) rows) i _ (omega (arith, lt, n)))

    pub seen-new : (i first : ℕ) → i ≡ length rows →
        map (slot_of t) (rows ++ record { generation = first; key = Some k } ∷ [])
        ≡ put (map (slot_of s) rows) i (record { mark = (get_or (map (slot_of s) rows) i (record { mark = first; value = None })).mark + 1; value = Some v })
    seen-new i first e =
        let n = length-map rows (slot_of s) in
        let last : i ≡ length (map (slot_of s) rows) = e ∙ sym n in
        map-append (slot_of t) rows (record { generation = first; key = Some k } ∷ [])
        ∙ ap (λ xs. xs ++ record { mark = first + 1; value = get t k } ∷ []) (map-agree (slot_of s) (slot_of t) no_row rows (λ j l. same_slot j))
        ∙ ap (λ o. map (slot_of s) rows ++ record { mark = first + 1; value = o } ∷ []) up.changed
        ∙ ap (λ (x : Slot T). map (slot_of s) rows ++ record { mark = x.mark + 1; value = Some v } ∷ []) (sym (get_or-past (map (slot_of s) rows) i (record { mark = first; value = None }) last))
        ∙ sym (put-last (map (slot_of s) rows) i _ last)

  -- a removal of a row's key
  module _ (s t : Slab T) (k : ℕ) (up : Updates s t k None)
      (rows : List Row) (free : List ℕ) (room limit made : ℕ) (is : IsArena s rows free room limit made)
      (i : ℕ) (at : (row_at rows i).key ≡ Some k) (lt : i < length rows) where
    pub seen-emptied : (g first : ℕ) → g ≡ (row_at rows i).generation →
        map (slot_of t) (set rows i (record { generation = g; key = None }))
        ≡ set (map (slot_of s) rows) i (record { mark = (get_or (map (slot_of s) rows) i (record { mark = first; value = None })).mark; value = None })
    seen-emptied g first e =
        let m : g + 1 ≡ (get_or (map (slot_of s) rows) i (record { mark = first; value = None })).mark = ap (λ x. x + 1) e ∙ sym (ap (λ x. x.mark) (slot-made s rows i (record { mark = first; value = None }) lt)) in
        map-set-change (slot_of s) (slot_of t) no_row (record { generation = g; key = None })
        (record { mark = (get_or (map (slot_of s) rows) i (record { mark = first; value = None })).mark; value = None })
        rows i lt
        (ap (λ x. record { mark = x; value = None }) m)
        (λ j ne l. ap (λ o. record { mark = (row_at rows j).generation + 1; value = o }) (left_under s t k up rows free room limit made is i at j ne (row_at rows j).key refl))

  -- a write under a row's key
  module _ (s : Slab T) (rows : List Row) (free : List ℕ) (room limit made : ℕ) (is : IsArena s rows free room limit made)
      (i k : ℕ) (at : (row_at rows i).key ≡ Some k) (lt : i < length rows) where
    under_same : (w : T) (j : ℕ) → j ≢ i → (o : Option ℕ) → (row_at rows j).key ≡ o → under (slab_with_value s k w) o ≡ under s o
    under_same w j ne None e = refl
    under_same w j ne (Some m) e = get_or-set_other s.slots k m (Some w) None (λ q. ne (is.apart j i k (e ∙ ap Some q) at))

    slab_within : (xs : List (Option T)) (n : ℕ) → IsSome (get_or xs n None) → n < length xs
    slab_within [] n p = absurd (true≢false (sym p))
    slab_within (x ∷ xs) zero p = omega arith
    slab_within (x ∷ xs) (suc n) p = let q = slab_within xs n p in omega arith

    pub seen-written : (w : T) (first : ℕ) →
        map (slot_of (slab_with_value s k w)) rows
        ≡ set (map (slot_of s) rows) i (record { mark = (get_or (map (slot_of s) rows) i (record { mark = first; value = None })).mark; value = Some w })
    seen-written w first =
        let here = slot-made s rows i (record { mark = first; value = None }) lt in
        ap (map (slot_of (slab_with_value s k w))) (sym (set-get_or rows i no_row))
        ∙ map-set-change (slot_of s) (slot_of (slab_with_value s k w)) no_row (row_at rows i)
        (record { mark = (get_or (map (slot_of s) rows) i (record { mark = first; value = None })).mark; value = Some w })
        rows i lt
        (ap (λ o. record { mark = (row_at rows i).generation + 1; value = under (slab_with_value s k w) o }) at
        ∙ ap (λ o. record { mark = (row_at rows i).generation + 1; value = o }) (get_or-set_same s.slots k (Some w) None (slab_within s.slots k (is.held i k at)))
        ∙ ap (λ (x : Slot T). record { mark = x.mark; value = Some w }) (sym here))
        (λ j ne l. ap (λ o. record { mark = (row_at rows j).generation + 1; value = o }) (under_same w j ne (row_at rows j).key refl))

    -- what stands under a row's key is the value of its slot
    pub seen-value : (first : ℕ) → (get_or (map (slot_of s) rows) i (record { mark = first; value = None })).value ≡ get s k
    seen-value first = ap (λ x. x.value) (slot-made s rows i (record { mark = first; value = None }) lt) ∙ ap (under s) at
