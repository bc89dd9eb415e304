-- What an arena keeps, through an insert and a removal.
use Rattle.std.proofs.Common.{◌≡◌, ◌≢◌, ◌⊎◌, inl, inr, ℕ, ◌+◌, ◌<◌, ◌≤◌, ◌^◌, true, false, List, [], ◌∷◌, ◌++◌, length, set, Option, None, Some, IsSome, is_some, refl, sym, ap, subst, ◌∙◌, arith, true≢false, get_or-set_same, get_or-set_other, nat_eq}
use Rattle.std.proofs.lemmas.Bool.Decides.{nat_tests}
use Rattle.slab.specs.Slab.{Slab, get, slab_len, Updates}
use Rattle.pe_arena.specs.declared.arena.Row.{Row}
use Rattle.pe_arena.specs.Rows.{row_at, no_row, once, free_once, times, under, IsArena}
use Rattle.pe_arena.proofs.Lists.{get_or-push_before, get_or-push_last}

-- the rows changed at one place alone, to this row
pub record Changed (rows new : List Row) (i : ℕ) (r : Row) : Type 0 where
  pub here : row_at new i ≡ r
  pub there : (j : ℕ) → j ≢ i → row_at new j ≡ row_at rows j

pub Changed-set : (rows : List Row) (i : ℕ) (r : Row) → i < length rows → Changed rows (set rows i r) i r
Changed-set rows i r lt = record {
  here = get_or-set_same rows i r no_row lt;
  there = λ j ne. get_or-set_other rows i j r no_row ne;
}

pub Changed-push : (rows : List Row) (r : Row) → Changed rows (rows ++ r ∷ []) (length rows) r
Changed-push rows r = record {
  here = get_or-push_last rows r no_row;
  there = λ j ne. get_or-push_before rows r no_row j ne;
}

pub same_or_not : (a b : ℕ) → (a ≡ b) ⊎ (a ≢ b)
same_or_not a b = (elim (nat_eq a b) as (λ t. nat_eq a b ≡ t → (a ≡ b) ⊎ (a ≢ b)) [
  | true ↦ λ e. inl (grind (arith, nat_tests))
  | false ↦ λ e. inr (grind (arith, nat_tests))
]) refl

none_some : {A : Type 0} (o : Option A) → o ≡ None → IsSome o → ⊥
none_some o e p = true≢false (sym p ∙ ap is_some e)

some_key : (o : Option ℕ) (k : ℕ) → o ≡ Some k → o ≡ None → ⊥
some_key o k e n = true≢false (sym (ap is_some e) ∙ ap is_some n)

-- a slot that is listed as free
pub record IsFreeRow (r : Row) : Type 0 where
  pub empty : r.key ≡ None
  pub left : r.generation + 1 < 2 ^ 64

free_row : (r : Row) (o : Option ℕ) → r.key ≡ o → 0 < once r.generation o → IsFreeRow r
free_row r None e p = record { empty = e; left = grind (arith, nat_tests) }
free_row r (Some k) e p = absurd (omega arith)

pub IsFreeRow-once : (r : Row) → 0 < free_once r → IsFreeRow r
IsFreeRow-once r p = free_row r r.key refl p

retired : (g : ℕ) (o : Option ℕ) → 2 ^ 64 ≤ g + 1 → once g o ≡ 0
retired g None p = grind (arith, nat_tests)
retired g (Some k) p = refl

-- a slot whose last generation was the greatest is not listed
pub once-retired : (r : Row) → 2 ^ 64 ≤ r.generation + 1 → free_once r ≡ 0
once-retired r p = retired r.generation r.key p

at_most_once : (g : ℕ) (o : Option ℕ) → once g o ≤ 1
at_most_once g None = grind (arith, nat_tests)
at_most_once g (Some k) = omega arith

pub once-le : (r : Row) → free_once r ≤ 1
once-le r = at_most_once r.generation r.key

free_counts : (g : ℕ) → g + 1 < 2 ^ 64 → once g None ≡ 1
free_counts g left = grind (arith, nat_tests)

pub once-free : (r : Row) → IsFreeRow r → free_once r ≡ 1
once-free r f = ap (once r.generation) f.empty ∙ free_counts r.generation f.left

pub once-keyed : (r : Row) (k : ℕ) → r.key ≡ Some k → free_once r ≡ 0
once-keyed r k e = ap (once r.generation) e

module _ {T : Type 0} where
  -- an insert under a new key
  module _ (s t : Slab T) (k : ℕ) (v : T) (up : Updates s t k (Some v)) (vacant : get s k ≡ None)
      (rows : List Row) (free : List ℕ) (room limit made : ℕ) (is : IsArena s rows free room limit made) where
    -- what a row with a key held, it holds
    other_key : (j m : ℕ) → (row_at rows j).key ≡ Some m → m ≢ k
    other_key j m e = λ q. none_some (get s m) (ap (get s) q ∙ vacant) (is.held j m e)

    pub kept_under : (j : ℕ) (o : Option ℕ) → (row_at rows j).key ≡ o → under t o ≡ under s o
    kept_under j None e = refl
    kept_under j (Some m) e = up.others m (other_key j m e)

    module _ (i : ℕ) (r : Row) (keyed : r.key ≡ Some k) (new : List Row) (change : Changed rows new i r) where
      key_here : (row_at new i).key ≡ Some k
      key_here = ap (λ x. x.key) change.here ∙ keyed

      key_there : (j m : ℕ) → j ≢ i → (row_at new j).key ≡ Some m → (row_at rows j).key ≡ Some m
      key_there j m ne e = sym (ap (λ x. x.key) (change.there j ne)) ∙ e

      same_key : (a b : ℕ) → Some a ≡ Some b → a ≡ b
      same_key a b e = cc

      held_after : (j m : ℕ) → (row_at new j).key ≡ Some m → IsSome (get t m)
      held_after j m e = elim (same_or_not j i) as (λ _. IsSome (get t m)) [
        | inl q ↦
            let mk : m ≡ k = same_key m k (sym e ∙ ap (λ n. (row_at new n).key) q ∙ key_here) in
            ap is_some (ap (get t) mk ∙ up.changed)
        | inr ne ↦
            let old = key_there j m ne e in
            ap is_some (up.others m (other_key j m old)) ∙ is.held j m old
      ]

      apart_after : (a b m : ℕ) → (row_at new a).key ≡ Some m → (row_at new b).key ≡ Some m → a ≡ b
      apart_after a b m ea eb = elim (same_or_not a i) as (λ _. a ≡ b) [
        | inl qa ↦ elim (same_or_not b i) as (λ _. a ≡ b) [
          | inl qb ↦ qa ∙ sym qb
          | inr nb ↦
              let mk : m ≡ k = same_key m k (sym ea ∙ ap (λ n. (row_at new n).key) qa ∙ key_here) in
              absurd (other_key b m (key_there b m nb eb) mk)
        ]
        | inr na ↦ elim (same_or_not b i) as (λ _. a ≡ b) [
          | inl qb ↦
              let mk : m ≡ k = same_key m k (sym eb ∙ ap (λ n. (row_at new n).key) qb ∙ key_here) in
              absurd (other_key a m (key_there a m na ea) mk)
          | inr nb ↦ is.apart a b m (key_there a m na ea) (key_there b m nb eb)
        ]
      ]

      module _ (left : List ℕ) (gone : times i left ≡ 0) (rest : (j : ℕ) → j ≢ i → times j left ≡ times j free) where
        listed_after : (j : ℕ) → times j left ≡ free_once (row_at new j)
        listed_after j = elim (same_or_not j i) as (λ _. times j left ≡ free_once (row_at new j)) [
          | inl q ↦ ap (λ n. times n left) q ∙ gone ∙ sym (once-keyed (row_at new i) k key_here) ∙ ap (λ n. free_once (row_at new n)) (sym q)
          | inr ne ↦ rest j ne ∙ is.listed j ∙ ap free_once (sym (change.there j ne))
        ]

        pub IsArena-insert : (wide most : ℕ) → length new ≤ limit → length new ≤ most → length left + slab_len t ≤ length new → length new ≤ wide → IsArena t new left wide limit most
        IsArena-insert wide most a b c d = record {
          within = a;
          counted = b;
          held = held_after;
          apart = apart_after;
          listed = listed_after;
          spare = c;
          roomy = d;
        }

  -- a removal of a row's key
  module _ (s t : Slab T) (k : ℕ) (up : Updates s t k None)
      (rows : List Row) (free : List ℕ) (room limit made : ℕ) (is : IsArena s rows free room limit made)
      (i : ℕ) (at : (row_at rows i).key ≡ Some k) where
    -- another row's key is another one
    different : (j m : ℕ) → j ≢ i → (row_at rows j).key ≡ Some m → m ≢ k
    different j m ne e = λ q. ne (is.apart j i k (e ∙ ap Some q) at)

    pub left_under : (j : ℕ) → j ≢ i → (o : Option ℕ) → (row_at rows j).key ≡ o → under t o ≡ under s o
    left_under j ne None e = refl
    left_under j ne (Some m) e = up.others m (different j m ne e)

    pub not_listed : times i free ≡ 0
    not_listed = is.listed i ∙ once-keyed (row_at rows i) k at

    module _ (r : Row) (unkeyed : r.key ≡ None) (new : List Row) (change : Changed rows new i r) where
      elsewhere : (j m : ℕ) → (row_at new j).key ≡ Some m → j ≢ i
      elsewhere j m e = λ q. some_key _ m e (ap (λ n. (row_at new n).key) q ∙ ap (λ x. x.key) change.here ∙ unkeyed)

      key_before : (j m : ℕ) → (row_at new j).key ≡ Some m → (row_at rows j).key ≡ Some m
      key_before j m e = sym (ap (λ x. x.key) (change.there j (elsewhere j m e))) ∙ e

      module _ (more : List ℕ) (freed : times i more ≡ free_once r) (rest : (j : ℕ) → j ≢ i → times j more ≡ times j free) where
        listed_then : (j : ℕ) → times j more ≡ free_once (row_at new j)
        listed_then j = elim (same_or_not j i) as (λ _. times j more ≡ free_once (row_at new j)) [
          | inl q ↦ ap (λ n. times n more) q ∙ freed ∙ ap free_once (sym change.here) ∙ ap (λ n. free_once (row_at new n)) (sym q)
          | inr ne ↦ rest j ne ∙ is.listed j ∙ ap free_once (sym (change.there j ne))
        ]

        pub IsArena-remove : (wide : ℕ) → length new ≤ limit → length new ≤ made → length more + slab_len t ≤ length new → length new ≤ wide → IsArena t new more wide limit made
        IsArena-remove wide a b c d = record {
          within = a;
          counted = b;
          held = λ j m e. let old = key_before j m e in ap is_some (up.others m (different j m (elsewhere j m e) old)) ∙ is.held j m old;
          apart = λ a b m ea eb. is.apart a b m (key_before a m ea) (key_before b m eb);
          listed = listed_then;
          spare = c;
          roomy = d;
        }

  -- the slab grew, and nothing else changed
  pub IsArena-grown : (s t : Slab T) (rows : List Row) (free : List ℕ) (room limit made : ℕ) → t ≡ record s { capacity = t.capacity } → IsArena s rows free room limit made → IsArena t rows free room limit made
  IsArena-grown s t rows free room limit made e is =
      subst (λ (x : Slab T). IsArena x rows free room limit made) (sym e) (record {
        within = is.within;
        counted = is.counted;
        held = is.held;
        apart = is.apart;
        listed = is.listed;
        spare = is.spare;
        roomy = is.roomy;
      })

  -- nothing was inserted yet
  pub IsArena-none : (s : Slab T) (room limit : ℕ) → s.slots ≡ [] → IsArena s [] [] room limit 0
  IsArena-none s room limit none = record {
    within = omega arith;
    counted = omega arith;
    held = λ i k e. absurd cc;
    apart = λ i j k e f. absurd cc;
    listed = λ i. refl;
    spare = rw none (omega arith);
    roomy = omega arith;
  }
