-- What a search by halves among the numbers that were given finds.
use Rattle.std.proofs.Common.{◌≡◌, ℕ, zero, suc, ◌<◌, ◌≤◌, Bool, false, cond, List, [], ◌∷◌, length, Some, None, refl, sym, ap, ◌∙◌, arith, inl, inr}
use Rattle.std.specs.Prelude.{◌==◌, slice_index_or}
use Rattle.std.specs.Ordering.{nat_cmp, ordering_index}
use Rattle.std.specs.declared.cmp.Ordering.TheVariants.{Less, Equal, Greater}
use Rattle.std.specs.List.{HoldsAt}
use Rattle.std.specs.List.Sorted.{IsNonDecreasingBy, IsPartitionPoint}
use Rattle.std.proofs.lemmas.Bool.{cases_lt}
use Rattle.std.proofs.lemmas.Bool.Decides.{nat_tests, Decides-eqb}
use Rattle.pe_status.specs.declared.giving.Given.{Given}
use Rattle.pe_status.specs.Registry.{AreAbove, AreRising}
use Rattle.pe_status.specs.Kept.{numbers, pair_given}

above-at : (gs : List Given) (m j : ℕ) (d : Given) → AreAbove m (numbers gs) → j < length gs → m < (slice_index_or gs j d).no
above-at [] m j d above lt = absurd (omega (arith, lt))
above-at (g ∷ gs) m zero d above lt = above.0
above-at (g ∷ gs) m (suc j) d above lt = above-at gs m j d above.1 (omega (arith, lt))

rising-at : (gs : List Given) (i j : ℕ) (d : Given) → AreRising (numbers gs) → i ≤ j → j < length gs → (slice_index_or gs i d).no ≤ (slice_index_or gs j d).no
rising-at [] i j d rising le lt = absurd (omega (arith, lt))
rising-at (g ∷ gs) zero zero d rising le lt = omega arith
rising-at (g ∷ gs) zero (suc j) d rising le lt = let above = above-at gs g.no j d rising.0 (omega (arith, lt)) in omega (arith, above)
rising-at (g ∷ gs) (suc i) zero d rising le lt = absurd (omega (arith, le))
rising-at (g ∷ gs) (suc i) (suc j) d rising le lt = rising-at gs i j d rising.1 (omega (arith, le)) (omega (arith, lt))

index-rises : (a b n : ℕ) → a ≤ b → ordering_index (nat_cmp a n) ≤ ordering_index (nat_cmp b n)
index-rises a b n le = grind (arith, nat_tests)

equal-is : (a n : ℕ) → nat_cmp a n ≡ Equal → a ≡ n
equal-is a n h = grind (arith, nat_tests)

less-not : (a n : ℕ) → nat_cmp a n ≡ Less → a ≡ n → ⊥
less-not a n h e = grind (arith, nat_tests)

greater-not : (a n : ℕ) → nat_cmp a n ≡ Greater → a ≡ n → ⊥
greater-not a n h e = grind (arith, nat_tests)

given-at : (gs : List Given) (n i : ℕ) (d : Given) → AreRising (numbers gs) → i < length gs → (slice_index_or gs i d).no ≡ n → pair_given gs n ≡ Some (slice_index_or gs i d).pair
given-at [] n i d rising lt is = absurd (omega (arith, lt))
given-at (g ∷ gs) n zero d rising lt is = ap (λ (b : Bool). cond b (Some g.pair) (pair_given gs n)) ((Decides-eqb g.no n).1 is)
given-at (g ∷ gs) n (suc i) d rising lt is =
    let above = above-at gs g.no i d rising.0 (omega (arith, lt)) in
    ap (λ (b : Bool). cond b (Some g.pair) (pair_given gs n)) (earlier g.no (omega (arith, above, is))) ∙ given-at gs n i d rising.1 (omega (arith, lt)) is
  where
    earlier : (a : ℕ) → a < n → (a == n) ≡ false
    earlier a lt' = grind (arith, nat_tests)

given-nowhere : (gs : List Given) (n : ℕ) → ((j : ℕ) (d : Given) → j < length gs → (slice_index_or gs j d).no ≡ n → ⊥) → pair_given gs n ≡ None
given-nowhere [] n h = refl
given-nowhere (g ∷ gs) n h =
    ap (λ (b : Bool). cond b (Some g.pair) (pair_given gs n)) (other (h zero g (omega arith))) ∙ given-nowhere gs n (λ j d lt. h (suc j) d (omega (arith, lt)))
  where
    other : (g.no ≡ n → ⊥) → (g.no == n) ≡ false
    other ne = grind (arith, nat_tests)

pub searched-found : (gs : List Given) (n i : ℕ) (d : Given) → AreRising (numbers gs) → i < length gs → HoldsAt (λ g. nat_cmp g.no n ≡ Equal) gs i → Some (slice_index_or gs i d).pair ≡ pair_given gs n
searched-found gs n i d rising lt holds = sym (given-at gs n i d rising lt (equal-is (slice_index_or gs i d).no n (holds d)))

pub searched-none : (gs : List Given) (n i : ℕ) → AreRising (numbers gs)
    → (IsNonDecreasingBy (λ g. ordering_index (nat_cmp g.no n)) gs → IsPartitionPoint (λ g. nat_cmp g.no n ≡ Less) (λ g. nat_cmp g.no n ≡ Greater) gs i) → None ≡ pair_given gs n
searched-none gs n i rising h = sym (given-nowhere gs n nowhere)
  where
    parts : IsPartitionPoint (λ g. nat_cmp g.no n ≡ Less) (λ g. nat_cmp g.no n ≡ Greater) gs i
    parts = h (λ a b d le lt. index-rises (slice_index_or gs a d).no (slice_index_or gs b d).no n (rising-at gs a b d rising le lt))

    nowhere : (j : ℕ) (d : Given) → j < length gs → (slice_index_or gs j d).no ≡ n → ⊥
    nowhere j d lt is = elim (cases_lt j i) as (λ _. ⊥) [
      | inl e ↦ less-not (slice_index_or gs j d).no n (parts.0 j d (omega arith) e) is
      | inr e ↦ greater-not (slice_index_or gs j d).no n (parts.1 j d e lt) is
    ]
