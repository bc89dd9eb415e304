-- Reading one thing after the other, as a loop does.
use Rattle.std.proofs.Common.{◌≡◌, ℕ, zero, suc, ◌<◌, ◌≤◌, List, [], ◌∷◌, ◌++◌, length, Option, Some, None, refl, ap, sym, ◌∙◌, append_assoc, append-nil, arith}
use Rattle.pe_fields.specs.Reading.{Read, option_map_or, each}

-- what was read leaves less
abbrev pub Shrinks : {A : Type 0} → (List ℕ → Read A) → Type 0
Shrinks {A} one = (text : List ℕ) (r : A × List ℕ) → one text ≡ Some r → length r.1 < length text

-- a bound that is large enough does not matter
pub each_enough : {A : Type 0} (one : List ℕ → Read A) → Shrinks one → (n m : ℕ) (text : List ℕ) → length text ≤ n → length text ≤ m → each one n text ≡ each one m text
unfolding each
each_enough one s zero zero text l k = refl
each_enough {A} one s zero (suc m) text l k =
    let go : A × List ℕ → List A × List ℕ = λ r. let others = each one m r.1 in (r.0 ∷ others.0, others.1) in
    let M : Option (A × List ℕ) → Type 0 = λ o. one text ≡ o → each one zero text ≡ option_map_or (each one zero text) go o in
    (elim (one text) as M [ None ↦ λ e. refl | Some r ↦ λ e. let t : length r.1 < length text = s text r e in absurd (omega arith) ]) refl
each_enough {A} one s (suc n) zero text l k =
    let go : A × List ℕ → List A × List ℕ = λ r. let others = each one n r.1 in (r.0 ∷ others.0, others.1) in
    let M : Option (A × List ℕ) → Type 0 = λ o. one text ≡ o → option_map_or (each one zero text) go o ≡ each one zero text in
    (elim (one text) as M [ None ↦ λ e. refl | Some r ↦ λ e. let t : length r.1 < length text = s text r e in absurd (omega arith) ]) refl
each_enough {A} one s (suc n) (suc m) text l k =
    let go : A × List ℕ → List A × List ℕ = λ r. let others = each one n r.1 in (r.0 ∷ others.0, others.1) in
    let come : A × List ℕ → List A × List ℕ = λ r. let others = each one m r.1 in (r.0 ∷ others.0, others.1) in
    let M : Option (A × List ℕ) → Type 0 = λ o. one text ≡ o → option_map_or (each one zero text) go o ≡ option_map_or (each one zero text) come o in
    (elim (one text) as M [
      | None ↦ λ e. refl
      | Some r ↦ λ e.
          let t : length r.1 < length text = s text r e in
          ap (λ (others : List A × List ℕ). (r.0 ∷ others.0, others.1)) (each_enough one s n m r.1 (omega arith) (omega arith))
    ]) refl

-- what was read before, and what is still read
abbrev pub with_front : {A : Type 0} → List A → List A × List ℕ → List A × List ℕ
with_front front read = (front ++ read.0, read.1)

-- all that can be read
abbrev pub all : {A : Type 0} → (List ℕ → Read A) → List ℕ → List A × List ℕ
all one text = each one (length text) text

pub all_goes_on : {A : Type 0} (one : List ℕ → Read A) → Shrinks one → (front : List A) (rest : List ℕ) (x : A) (after : List ℕ) (total : List A × List ℕ) → one rest ≡ Some (x, after) → with_front front (all one rest) ≡ total → with_front (front ++ x ∷ []) (all one after) ≡ total
unfolding each
all_goes_on {A} one s front rest x after total e so_far =
    let t : length after < length rest = s rest (x, after) e in
    let longer : all one rest ≡ each one (suc (length rest)) rest = each_enough one s (length rest) (suc (length rest)) rest (omega arith) (omega arith) in
    let turn : each one (suc (length rest)) rest ≡ (x ∷ (each one (length rest) after).0, (each one (length rest) after).1) = rw e refl in
    let same : each one (length rest) after ≡ all one after = each_enough one s (length rest) (length after) after (omega arith) (omega arith) in
    let step : with_front front (all one rest) ≡ with_front front (x ∷ (all one after).0, (all one after).1) = ap (with_front front) (longer ∙ turn ∙ ap (λ (others : List A × List ℕ). (x ∷ others.0, others.1)) same) in
    ap (λ (xs : List A). (xs, (all one after).1)) (append_assoc front (x ∷ []) (all one after).0) ∙ sym step ∙ so_far

pub all_ends : {A : Type 0} (one : List ℕ → Read A) → Shrinks one → (front : List A) (rest : List ℕ) (total : List A × List ℕ) → one rest ≡ None → with_front front (all one rest) ≡ total → total ≡ (front, rest)
unfolding each
all_ends {A} one s front rest total e so_far =
    let longer : all one rest ≡ each one (suc (length rest)) rest = each_enough one s (length rest) (suc (length rest)) rest (omega arith) (omega arith) in
    let turn : each one (suc (length rest)) rest ≡ ([], rest) = rw e refl in
    sym so_far ∙ ap (with_front front) (longer ∙ turn) ∙ ap (λ (xs : List A). (xs, rest)) (append-nil front)
