-- Texts whose ends cover them are the same where their ends are.
use Rattle.std.proofs.Common.{◌≡◌, ℕ, ◌-◌, ◌*◌, ◌≤◌, ◌&&◌, ◌++◌, Bool, true, false, true≢false, refl, List, length, take, drop, Option, None, Some, is_some, sym, ap, subst, ◌∙◌, arith, bytes_eq}
use Rattle.std.specs.Prelude.{MatchOption, unwrap_or}
use Rattle.std.proofs.lemmas.Bool.Decides.{Decides-and, Decides-like, same_from_decides}
use Rattle.std.proofs.lemmas.Slice.Eq.{bytes_eq-Decides}
use Rattle.std.proofs.lemmas.List.{take-append-drop, take-append-le, length-take}

-- what stands before the place, by the first n
take-front : (n k : ℕ) (xs : List ℕ) → k ≤ n → n ≤ length xs → take k xs ≡ take k (take n xs)
take-front n k xs le long =
    let size = length-take n xs in
    ap (take k) (sym (take-append-drop n xs)) ∙ take-append-le k (take n xs) (drop n xs) (omega (arith, size, le, long))

-- texts of one length are the same where their first n and their last n are, and these cover them
from-ends : (n : ℕ) (xs ys : List ℕ) → n ≤ length xs → length xs ≤ 2 * n → length ys ≡ length xs → take n xs ≡ take n ys → drop (length xs - n) xs ≡ drop (length ys - n) ys → xs ≡ ys
from-ends n xs ys long covered same first last =
    let k = length xs - n in
    let le : k ≤ n = omega (arith, covered) in
    let long_too : n ≤ length ys = omega (arith, long, same) in
    let front = take-front n k xs le long ∙ ap (take k) first ∙ sym (take-front n k ys le long_too) in
    let back = last ∙ ap (λ m. drop (m - n) ys) same in
    sym (take-append-drop k xs) ∙ ap (λ zs. zs ++ drop k xs) front ∙ ap (λ zs. take k ys ++ zs) back ∙ take-append-drop k ys

-- and the tests of both ends are the test of the texts
pub ends-tell : (n : ℕ) (xs ys : List ℕ) → n ≤ length xs → length xs ≤ 2 * n → length ys ≡ length xs → (bytes_eq (take n xs) (take n ys) && bytes_eq (drop (length xs - n) xs) (drop (length ys - n) ys)) ≡ bytes_eq xs ys
ends-tell n xs ys long covered same =
    same_from_decides _ _
    (Decides-like _ (λ e. from-ends n xs ys long covered same e.0 e.1) (λ q. (ap (take n) q, ap (λ (zs : List ℕ). drop (length zs - n) zs) q))
    (Decides-and _ _ (bytes_eq-Decides (take n xs) (take n ys)) (bytes_eq-Decides (drop (length xs - n) xs) (drop (length ys - n) ys))))
    (bytes_eq-Decides xs ys)

-- the chunk that a search for one gave
pub given : {X : Type 0} (o : Option X) (x : X) (P : Type 0) (Q : X → Type 0) → o ≡ Some x → MatchOption o P Q → Q x
given None x P Q q m = absurd (true≢false (sym (ap is_some q)))
given (Some y) x P Q q m = subst Q (ap (λ o. unwrap_or o y) q) m

and-true : (b : Bool) → (b && true) ≡ b
and-true true = refl
and-true false = refl

-- where the last n bytes are the same, the first n tell
pub first-tells : (n : ℕ) (xs ys f g l m : List ℕ) → n ≤ length xs → length xs ≤ 2 * n → length ys ≡ length xs → f ≡ take n xs → g ≡ take n ys → l ≡ drop (length xs - n) xs → m ≡ drop (length ys - n) ys → bytes_eq l m ≡ true → bytes_eq f g ≡ bytes_eq xs ys
first-tells n xs ys f g l m long covered same qf qg ql qm alike =
    let last : bytes_eq (drop (length xs - n) xs) (drop (length ys - n) ys) ≡ true = rw (← ql, ← qm) alike in
    rw (qf, qg) (sym (and-true (bytes_eq (take n xs) (take n ys))) ∙ ap (λ b. bytes_eq (take n xs) (take n ys) && b) (sym last) ∙ ends-tell n xs ys long covered same)
