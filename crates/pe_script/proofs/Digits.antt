-- Decimal digits.
use Rattle.std.proofs.Common.{Some, None, ◌≡◌, ◌≢◌, ℕ, zero, suc, ◌+◌, ◌-◌, ◌*◌, ◌^◌, ◌<◌, ◌≤◌, Bool, true, false, not, ◌&&◌, ◌==◌, List, [], ◌∷◌, length, take, get_or, refl, ap, ◌∙◌, arith, add-one}
use Rattle.std.specs.List.{list_all}
use Rattle.std.specs.Prelude.{fold, nat_le, if◌then◌else◌}
use Rattle.std.proofs.Math.Nat.{pow-succ'}
use Rattle.std.proofs.Math.Seq.{take-suc}
use Rattle.std.proofs.lemmas.Bool.Decides.{nat_tests}
use Rattle.std.proofs.lemmas.List.Sums.{fold-append}
use Rattle.pe_script.specs.Numerals.{is_digit, is_positive, number_of, positive}

not-same : (a b : ℕ) → a ≢ b → (a == b) ≡ false
not-same a b h = grind (arith, nat_tests)

-- digits whose first is no 0
pub are_positive : (digits : List ℕ) → 1 ≤ length digits → get_or digits 0 0 ≢ 48 → list_all is_digit digits ≡ is_positive digits
are_positive [] some first = absurd (omega arith)
are_positive (b ∷ digits) some first = rw (not-same b 48 first) refl

-- the digits of such a number are digits
pub all_digits : (digits : List ℕ) → is_positive digits ≡ true → list_all is_digit digits ≡ true
all_digits [] h = cc
all_digits (b ∷ digits) h = by_first (not (b == 48)) h
  where
    by_first : (f : Bool) → (f && list_all is_digit (b ∷ digits)) ≡ true → list_all is_digit (b ∷ digits) ≡ true
    by_first true e = e
    by_first false e = cc

-- one digit on
pub number-more : (digits : List ℕ) (i : ℕ) → i < length digits → number_of (take (i + 1) digits) ≡ 10 * number_of (take i digits) + (get_or digits i 0 - 48)
unfolding number_of
number-more digits i h = ap (λ n. fold (λ n b. 10 * n + (b - 48)) 0 (take n digits)) (add-one i) ∙ ap (fold (λ n b. 10 * n + (b - 48)) 0) (take-suc digits i 0 h) ∙ (fold-append (λ n b. 10 * n + (b - 48)) 0 (take i digits) (get_or digits i 0 ∷ []))

digit-low : (b : ℕ) → is_digit b ≡ true → (48 ≤ b) × (b ≤ 57)
digit-low b h = (grind (arith, nat_tests), grind (arith, nat_tests))

pub digit-at : (digits : List ℕ) (i : ℕ) → list_all is_digit digits ≡ true → i < length digits → (48 ≤ get_or digits i 0) × (get_or digits i 0 ≤ 57)
digit-at [] i h within = absurd (omega arith)
digit-at (b ∷ digits) i h within = by_first (is_digit b) refl h (λ j rest below. digit-at digits j rest below)
  where
    by_place : (j : ℕ) → j ≡ i → is_digit b ≡ true → list_all is_digit digits ≡ true
        → ((k : ℕ) → list_all is_digit digits ≡ true → k < length digits → (48 ≤ get_or digits k 0) × (get_or digits k 0 ≤ 57))
        → (48 ≤ get_or (b ∷ digits) j 0) × (get_or (b ∷ digits) j 0 ≤ 57)
    by_place zero e d rest later = digit-low b d
    by_place (suc j) e d rest later = later j rest (omega arith)

    by_first : (f : Bool) → is_digit b ≡ f → (f && list_all is_digit digits) ≡ true
        → ((k : ℕ) → list_all is_digit digits ≡ true → k < length digits → (48 ≤ get_or digits k 0) × (get_or digits k 0 ≤ 57))
        → (48 ≤ get_or (b ∷ digits) i 0) × (get_or (b ∷ digits) i 0 ≤ 57)
    by_first true d e later = by_place i refl d e later
    by_first false d e later = cc

-- so few digits write a small number
pub power-small : (i : ℕ) → i ≤ 12 → 10 ^ i ≤ 1000000000000
power-small zero h = omega arith
power-small (suc zero) h = omega arith
power-small (suc (suc zero)) h = omega arith
power-small (suc (suc (suc zero))) h = omega arith
power-small (suc (suc (suc (suc zero)))) h = omega arith
power-small (suc (suc (suc (suc (suc zero))))) h = omega arith
power-small (suc (suc (suc (suc (suc (suc zero)))))) h = omega arith
power-small (suc (suc (suc (suc (suc (suc (suc zero))))))) h = omega arith
power-small (suc (suc (suc (suc (suc (suc (suc (suc zero)))))))) h = omega arith
power-small (suc (suc (suc (suc (suc (suc (suc (suc (suc zero))))))))) h = omega arith
power-small (suc (suc (suc (suc (suc (suc (suc (suc (suc (suc zero)))))))))) h = omega arith
power-small (suc (suc (suc (suc (suc (suc (suc (suc (suc (suc (suc zero))))))))))) h = omega arith
power-small (suc (suc (suc (suc (suc (suc (suc (suc (suc (suc (suc (suc zero)))))))))))) h = omega arith
power-small (suc (suc (suc (suc (suc (suc (suc (suc (suc (suc (suc (suc (suc i))))))))))))) h = absurd (omega arith)

pub power-more : (i n b : ℕ) → n + 1 ≤ 10 ^ i → b ≤ 9 → 10 * n + b + 1 ≤ 10 ^ (i + 1)
power-more i n b h small = let e : 10 ^ (i + 1) ≡ 10 * 10 ^ i = ap (λ k. 10 ^ k) (add-one i) ∙ pow-succ' 10 i in omega arith

-- ---- the range of a number

-- digits behind a number of at most so many digits
fold-low : (digits : List ℕ) (n : ℕ) → 1 ≤ n → 1 ≤ fold (λ n b. 10 * n + (b - 48)) n digits
fold-low [] n some = some
fold-low (b ∷ digits) n some = fold-low digits (10 * n + (b - 48)) (omega arith)

digit-and-rest : (b : ℕ) (digits : List ℕ) → list_all is_digit (b ∷ digits) ≡ true → (b ≤ 57) × (list_all is_digit digits ≡ true)
digit-and-rest b digits h = by_first (is_digit b) refl h
  where
    by_first : (f : Bool) → is_digit b ≡ f → (f && list_all is_digit digits) ≡ true → (b ≤ 57) × (list_all is_digit digits ≡ true)
    by_first true d e = ((digit-low b d).1, e)
    by_first false d e = cc

fold-high : (digits : List ℕ) (n i : ℕ) → n + 1 ≤ 10 ^ i → list_all is_digit digits ≡ true → fold (λ n b. 10 * n + (b - 48)) n digits + 1 ≤ 10 ^ (i + length digits)
fold-high [] n i h all = let e : 10 ^ (i + 0) ≡ 10 ^ i = ap (λ k. 10 ^ k) (omega arith) in omega arith
fold-high (b ∷ digits) n i h all =
    let (high, rest) = digit-and-rest b digits all in
    let next : 10 * n + (b - 48) + 1 ≤ 10 ^ (i + 1) = power-more i n (b - 48) h (omega arith) in
    let later = fold-high digits (10 * n + (b - 48)) (i + 1) next rest in
    let e : 10 ^ (i + 1 + length digits) ≡ 10 ^ (i + suc (length digits)) = ap (λ k. 10 ^ k) (omega arith) in
    omega arith

first-high : (b : ℕ) → is_digit b ≡ true → not (b == 48) ≡ true → 49 ≤ b
first-high b d h = grind (arith, nat_tests)

powers : (i most : ℕ) → i ≤ most → 10 ^ i ≤ 10 ^ most
powers i zero h = let none : i ≡ 0 = omega arith in let e : 10 ^ i ≡ 10 ^ 0 = ap (λ (k : ℕ). 10 ^ k) none in omega arith
powers i (suc most) h = by_last (nat_le i most) refl (powers i most)
  where
    by_last : (b : Bool) → nat_le i most ≡ b → (i ≤ most → 10 ^ i ≤ 10 ^ most) → 10 ^ i ≤ 10 ^ suc most
    by_last true e less =
        let small : i ≤ most = grind (arith, nat_tests) in
        let below : 10 ^ i ≤ 10 ^ most = less small in
        let grows : 10 ^ suc most ≡ 10 * 10 ^ most = pow-succ' 10 most in
        omega arith
    by_last false e less =
        let same : i ≡ suc most = grind (arith, nat_tests) in
        let p : 10 ^ i ≡ 10 ^ suc most = ap (λ (k : ℕ). 10 ^ k) same in
        omega arith

both : (a b : Bool) → (a && b) ≡ true → (a ≡ true) × (b ≡ true)
both true b e = (refl, e)
both false b e = cc

-- a number above 0, of so many digits
pub number-range : (digits : List ℕ) → is_positive digits ≡ true → (1 ≤ number_of digits) × (number_of digits + 1 ≤ 10 ^ length digits)
unfolding number_of
number-range [] h = cc
number-range (b ∷ digits) h =
    let (first, all) = both (not (b == 48)) (list_all is_digit (b ∷ digits)) h in
    let (is, rest) = both (is_digit b) (list_all is_digit digits) all in
    let low : 1 ≤ 10 * 0 + (b - 48) = omega (arith, first-high b is first) in
    let high = fold-high (b ∷ digits) 0 0 (omega arith) all in
    let e : 10 ^ (0 + length (b ∷ digits)) ≡ 10 ^ length (b ∷ digits) = ap (λ k. 10 ^ k) (omega arith) in
    (fold-low digits (10 * 0 + (b - 48)) low, omega arith)

pub positive-range : (most : ℕ) (digits : List ℕ) (n : ℕ) → positive most digits ≡ Some n → (1 ≤ n) × (n + 1 ≤ 10 ^ most)
unfolding positive
positive-range most digits n e = by_test (is_positive digits && nat_le (length digits) most) refl e
  where
    by_test : (t : Bool) → (is_positive digits && nat_le (length digits) most) ≡ t → (if t then Some (number_of digits) else None) ≡ Some n → (1 ≤ n) × (n + 1 ≤ 10 ^ most)
    by_test true h is =
        let (some, few) = both (is_positive digits) (nat_le (length digits) most) h in
        let (low, high) = number-range digits some in
        let same : number_of digits ≡ n = cc in
        let short : length digits ≤ most = grind (arith, nat_tests) in
        (omega arith, omega (arith, powers (length digits) most short))
    by_test false h is = cc
