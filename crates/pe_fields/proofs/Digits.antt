-- What decimal digits write, digit by digit, and how large it is.
use Rattle.std.proofs.Common.{◌≡◌, ℕ, ◌+◌, ◌-◌, ◌*◌, ◌^◌, ◌<◌, ◌≤◌, true, leb, List, [], ◌∷◌, length, get_or, take, drop, ap, sym, ◌∙◌, arith}
use Rattle.std.specs.List.{list_all}
use Rattle.std.specs.Str.Parse.{digits_value, AllDigits}
use Rattle.std.proofs.Math.Nat.{pow-le-pow_right}
use Rattle.std.proofs.lemmas.Bool.{leb-true}
use Rattle.std.proofs.lemmas.Int.Digits.{digits_value-lt, digits_value_more}
use Rattle.std.proofs.lemmas.List.{take-append-drop, length-take}
use Rattle.std.proofs.lemmas.List.Folds.{list_all-append}
use Rattle.std.proofs.lemmas.List.Sums.{AllPass-from_list_all}
use Rattle.std.proofs.lemmas.Str.{digit_value_digit}
use Rattle.pe_fields.specs.Alphabet.{is_digit}
use Rattle.pe_fields.proofs.Tools.{and_parts}

pub digit_range : (b : ℕ) → is_digit b ≡ true → (48 ≤ b) × (b ≤ 57)
digit_range b h = let p = and_parts (leb 48 b) (leb b 57) h in (leb-true 48 b p.0, leb-true b 57 p.1)

pub digit_at : (digits : List ℕ) (i : ℕ) → list_all is_digit digits ≡ true → i < length digits → (48 ≤ get_or digits i 0) × (get_or digits i 0 ≤ 57)
digit_at digits i h lt = digit_range (get_or digits i 0) (AllPass-from_list_all is_digit digits h i 0 lt)

all_digits : (digits : List ℕ) → list_all is_digit digits ≡ true → AllDigits 10 digits
all_digits [] h = tt
all_digits (b ∷ bs) h =
    let p = and_parts (is_digit b) (list_all is_digit bs) h in
    let r = digit_range b p.0 in
    (omega (arith, digit_value_digit b r, r.0, r.1), all_digits bs p.1)

pub digits_below : (digits : List ℕ) → list_all is_digit digits ≡ true → digits_value 10 digits < 10 ^ length digits
digits_below digits h = digits_value-lt 10 digits (all_digits digits h)

front_digits : (digits : List ℕ) (i : ℕ) → list_all is_digit digits ≡ true → list_all is_digit (take i digits) ≡ true
front_digits digits i h =
    (and_parts (list_all is_digit (take i digits)) (list_all is_digit (drop i digits)) (sym (list_all-append is_digit (take i digits) (drop i digits)) ∙ ap (list_all is_digit) (take-append-drop i digits) ∙ h)).0

pub one_more : (digits : List ℕ) (i : ℕ) → list_all is_digit digits ≡ true → i < length digits → digits_value 10 (take (i + 1) digits) ≡ digits_value 10 (take i digits) * 10 + (get_or digits i 0 - 48)
one_more digits i h lt =
    let r = digit_at digits i h lt in
    omega (arith, digits_value_more 10 digits i lt, digit_value_digit (get_or digits i 0) r, r.0)

pub front_small : (digits : List ℕ) (i : ℕ) → list_all is_digit digits ≡ true → i < length digits → length digits ≤ 15 → digits_value 10 (take i digits) < 10 ^ 14
front_small digits i h lt few =
    let below : digits_value 10 (take i digits) < 10 ^ length (take i digits) = digits_below (take i digits) (front_digits digits i h) in
    let most : 10 ^ length (take i digits) ≤ 10 ^ 14 = pow-le-pow_right {n = 10} (omega arith) {i = length (take i digits)} {j = 14} (omega (arith, length-take i digits)) in
    omega arith

pub digits_small : (digits : List ℕ) (most : ℕ) → list_all is_digit digits ≡ true → length digits ≤ most → digits_value 10 digits < 10 ^ most
digits_small digits most h few =
    let below : digits_value 10 digits < 10 ^ length digits = digits_below digits h in
    let powers : 10 ^ length digits ≤ 10 ^ most = pow-le-pow_right {n = 10} (omega arith) {i = length digits} {j = most} few in
    omega arith
