-- How long the lines are.
use Rattle.std.proofs.Common.{◌≡◌, ℕ, ◌+◌, ◌-◌, ◌*◌, ◌/◌, ◌%◌, ◌^◌, ◌<◌, ◌≤◌, Bool, true, false, List, [], ◌∷◌, ◌++◌, length, length-append, refl, arith, nat_le, if◌then◌else◌}
use Rattle.std.specs.Prelude.{codes, decimal, ◌==◌}
use Rattle.std.proofs.lemmas.Fmt.{length-decimal-le}
use Rattle.std.proofs.lemmas.Bool.{leb-true}
use Rattle.pe_generator.specs.Generated.{state_set, outcome, words_of, line_of}

-- a text of at most 48 bytes, by computation
abbrev IsLiteral : List ℕ → Type 0
IsLiteral text = nat_le (length text) 48 ≡ true

literal : (text : List ℕ) → IsLiteral text → length text ≤ 48
literal text e = leb-true _ _ e

digits : (n : ℕ) → n < 2 ^ 64 → length (decimal n) ≤ 20
digits n h = length-decimal-le 20 n (omega arith) (omega arith) h

either : (b : Bool) (xs ys : List ℕ) (k : ℕ) → length xs ≤ k → length ys ≤ k → length (if b then xs else ys) ≤ k
either true xs ys k a b = a
either false xs ys k a b = b

-- texts and numbers in turn
two : (a n : List ℕ) → IsLiteral a → length n ≤ 20 → length (a ++ n) ≤ 400
two a n la ln = let a48 = literal a la in omega (arith, length-append a n)

three : (a n b : List ℕ) → IsLiteral a → length n ≤ 20 → IsLiteral b → length (a ++ n ++ b) ≤ 400
three a n b la ln lb = let a48 = literal a la in let b48 = literal b lb in omega (arith, length-append (a ++ n) b, length-append a n)

five : (a n b m c : List ℕ) → IsLiteral a → length n ≤ 20 → IsLiteral b → length m ≤ 20 → IsLiteral c → length (a ++ n ++ b ++ m ++ c) ≤ 400
five a n b m c la ln lb lm lc = let a48 = literal a la in let b48 = literal b lb in let c48 = literal c lc in omega (arith, length-append (a ++ n ++ b ++ m) c, length-append (a ++ n ++ b) m, length-append (a ++ n) b, length-append a n)

six : (a n b w c m : List ℕ) → IsLiteral a → length n ≤ 20 → IsLiteral b → length w ≤ 48 → IsLiteral c → length m ≤ 20 → length (a ++ n ++ b ++ w ++ c ++ m) ≤ 400
six a n b w c m la ln lb lw lc lm = let a48 = literal a la in let b48 = literal b lb in let c48 = literal c lc in omega (arith, length-append (a ++ n ++ b ++ w ++ c) m, length-append (a ++ n ++ b ++ w) c, length-append (a ++ n ++ b) w, length-append (a ++ n) b, length-append a n)

seven : (a n b m c l d : List ℕ) → IsLiteral a → length n ≤ 20 → IsLiteral b → length m ≤ 20 → IsLiteral c → length l ≤ 20 → IsLiteral d → length (a ++ n ++ b ++ m ++ c ++ l ++ d) ≤ 400
seven a n b m c l d la ln lb lm lc ll ld = let a48 = literal a la in let b48 = literal b lb in let c48 = literal c lc in let d48 = literal d ld in omega (arith, length-append (a ++ n ++ b ++ m ++ c ++ l) d, length-append (a ++ n ++ b ++ m ++ c) l, length-append (a ++ n ++ b ++ m) c, length-append (a ++ n ++ b) m, length-append (a ++ n) b, length-append a n)

four : (a n b w : List ℕ) → IsLiteral a → length n ≤ 20 → IsLiteral b → length w ≤ 48 → length (a ++ n ++ b ++ w) ≤ 400
four a n b w la ln lb lw = let a48 = literal a la in let b48 = literal b lb in omega (arith, length-append (a ++ n ++ b) w, length-append (a ++ n) b, length-append a n)

small-literal : (text : List ℕ) → IsLiteral text → length text ≤ 400
small-literal text e = omega (arith, literal text e)

state-short : (v : ℕ) → length (state_set v) ≤ 48
unfolding state_set
state-short v = either (v / 8 % 3 == 0) _ _ 48 (literal (codes "granted") refl) (either (v / 8 % 3 == 1) _ _ 48 (literal (codes "denied") refl) (literal (codes "prompt") refl))

outcome-short : (v : ℕ) → length (outcome v) ≤ 48
unfolding outcome
outcome-short v = either (v % 3 == 0) _ _ 48 (literal (codes "allow once") refl) (either (v % 3 == 1) _ _ 48 (literal (codes "block for 500") refl) (literal (codes "dismiss") refl))

words-short : (place block v : ℕ) → block < 2 ^ 32 → length (words_of place block v) ≤ 400
unfolding words_of
words-short place block v h =
    let page = digits (16 * block + 1) (omega arith) in
    let child = digits (16 * block + 2) (omega arith) in
    let prompt = digits (16 * block + 5) (omega arith) in
    let message = digits (16 * block + 7) (omega arith) in
    let top_site = digits (v % 8) (omega arith) in
    let child_site = digits block (omega arith) in
    let span = digits (1 + v / 24 % 2000) (omega arith) in
    let before = digits (16 * block - 63) (omega arith) in
    either (place == 1) _ _ 400 (three (codes "open https://a") _ (codes ".example/ header \"camera=(self), payment=*\"") refl top_site refl)
    (either (place == 2) _ _ 400 (five (codes "embed f") _ (codes " https://e") _ (codes ".example/ allow \"payment; geolocation\"") refl page refl child_site refl)
    (either (place == 3) _ _ 400 (three (codes "query f") _ (codes " geolocation") refl page refl)
    (either (place == 4) _ _ 400 (three (codes "query f") _ (codes " storage-access") refl child refl)
    (either (place == 5) _ _ 400 (three (codes "request f") _ (codes " storage-access") refl child refl)
    (either (place == 6) _ _ 400 (three (codes "input f") _ (codes " mousedown") refl page refl)
    (either (place == 7) _ _ 400 (seven (codes "post f") _ (codes " f") _ (codes " https://e") _ (codes ".example payment") refl page refl child refl child_site refl)
    (either (place == 8) _ _ 400 (six (codes "set geolocation https://a") _ (codes ".example ") (state_set v) (codes " for ") _ refl top_site refl (state-short v) refl span)
    (either (place == 9) _ _ 400 (four (codes "answer p") _ (codes " ") (outcome v) refl prompt refl (outcome-short v))
    (either (place == 10) _ _ 400 (two (codes "deliver m") _ refl message)
    (either (place == 11) _ _ 400 (three (codes "use f") _ (codes " show-payment") refl child refl)
    (either (place == 12) _ _ 400 (three (codes "use f") _ (codes " get-position") refl page refl)
    (either (place == 13) _ _ 400 (five (codes "nav f") _ (codes " https://a") _ (codes ".example/") refl child refl top_site refl)
    (either (place == 14) _ _ 400 (three (codes "query f") _ (codes " geolocation") refl child refl)
    (either (place == 15) _ _ 400 (three (codes "policy f") _ (codes " camera") refl child refl)
    (either (nat_le 4 block) _ _ 400 (two (codes "close f") _ refl before) (small-literal (codes "tick") refl))))))))))))))))

-- a line has at most 512 bytes
pub line-short : (before time v : ℕ) → before < 2 ^ 32 → time < 2 ^ 64 → length (line_of before time v) ≤ 512
unfolding line_of
line-short before time v h t =
    let words = words-short (before % 16 + 1) (before / 16) v (omega arith) in
    let moment = digits time t in
    let space = literal (codes " ") refl in
    omega (
      arith,
      length-append (decimal time ++ codes " " ++ words_of (before % 16 + 1) (before / 16) v) (10 ∷ []),
      length-append (decimal time ++ codes " ") (words_of (before % 16 + 1) (before / 16) v),
      length-append (decimal time) (codes " "),
    )
