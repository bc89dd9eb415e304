-- Tests of numbers.
use Rattle.std.proofs.Common.{◌≡◌, ◌≢◌, ℕ, ◌<◌, ◌≤◌, suc, true, false, ◌==◌, nat_le, nat_lt, arith}
use Rattle.std.proofs.lemmas.Bool.Decides.{nat_tests}

pub not_same : (a b : ℕ) → a ≢ b → (a == b) ≡ false
not_same a b h = grind (arith, nat_tests)

pub is_same : (a : ℕ) → (a == a) ≡ true
is_same a = grind (arith, nat_tests)

pub same-numbers : (a b : ℕ) → (a == b) ≡ true → a ≡ b
same-numbers a b h = grind (arith, nat_tests)

pub is_not_within : (a b : ℕ) → a ≤ b → nat_le (suc b) a ≡ false
is_not_within a b h = grind (arith, nat_tests)

pub is_within : (a b : ℕ) → b ≤ a → nat_le b a ≡ true
is_within a b h = grind (arith, nat_tests)

pub is_before : (a b : ℕ) → a < b → nat_lt a b ≡ true
is_before a b h = grind (arith, nat_tests)

pub is_not_before : (a b : ℕ) → b ≤ a → nat_lt a b ≡ false
is_not_before a b h = grind (arith, nat_tests)
