-- The first byte that passes a test, as a search of bytes finds it.
use Rattle.std.proofs.Common.{◌≡◌, ℕ, ◌<◌, Bool, true, false, List, length, get_or, Option, Some, None, refl, sym, ◌∙◌, arith}
use Rattle.std.specs.Prelude.{◌==◌, ◌||◌}
use Rattle.std.specs.List.{position, position_or_len}
use Rattle.std.proofs.lemmas.Bool.Decides.{nat_tests}
use Rattle.std.proofs.lemmas.List.Sums.{position_or_len_is}
use Rattle.memchr.specs.Find.{IsFirstByte, is_byte, is_byte2, is_byte3}
use Rattle.pe_lines.specs.Lines.{is_line_feed}
use Rattle.pe_lines.specs.Grammar.{ends_bare, is_escaped}

not_true : (b : Bool) → (b ≡ true → ⊥) → b ≡ false
not_true true h = absurd (h refl)
not_true false h = refl

placed : (p : ℕ → Bool) (bytes : List ℕ) (n : ℕ) → position_or_len p bytes ≡ n → n < length bytes → Some n ≡ position p bytes
placed p bytes n e within = grind (arith, nat_tests)

nowhere : (p : ℕ → Bool) (bytes : List ℕ) → position_or_len p bytes ≡ length bytes → None ≡ position p bytes
nowhere p bytes e = grind (arith, nat_tests)

-- the two searches agree, by tests that do
first_byte : (p q : ℕ → Bool) → ((b : ℕ) → p b ≡ q b) → (bytes : List ℕ) (found : Option ℕ) → IsFirstByte p bytes found → found ≡ position q bytes
first_byte p q same bytes None h =
    nowhere q bytes (position_or_len_is q bytes (length bytes) 0 (omega arith) (λ k lt. not_true (q (get_or bytes k 0)) (λ e. h k (omega arith) lt (same (get_or bytes k 0) ∙ e))) (λ lt. absurd (omega arith)))
first_byte p q same bytes (Some n) (before, here) =
    placed q bytes n (position_or_len_is q bytes n 0 (omega (arith, before.high)) (λ k lt. not_true (q (get_or bytes k 0)) (λ e. before.before k (omega arith) lt (same (get_or bytes k 0) ∙ e))) (λ lt. sym (same (get_or bytes n 0)) ∙ here)) before.high

-- a line feed
pub first_feed : (bytes : List ℕ) (found : Option ℕ) → IsFirstByte (is_byte 10) bytes found → found ≡ position is_line_feed bytes
first_feed bytes found h = first_byte (is_byte 10) is_line_feed (λ b. refl) bytes found h

either : (a b c : Bool) → (a || b || c) ≡ ((a || b) || c)
either true b c = refl
either false b c = refl

-- what ends a bare word
pub first_bare_end : (bytes : List ℕ) (found : Option ℕ) → IsFirstByte (is_byte3 32 9 34) bytes found → found ≡ position ends_bare bytes
first_bare_end bytes found h = first_byte (is_byte3 32 9 34) ends_bare (λ b. either (b == 32) (b == 9) (b == 34)) bytes found h

-- what has a backslash in front in quotes
pub first_escaped : (bytes : List ℕ) (found : Option ℕ) → IsFirstByte (is_byte2 34 92) bytes found → found ≡ position is_escaped bytes
first_escaped bytes found h = first_byte (is_byte2 34 92) is_escaped (λ b. refl) bytes found h
