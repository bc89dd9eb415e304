-- The test of UTF-8 says whether bytes are UTF-8.
use Rattle.std.proofs.Common.{◌≡◌, ℕ, true, false, List, refl, IsUtf8}
use Rattle.std.specs.Str.{is_utf8}
use Rattle.std.proofs.lemmas.Str.{IsUtf8-from_is_utf8, is_utf8-from_IsUtf8}

-- the test holds of UTF-8
pub is_utf8_holds : (bytes : List ℕ) → IsUtf8 bytes → is_utf8 bytes ≡ true
is_utf8_holds bytes utf8 = is_utf8-from_IsUtf8 bytes utf8

-- the test fails of anything else
pub is_utf8_fails : (bytes : List ℕ) → ¬ IsUtf8 bytes → is_utf8 bytes ≡ false
is_utf8_fails bytes other = elim (is_utf8 bytes) as (λ b. is_utf8 bytes ≡ b → b ≡ false) [ true ↦ λ e. absurd (other (IsUtf8-from_is_utf8 bytes e)) | false ↦ λ e. refl ] refl
