-- The bytes that structured fields are made of.
-- RFC 8941, section 1.2 (SP, OWS), section 3.1.2 (keys), sections 3.3.1 to 3.3.5 (bare items).
-- This project's own profile: a byte sequence is checked for its alphabet alone.
use Rattle.std.specs.Prelude.{ℕ, ◌==◌, ◌||◌, ◌&&◌, Bool, nat_le, List, codes}
use Rattle.std.specs.List.{list_any}

-- one of these bytes
abbrev pub is_one_of : List ℕ → ℕ → Bool
is_one_of bytes b = list_any (λ c. b == c) bytes

-- SP, the space
abbrev pub is_space : ℕ → Bool
is_space b = b == 32

-- a byte of OWS, optional white space: a space or a tab
abbrev pub is_white : ℕ → Bool
is_white b = (b == 32) || (b == 9)

-- DIGIT
abbrev pub is_digit : ℕ → Bool
is_digit b = nat_le 48 b && nat_le b 57

-- lcalpha, a lower-case letter
abbrev pub is_lower : ℕ → Bool
is_lower b = nat_le 97 b && nat_le b 122

-- ALPHA, a letter
abbrev pub is_alpha : ℕ → Bool
is_alpha b = is_lower b || (nat_le 65 b && nat_le b 90)

-- the first byte of a key
abbrev pub is_key_start : ℕ → Bool
is_key_start b = is_lower b || (b == 42)

-- a further byte of a key
abbrev pub is_key_byte : ℕ → Bool
is_key_byte b = is_lower b || is_digit b || is_one_of (codes "_-.*") b

-- the first byte of a token
abbrev pub is_token_start : ℕ → Bool
is_token_start b = is_alpha b || (b == 42)

-- a further byte of a token
abbrev pub is_token_byte : ℕ → Bool
is_token_byte b = is_alpha b || is_digit b || is_one_of (codes "!#$%&'*+-.^_`|~:/") b

-- a byte that a string holds: the printable ones of ASCII
abbrev pub is_text_byte : ℕ → Bool
is_text_byte b = nat_le 32 b && nat_le b 126

-- unescaped, a byte of a string that stands for itself: neither the quote nor the backslash
abbrev pub is_unescaped : ℕ → Bool
is_unescaped b = (nat_le 32 b && nat_le b 33) || (nat_le 35 b && nat_le b 91) || (nat_le 93 b && nat_le b 126)

-- a byte of base64
abbrev pub is_base64_byte : ℕ → Bool
is_base64_byte b = is_alpha b || is_digit b || is_one_of (codes "+/=") b
