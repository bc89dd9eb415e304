-- The bytes of each class.
-- RFC 8941, sections 1.2, 3.1.2, 3.3.1, 3.3.4 and 3.3.5.
-- This project's own: the classes, as values of the code, and their bits.
use Rattle.std.specs.Prelude.{ℕ, Bool}
use Rattle.pe_fields.specs.declared.class.Class.{Class}
use Rattle.pe_fields.specs.declared.class.Class.TheVariants.{Space, White, Digit, Key, Token, Unescaped, Base64}
use Rattle.pe_fields.specs.Alphabet.{is_space, is_white, is_digit, is_key_byte, is_token_byte, is_unescaped, is_base64_byte}

-- the byte is of the class
abbrev pub is_in : Class → ℕ → Bool
is_in Space = is_space
is_in White = is_white
is_in Digit = is_digit
is_in Key = is_key_byte
is_in Token = is_token_byte
is_in Unescaped = is_unescaped
is_in Base64 = is_base64_byte

-- the bit of the class in the table of bytes
abbrev pub bit_of : Class → ℕ
bit_of Space = 1
bit_of White = 2
bit_of Digit = 4
bit_of Key = 8
bit_of Token = 16
bit_of Unescaped = 32
bit_of Base64 = 64
