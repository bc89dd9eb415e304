-- What the digits of an integer and of a decimal say.
-- RFC 8941, sections 3.3.1 and 3.3.2.
-- This project's own profile: a decimal is a number of thousandths.
use Rattle.std.specs.Prelude.{ℕ, ◌-◌, ◌*◌, ◌^◌, Bool, List, length, ℤ, pos, neg_ℤ, if◌then◌else◌}
use Rattle.std.specs.Str.Parse.{digits_value}

-- the number with its sign
abbrev pub signed : Bool → ℕ → ℤ
signed negative n = if negative then neg_ℤ (pos n) else pos n

-- one to three digits behind the point, as thousandths
abbrev pub thousandths : List ℕ → ℕ
thousandths digits = digits_value 10 digits * 10 ^ (3 - length digits)
