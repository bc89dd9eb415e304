-- URLs of the usual form, whose place is read without the whole parser: what stands in their parts.
-- URL Standard, section 4.4 ("basic URL parser"). Which URLs count as usual is this project's own.
use Rattle.std.specs.Prelude.{◌≡◌, ℕ, ◌<◌, Bool, true, false, ◌||◌, ◌==◌, List, [], ◌∷◌, ◌++◌, length, All, Option, Some, None, unwrap_or, Ok}
use Rattle.std.specs.Char.{is_ascii_lowercase, is_ascii_digit}
use Rattle.url.specs.Ascii.{colon, dot, hyphen, number_sign, question_mark, slash}
use Rattle.url.specs.Ipv4.{ends_in_a_number}
use Rattle.url.specs.Parser.{Parsed, and_then, parse_port}
use Rattle.pe_origin.specs.declared.scheme.Scheme.{Scheme}
use Rattle.pe_origin.specs.declared.scheme.HostForm.TheVariants.{Domain}
use Rattle.pe_origin.specs.declared.place.PlaceKind.TheVariants.{Net}
use Rattle.pe_origin.specs.declared.place.Place.{Place}
use Rattle.pe_origin.specs.Schemes.{default_port, scheme_name}

-- a letter in lower case, a digit, a dot or a dash
abbrev pub is_host_byte : ℕ → Bool
is_host_byte b = is_ascii_lowercase b || is_ascii_digit b || b == dot || b == hyphen

-- a domain that the parser leaves as it is
pub record IsHost (host : List ℕ) : Type 0 where
  pub bytes : All (λ b. is_host_byte b ≡ true) host
  pub nonempty : 0 < length host
  pub named : ends_in_a_number host ≡ false

-- the port that the parser reads in these digits, or the scheme's own
abbrev pub port_in : Scheme → List ℕ → Parsed ℕ
port_in scheme digits = and_then (parse_port (scheme_name scheme) digits) (λ port. Ok (unwrap_or port (default_port scheme)))

-- a colon and the digits behind it, or nothing
abbrev pub port_text : Option (List ℕ) → List ℕ
port_text None = []
port_text (Some digits) = colon ∷ digits

-- the text begins with this port, or with none, and goes on with the rest
pub record HasPort (scheme : Scheme) (text : List ℕ) (port : ℕ) (rest : List ℕ) : Type 0 where
  pub digits : Option (List ℕ)
  pub spelled : text ≡ port_text digits ++ rest
  pub plain : All (λ b. is_ascii_digit b ≡ true) (unwrap_or digits [])
  pub read : port_in scheme (unwrap_or digits []) ≡ Ok port

-- nothing follows a host and its port, or a path, a query or a fragment
abbrev pub is_tail : List ℕ → Bool
is_tail [] = true
is_tail (b ∷ rest) = b == slash || b == question_mark || b == number_sign

-- the place of a URL with this tuple origin
abbrev pub net_place : Scheme → List ℕ → ℕ → Place
net_place scheme host port = record { kind = Net; tuple = Some (record { scheme = scheme; host = host; form = Domain; port = port }) }
