-- What a dictionary says of a key.
-- RFC 8941, section 3.2: where a key is repeated, the last member counts.
-- This project's own profile: the earlier members of a repeated key stay in the list.
use Rattle.std.specs.Prelude.{ℕ, List, [], ◌∷◌, Option, Some, None, bytes_eq, if◌then◌else◌}
use Rattle.std.specs.Option.{option_or}
use Rattle.pe_fields.specs.declared.value.Member.{Member}

-- the member where it stands under the key
abbrev pub member_under : List ℕ → List ℕ × Member → Option Member
member_under key entry = if bytes_eq entry.0 key then Some entry.1 else None

-- the last member of a key
unfoldable pub last_of : List (List ℕ × Member) → List ℕ → Option Member
last_of [] key = None
last_of (entry ∷ entries) key = option_or (last_of entries key) (member_under key entry)
