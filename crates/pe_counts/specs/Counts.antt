-- How many things a page has.
use Rattle.std.specs.Prelude.{ℕ, List, unwrap_or, nat_eq}
use Rattle.std.specs.Map.{lookup}

-- the count of a page; a page that is not listed has none
unfoldable pub count_of : List (ℕ × ℕ) → ℕ → ℕ
count_of counts page = unwrap_or (lookup (nat_eq page) counts) 0
