-- The entries that hold while a top document is current.
-- Permissions, "lifetime". That a life may last as long as a top document is this project's own.
use Rattle.std.specs.Prelude.{◌≡◌, ℕ, Bool, false, not, List, [], ◌∷◌, map, filter}
use Rattle.std.specs.List.{list_any}
use Rattle.pe_store.specs.declared.entry.Entry.{Entry}
use Rattle.pe_store.specs.Entries.{pair_of}
use Rattle.pe_store.specs.Pairs.{Pair, is_same_pair}
use Rattle.pe_store.specs.Places.{is_page_of}

-- the pairs of the entries that hold while the document is current, in order
unfoldable pub pairs_of_page : ℕ → List Entry → List Pair
pairs_of_page document entries = map pair_of (filter (λ e. is_page_of document e.life) entries)

-- the entries without those that hold while the document is current
unfoldable pub without_page : ℕ → List Entry → List Entry
without_page document entries = filter (λ e. not (is_page_of document e.life)) entries

-- the pair is one of these
unfoldable pub is_listed : Pair → List Pair → Bool
is_listed pair pairs = list_any (λ p. is_same_pair p pair) pairs

-- no two of the pairs are one
unfoldable pub AreApart : List Pair → Type 0
AreApart [] = Unit {0}
AreApart (p ∷ pairs) = (is_listed p pairs ≡ false) × AreApart pairs
