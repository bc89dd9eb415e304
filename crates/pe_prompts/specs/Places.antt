-- The places of the requests of documents.
use Rattle.std.specs.Prelude.{◌≡◌, ℕ, Bool, true, false, Option, None, Some}
use Rattle.std.specs.declared.cmp.Ordering.{Ordering}
use Rattle.std.specs.BTreeSet.{BTreeSet, contains}
use Rattle.pe_prompts.specs.declared.place.Place.{Place}
use Rattle.pe_prompts.specs.contracts.place.PlaceOrd.TheImpl as order

-- the order of places: by the numbers of the documents, then by how many requests stand before
abbrev pub place_cmp : Place → Place → Ordering
place_cmp = (order.ghosts).cmp

-- the place of a request of the document
abbrev pub place : ℕ → ℕ → Place
place doc at = record { doc = doc; at = at }

-- whether the place is noted for the document
unfoldable pub is_noted : BTreeSet Place → ℕ → ℕ → Bool
is_noted places doc at = contains place_cmp places (place doc at)

-- a place that is noted for the document, or none where none is
abbrev pub IsFirstOf : BTreeSet Place → ℕ → Option ℕ → Type 0
IsFirstOf places doc None = (at : ℕ) → is_noted places doc at ≡ false
IsFirstOf places doc (Some at) = is_noted places doc at ≡ true
