-- Places of entries in the order of the store, and what ends the entry at a place.
use Rattle.std.specs.Prelude.{◌≡◌, ℕ, ◌<◌, ◌==◌, Bool, true, false, ◌&&◌, ◌||◌, not, List, Option, None, Some}
use Rattle.std.specs.List.{list_any}
use Rattle.std.specs.List.Sorted.{IsStrictlySortedBy}
use Rattle.std.specs.Map.{lookup, keys_of, values_of}
use Rattle.std.specs.BTreeMap.{is_at}
use Rattle.std.specs.declared.cmp.Ordering.{Ordering}
use Rattle.pe_features.specs.Features.{feature_number}
use Rattle.pe_store.specs.declared.entry.Entry.{Entry}
use Rattle.pe_store.specs.declared.key.Life.{Life}
use Rattle.pe_store.specs.declared.key.Life.TheVariants as life
use Rattle.pe_store.specs.declared.place.Place.{Place}
use Rattle.pe_store.specs.declared.place.Ending.{Ending}
use Rattle.pe_store.specs.contracts.place.PlaceOrd.TheImpl as place_order
use Rattle.pe_store.specs.contracts.place.EndingOrd.TheImpl as ending_order
use Rattle.pe_store.specs.Entries.{pair_of, entry_of}
use Rattle.pe_store.specs.Numbers.{KeyNumbers, number_of}
use Rattle.pe_store.specs.Pairs.{Pair}

-- by feature, and then by serial number
abbrev pub place_cmp : Place → Place → Ordering
place_cmp = (place_order.ghosts).cmp

-- by number, and then by place
abbrev pub ending_cmp : Ending → Ending → Ordering
ending_cmp = (ending_order.ghosts).cmp

-- the two places are one
abbrev pub is_same_place : Place → Place → Bool
is_same_place p r = is_at (place_cmp p) r

-- the ending is among these
unfoldable pub has_ending : List Ending → Ending → Bool
has_ending endings x = list_any (is_at (ending_cmp x)) endings

-- the moment is that at which the life ends
abbrev pub is_moment_of : ℕ → Life → Bool
is_moment_of moment (life.Until end) = moment == end
is_moment_of moment _ = false

-- the life is that while this document is current
abbrev pub is_page_of : ℕ → Life → Bool
is_page_of document (life.Page page) = document == page
is_page_of document _ = false

-- the two lives are one
abbrev pub same_life : Life → Life → Bool
same_life life.Forever life.Forever = true
same_life (life.Until a) (life.Until b) = a == b
same_life (life.Page a) (life.Page b) = a == b
same_life _ _ = false

-- there is an entry with a life of which the test holds
abbrev pub has_life : (ℕ → Life → Bool) → ℕ → Option Entry → Bool
has_life test by None = false
has_life test by (Some e) = test by e.life

-- one more ending
unfoldable pub PutsOne : ℕ → Place → List Ending → List Ending → Type 0
PutsOne by place old new = (x : Ending) → has_ending new x ≡ ((is_same_place place x.place && x.by == by) || has_ending old x)

-- one ending less
unfoldable pub DropsOne : ℕ → Place → List Ending → List Ending → Type 0
DropsOne by place old new = (x : Ending) → has_ending new x ≡ (has_ending old x && not (is_same_place place x.place && x.by == by))

-- the ending by this test of an entry with this life at the place is put down
unfoldable pub PutsEnd : (ℕ → Life → Bool) → Life → Place → List Ending → List Ending → Type 0
PutsEnd test life place old new = (x : Ending) → has_ending new x ≡ ((is_same_place place x.place && test x.by life) || has_ending old x)

-- the ending by this test of an entry with this life at the place is forgotten
unfoldable pub DropsEnd : (ℕ → Life → Bool) → Life → Place → List Ending → List Ending → Type 0
DropsEnd test life place old new = (x : Ending) → has_ending new x ≡ (has_ending old x && not (is_same_place place x.place && test x.by life))

-- the ending by this test of an entry at the place with the one life is forgotten, and that with the other put down
unfoldable pub ChangesEnd : (ℕ → Life → Bool) → Life → Life → Place → List Ending → List Ending → Type 0
ChangesEnd test was life place old new =
    (x : Ending) → has_ending new x ≡ ((is_same_place place x.place && test x.by life) || (has_ending old x && not (is_same_place place x.place && test x.by was)))

-- the endings are those of the entries by this test
unfoldable pub AreEndings : (ℕ → Life → Bool) → (Place → Option Entry) → List Ending → Type 0
AreEndings test rows endings = (x : Ending) → has_ending endings x ≡ has_life test x.by (rows x.place)

-- entries, each at its place
abbrev pub PlacedEntries : Type 0
PlacedEntries = List (Place × Entry)

-- the entry at a place
abbrev pub row_at : PlacedEntries → Place → Option Entry
row_at rows place = lookup (is_at (place_cmp place)) rows

-- each entry stands at the place of its feature and its pair's number, below the next number, and each pair with a number has an entry there
pub record IsNumbered (rows : Place → Option Entry) (numbers : Pair → Option ℕ) (next : ℕ) : Type 0 where
  pub own : (p : Place) (e : Entry) → rows p ≡ Some e → (p.feature ≡ feature_number e.feature) × (numbers (pair_of e) ≡ Some p.serial) × (p.serial < next)
  pub known : (q : Pair) (n : ℕ) → numbers q ≡ Some n → (e : Entry) × (rows (record { feature = feature_number q.0; serial = n }) ≡ Some e) × (pair_of e ≡ q)

-- the entries stand in order, numbered by their pairs, and the endings are theirs
pub record IsRows (rows : PlacedEntries) (serials : List KeyNumbers) (moments pages : List Ending) (next : ℕ) : Type 0 where
  pub ordered : IsStrictlySortedBy place_cmp (keys_of rows)
  pub numbered : IsNumbered (λ p. row_at rows p) (λ q. number_of serials q) next
  pub timed : AreEndings is_moment_of (λ p. row_at rows p) moments
  pub paged : AreEndings is_page_of (λ p. row_at rows p) pages

-- the entry of the pair stands at the place
pub record HasRow (rows : PlacedEntries) (place : Place) (pair : Pair) : Type 0 where
  pub entry : Entry
  pub row : row_at rows place ≡ Some entry
  pub of_pair : pair_of entry ≡ pair
  pub own : entry_of (values_of rows) pair ≡ Some entry
