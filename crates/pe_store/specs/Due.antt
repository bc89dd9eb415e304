-- When entries end.
-- Permissions, "lifetime".
use Rattle.std.specs.Prelude.{◌≡◌, ◌⊎◌, ℕ, ◌<◌, ◌≤◌, List, Option, None, Some, slice_get, option_and_then}
use Rattle.std.specs.Map.{values_of}
use Rattle.pe_store.specs.declared.entry.Entry.{Entry}
use Rattle.pe_store.specs.declared.key.Life.{Life}
use Rattle.pe_store.specs.declared.key.Life.TheVariants as life
use Rattle.pe_store.specs.declared.place.Ending.{Ending}
use Rattle.pe_store.specs.Places.{PlacedEntries, row_at}

-- the moment at which a life ends
abbrev pub moment_of : Life → Option ℕ
moment_of (life.Until end) = Some end
moment_of _ = None

-- the moment at which the entry at a place of the list ends
abbrev pub moment_at : List Entry → ℕ → Option ℕ
moment_at entries place = option_and_then (λ (e : Entry). moment_of e.life) (slice_get entries place)

-- no entry ends at a moment up to this one; or the first is the least moment at which one does, and the second the least place that has it
abbrev pub IsDue : List Entry → ℕ → Option (ℕ × ℕ) → Type 0
IsDue entries upto None = (place moment : ℕ) → moment_at entries place ≡ Some moment → upto < moment
IsDue entries upto (Some due) =
    (moment_at entries due.1 ≡ Some due.0) × (due.0 ≤ upto)
    × ((place moment : ℕ) → moment_at entries place ≡ Some moment → (due.0 < moment) ⊎ ((due.0 ≡ moment) × (due.1 ≤ place)))

-- this entry is the one that is due first, and ends at the moment
abbrev pub IsDueEntry : List Entry → ℕ → ℕ → Entry → Type 0
IsDueEntry entries upto moment entry = (place : ℕ) × IsDue entries upto (Some (moment, place)) × (slice_get entries place ≡ Some entry)

-- ---- the same of entries at their places in the store

-- the ending by a moment is the first: that of the entry at this place of the list
pub record IsFirstEnd (rows : PlacedEntries) (first : Ending) : Type 0 where
  pub place : ℕ
  pub entry : Entry
  pub there : slice_get rows place ≡ Some (first.place, entry)
  pub row : row_at rows first.place ≡ Some entry
  pub ends : entry.life ≡ life.Until first.by
  pub least : (other moment : ℕ) → moment_at (values_of rows) other ≡ Some moment → (first.by < moment) ⊎ ((first.by ≡ moment) × (place ≤ other))
