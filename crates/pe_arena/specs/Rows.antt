-- How an arena keeps its slots.
use Rattle.std.specs.Prelude.{◌≡◌, ℕ, ◌+◌, ◌-◌, ◌≤◌, ◌^◌, cond, nat_lt, List, length, Option, None, Some, IsSome, slice_index_or, nat_eq, count_by}
use Rattle.std.specs.Option.{option_map_or}
use Rattle.slab.specs.Slab.{Slab, get, slab_len}
use Rattle.pe_arena.specs.declared.arena.Row.{Row}
use Rattle.pe_arena.specs.Slots.{Slot}

-- what stands in the place of a row that was not made: it has no key, and no generation is left
abbrev pub no_row : Row
no_row = record { generation = 2 ^ 64 - 1; key = None }

-- the row at the place
abbrev pub row_at : List Row → ℕ → Row
row_at rows i = slice_index_or rows i no_row

-- 1 where there is no key and a generation is left to give, else 0
abbrev pub once : ℕ → Option ℕ → ℕ
once generation None = cond (nat_lt (generation + 1) (2 ^ 64)) 1 0
once generation (Some key) = 0

-- 1 for a row whose slot is free, else 0
abbrev pub free_once : Row → ℕ
free_once r = once r.generation r.key

-- how often the number is listed
abbrev pub times : ℕ → List ℕ → ℕ
times i xs = count_by (nat_eq i) xs

module _ {T : Type 0} where
  -- the value under the key, if there is a key
  abbrev pub under : Slab T → Option ℕ → Option T
  under s key = option_map_or (get s) key None

  -- what a contract sees of a row
  abbrev pub slot_of : Slab T → Row → Slot T
  slot_of s r = record { mark = r.generation + 1; value = under s r.key }

  -- the rows of live slots have keys of their own, the free slots are listed once, and there is room to list each slot
  pub record IsArena (s : Slab T) (rows : List Row) (free : List ℕ) (room limit made : ℕ) : Type 0 where
    pub within : length rows ≤ limit
    pub counted : length rows ≤ made
    pub held : (i k : ℕ) → (row_at rows i).key ≡ Some k → IsSome (get s k)
    pub apart : (i j k : ℕ) → (row_at rows i).key ≡ Some k → (row_at rows j).key ≡ Some k → i ≡ j
    pub listed : (i : ℕ) → times i free ≡ free_once (row_at rows i)
    pub spare : length free + slab_len s ≤ length rows
    pub roomy : length rows ≤ room
