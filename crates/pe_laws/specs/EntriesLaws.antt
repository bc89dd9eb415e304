-- Laws of the entries of the store: each pair that has one is listed once, and so they can be counted in any list of them.
use Rattle.std.specs.Prelude.{◌≡◌, ℕ, List, length, filter, if◌then◌else◌}
use Rattle.pe_store.specs.Pairs.{Pair, is_same_pair}
use Rattle.pe_rules.specs.History.{RepliedHistory}
use Rattle.pe_rules.specs.Settings.{has_entry}
use Rattle.pe_rules.specs.Causes.{entries}

-- how often a pair stands in a list
abbrev pub times_listed : Pair → List Pair → ℕ
times_listed p listed = length (filter (λ q. is_same_pair q p) listed)

-- the pairs of the list are those that have an entry, each once
abbrev pub AreEntries : RepliedHistory → List Pair → Type 0
AreEntries T listed = (p : Pair) → times_listed p listed ≡ (if has_entry T p then 1 else 0)

-- what holds of the entries of the store
pub record EntriesLaws : Type 0 where
  -- each pair that has an entry is listed once, and no other is
  pub entries_once : (T : RepliedHistory) → AreEntries T (entries T)
  -- there are as many entries as any list has that holds the same pairs, each once
  pub entries_as_many : (T : RepliedHistory) (listed : List Pair) → AreEntries T listed → length (entries T) ≡ length listed
