-- For what a store stands after a step.
-- Permissions, "permission store", "lifetime"; the embargo is this project's own.
use Rattle.std.specs.Prelude.{◌≡◌, ◌≢◌, ◌⊎◌, ℕ, ◌+◌, ◌<◌, false, ◌&&◌, IsTrue, [], ◌∷◌, length, None, Some, is_some, option_map, if◌then◌else◌}
use Rattle.pe_store.specs.declared.entry.Entry.{Entry}
use Rattle.pe_store.specs.Entries as store
use Rattle.pe_store.specs.Entries.{StoreValue, dismissals_of, entry_of, IsOnePerPair}
use Rattle.pe_store.specs.Pairs.{Pair, is_same_pair}
use Rattle.pe_store.specs.Places.{has_life, is_page_of}
use Rattle.pe_events.specs.declared.event.Event.TheVariants as event
use Rattle.pe_events.specs.declared.event.EventLife.{EventLife}
use Rattle.pe_events.specs.declared.event.Outcome.TheVariants as outcome
use Rattle.pe_rules.specs.History.{Step, RepliedHistory, History, clock}
use Rattle.pe_rules.specs.Embedders.{chain}
use Rattle.pe_rules.specs.Current.{ends, document_in}
use Rattle.pe_rules.specs.Settings.{Setting, prompt_pair, setting_by, holds, counts, embargo_for, standing_of, stored_state, has_entry}
use Rattle.pe_rules.specs.Causes.{entries}
use Rattle.pe_rules.specs.Replies.{replied, is_regular}
use Rattle.pe_laws.specs.EffectsLaws.{effects_of}
use Rattle.pe_changes.specs.Gathered.{lasting}
use Rattle.pe_changes.specs.Parts.{entry_by, IsStore}

-- the pair of a setting has its entry, no dismissal of it counts any more, and all else is as before
pub record IsSet (x : Setting) (old new : StoreValue) : Type 0 where
  pub found : (pair : Pair) → entry_of new.entries pair ≡ (if is_same_pair x.pair pair then Some (entry_by x) else entry_of old.entries pair)
  pub dismissals : (pair : Pair) → dismissals_of new pair ≡ (if is_same_pair x.pair pair then 0 else dismissals_of old pair)

-- a dismissal of a pair was counted at a time, where it counts
pub record IsDismissed (dismissed : Pair) (now : ℕ) (old new : StoreValue) : Type 0 where
  pub found : (pair : Pair)
      → entry_of new.entries pair ≡ (if store.completes_embargo old dismissed && is_same_pair dismissed pair then Some (store.embargo dismissed now) else entry_of old.entries pair)
  pub dismissals : (pair : Pair)
      → dismissals_of new pair ≡ (if store.counts old dismissed && is_same_pair dismissed pair then (if store.completes_embargo old dismissed then 0 else dismissals_of old pair + 1) else dismissals_of old pair)

-- the entries that hold while a document is current were taken out, and all else is as before
pub record IsEnded (doc : ℕ) (old new : StoreValue) : Type 0 where
  pub found : (pair : Pair) → entry_of new.entries pair ≡ (if has_life is_page_of doc (entry_of old.entries pair) then None else entry_of old.entries pair)
  pub dismissals : new.dismissals ≡ old.dismissals

-- the entries that end by a moment were taken out, and all else is as before: there are fewer entries then, unless none ended
pub record IsLapsed (to : ℕ) (old new : StoreValue) : Type 0 where
  pub found : (pair : Pair) → entry_of new.entries pair ≡ lasting to (entry_of old.entries pair)
  pub dismissals : new.dismissals ≡ old.dismissals
  pub fewer : (new ≡ old) ⊎ (length new.entries < length old.entries)

-- what holds of a store that stands for steps
pub record StoreSteps : Type 0 where
  -- a store without entries and dismissals stands for no steps
  pub start : (value : StoreValue) → value.entries ≡ [] → ((pair : Pair) → dismissals_of value pair ≡ 0) → IsStore [] 0 value
  -- what it stores for a pair is what is stored
  pub stored : (T : RepliedHistory) (now : ℕ) (value : StoreValue) (pair : Pair) → IsStore T now value → option_map (λ (e : Entry). e.state) (entry_of value.entries pair) ≡ stored_state T now pair
  -- a pair has an entry there where it has one
  pub there : (T : RepliedHistory) (value : StoreValue) (pair : Pair) → IsStore T (clock T) value → is_some (entry_of value.entries pair) ≡ has_entry T pair
  -- no entry holds while an embedded document is current
  pub unnamed : (T : RepliedHistory) (now doc : ℕ) (value : StoreValue) (pair : Pair) → IsStore T now value → chain T doc ≢ doc ∷ [] → has_life is_page_of doc (entry_of value.entries pair) ≡ false
  -- a dismissal counts, and is an embargo, where the definitions say so
  pub counts : (T : RepliedHistory) (now : ℕ) (value : StoreValue) (pair : Pair) → IsStore T now value → store.counts value pair ≡ counts T now (standing_of T pair)
  pub embargo : (T : RepliedHistory) (now : ℕ) (value : StoreValue) (pair : Pair) → IsStore T now value → store.completes_embargo value pair ≡ is_some (embargo_for now T pair)
  -- it has as many entries as there are
  pub counted : (T : RepliedHistory) (value : StoreValue) → IsStore T (clock T) value → IsOnePerPair value.entries → length value.entries ≡ length (entries T)
  -- a step that sets nothing, dismisses nothing and ends no document leaves it
  pub quiet : (s : Step) (T : RepliedHistory) (now : ℕ) (value : StoreValue) → (effects_of s).sets ≡ false → (effects_of s).dismisses ≡ false → (effects_of s).ends_documents ≡ false
      → IsStore T now value → IsStore (s ∷ T) now value
  -- after a setting, by name or as an embargo
  pub set : (duration : ℕ) (H : History) (s : Step) (now : ℕ) (x : Setting) (old new : StoreValue) → IsTrue (is_regular duration H) → setting_by s.time s.event (replied duration H) ≡ Some x
      → IsTrue (holds (s ∷ replied duration H) now x.life) → IsStore (replied duration H) now old → IsSet x old new → IsStore (s ∷ replied duration H) now new
  -- after a dismissal, an embargo or not
  pub dismissed : (s : Step) (T : RepliedHistory) (prompt : ℕ) (given : EventLife) (pair : Pair) (old new : StoreValue) → s.event ≡ event.Answered prompt outcome.Dismiss given
      → prompt_pair T prompt ≡ Some pair → IsStore T s.time old → IsDismissed pair s.time old new → IsStore (s ∷ T) s.time new
  -- after the end of the document of a frame
  pub ended : (duration : ℕ) (H : History) (s : Step) (now f doc : ℕ) (old new : StoreValue) → IsTrue (is_regular duration H) → IsTrue (ends (f ∷ []) s.event)
      → document_in (replied duration H) f ≡ Some doc → IsStore (replied duration H) now old → IsEnded doc old new → IsStore (s ∷ replied duration H) now new
  -- the end of an embedded document leaves it
  pub ended_below : (duration : ℕ) (H : History) (s : Step) (now f doc : ℕ) (value : StoreValue) → IsTrue (is_regular duration H) → IsTrue (ends (f ∷ []) s.event)
      → document_in (replied duration H) f ≡ Some doc → chain (replied duration H) doc ≢ doc ∷ [] → IsStore (replied duration H) now value → IsStore (s ∷ replied duration H) now value
