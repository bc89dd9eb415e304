-- What a store, the statuses and the documents of frames stand for.
-- This project's own: parts of the one relation between an engine and the list of accepted events.
use Rattle.std.specs.Prelude.{◌≡◌, ℕ, Bool, true, List, [], ◌∷◌, map, Option, Some, unwrap_or, option_map}
use Rattle.pe_features.specs.declared.feature.Feature.{Feature}
use Rattle.pe_frames.specs.Forest as forest
use Rattle.pe_store.specs.declared.entry.Entry.{Entry}
use Rattle.pe_store.specs.declared.key.Life.{Life}
use Rattle.pe_store.specs.declared.key.Life.TheVariants as life
use Rattle.pe_store.specs.Entries.{StoreValue, dismissals_of, stored, entry_of}
use Rattle.pe_store.specs.Pairs.{Pair}
use Rattle.pe_status.specs.declared.registered.Registered.{Registered}
use Rattle.pe_status.specs.Registry.{Registry, pair_of, was_given}
use Rattle.pe_rules.specs.History.{RepliedHistory}
use Rattle.pe_rules.specs.Numbering.{is_status}
use Rattle.pe_rules.specs.Embedders.{chain, page}
use Rattle.pe_rules.specs.Settings.{Setting, pair_for, dismissals}
use Rattle.pe_rules.specs.Statuses.{Status, live_statuses}
use Rattle.pe_laws.specs.PermissionStateLaws.{is_blocked}
use Rattle.pe_laws.specs.SettingsLaws.{in_force}
use Rattle.pe_laws.specs.StatusesLaws.{Each}

-- ---- the store

-- the entry of a setting
abbrev pub entry_by : Setting → Entry
entry_by x = stored x.pair x.state x.life

-- the entry that a pair has at a time: that of the setting in force
unfoldable pub entry_in : RepliedHistory → ℕ → Pair → Option Entry
entry_in T now pair = option_map entry_by (in_force T now pair)

-- a document that the life names is the top one of its page
abbrev pub IsTopLife : RepliedHistory → Life → Type 0
IsTopLife T l = (d : ℕ) → l ≡ life.Page d → chain T d ≡ d ∷ []

-- the store stands for these steps at a time: each pair has the entry of the setting in force, and was dismissed as often as counts, and lives name top documents
pub record IsStore (T : RepliedHistory) (now : ℕ) (store : StoreValue) : Type 0 where
  pub found : (pair : Pair) → entry_of store.entries pair ≡ entry_in T now pair
  pub dismissals : (pair : Pair) → dismissals_of store pair ≡ dismissals T pair
  pub tops : (pair : Pair) (e : Entry) → entry_of store.entries pair ≡ Some e → IsTopLife T e.life

-- ---- the statuses

-- a registered status as the history has it
abbrev pub status_of_row : Registered → Status
status_of_row r = record { number = r.no; document = r.doc.doc; feature = r.feature }

-- the statuses stand for these steps: the live ones are those of the history, each under its pair and with its page, and the numbers are those of statuses
pub record IsStatuses (T : RepliedHistory) (statuses : Registry) : Type 0 where
  pub live : map status_of_row statuses.live ≡ live_statuses T
  pub paired : Each (λ r. pair_for T r.doc.doc r.feature ≡ Some (pair_of r)) statuses.live
  pub paged : Each (λ r. page T r.doc.doc ≡ r.page) statuses.live
  pub given : (number : ℕ) → was_given statuses.given number ≡ is_status T number

-- ---- the documents

module _ {D : Type 0} where
  -- whether the document of the status is denied the status's feature, where the frame shows that document
  abbrev pub blocked_of : (D → ℕ) → (D → Feature → Bool) → List (forest.Entry D) → Registered → Option Bool
  blocked_of number blocks frames r = option_map (λ doc. blocks doc r.feature) (forest.doc_of number frames r.doc)

  -- no stored state changes the status: its document is denied the feature, or is not there
  abbrev pub is_silent : (D → ℕ) → (D → Feature → Bool) → List (forest.Entry D) → Registered → Bool
  is_silent number blocks frames r = unwrap_or (blocked_of number blocks frames r) true

  -- the frames show the documents of these statuses, and those know which of the features they are denied
  abbrev pub AreGoverned : RepliedHistory → (D → ℕ) → (D → Feature → Bool) → List (forest.Entry D) → List Registered → Type 0
  AreGoverned T number blocks frames live = Each (λ r. blocked_of number blocks frames r ≡ Some (is_blocked T r.doc.doc r.feature)) live
