-- The permission status that a query registers.
-- Permissions, "query()", the interface PermissionStatus.
use Rattle.std.specs.Prelude.{◌≡◌, ℕ, [], ◌∷◌, ◌++◌, Some, option_map}
use Rattle.pe_base.specs.declared.state.State.{State}
use Rattle.pe_arena.specs.declared.handle.Handle.{Handle}
use Rattle.pe_features.specs.declared.feature.Feature.{Feature}
use Rattle.pe_frames.specs.Forest.{entry_of}
use Rattle.pe_store.specs.declared.key.Key.{Key}
use Rattle.pe_status.specs.declared.registered.Registered.{Registered}
use Rattle.pe_rules.specs.History.{RepliedHistory}
use Rattle.pe_rules.specs.PermissionState.{permission_state}
use Rattle.pe_rules.specs.Settings.{pair_for}
use Rattle.pe_changes.specs.Parts.{IsStore}
use Rattle.pe_engine.specs.declared.row.Row.{Row}
use Rattle.pe_engine.specs.Rows.{IsSettled}
use Rattle.pe_engine.specs.StandsFor.{EngineValue}

-- the status of this number, in this page, of the document of the row that the frame of the handle shows
abbrev pub status_of_document : ℕ → ℕ → Handle → Row → Feature → Key → Registered
status_of_document number page h x feature key = record { no = number; page = page; doc = record { at = h; doc = x.doc }; feature = feature; key = key }

-- the status was registered for the document that the frame of the handle shows, under the pair of the feature for it, and the state is that of its permission at the clock
pub record HasRegistered (old new : EngineValue) (number page : ℕ) (h : Handle) (feature : Feature) (state : State) : Type 0 where
  pub row : Row
  pub key : Key
  pub found : option_map (λ e. e.doc) (entry_of old.frames.entries h) ≡ Some row
  pub paired : (T : RepliedHistory) → IsSettled T row → pair_for T row.doc feature ≡ Some (feature, key)
  pub rest : new ≡ record old { statuses = new.statuses }
  pub live : new.statuses.live ≡ old.statuses.live ++ status_of_document number page h row feature key ∷ []
  pub given : new.statuses.given ≡ old.statuses.given ++ number ∷ []
  pub state_is : (T : RepliedHistory) → IsSettled T row → IsStore T old.clock old.store → state ≡ permission_state T old.clock row.doc feature
