-- Laws of permission states: a part that is settled when the document is made, and what is stored for the feature's pair.
use Rattle.std.specs.Prelude.{◌≡◌, ℕ, ◌≤◌, Bool, true, false, not, ◌||◌, ◌∷◌, length, Option, Some, None, is_some, unwrap_or, option_and_then, if◌then◌else◌}
use Rattle.pe_base.specs.declared.state.State.{State}
use Rattle.pe_base.specs.declared.state.State.TheVariants as state
use Rattle.pe_features.specs.declared.feature.Feature.{Feature}
use Rattle.pe_store.specs.Pairs.{Pair}
use Rattle.pe_rules.specs.History.{Step, RepliedHistory}
use Rattle.pe_rules.specs.Origins.{is_secure}
use Rattle.pe_rules.specs.Denials.{why_denied}
use Rattle.pe_rules.specs.Settings.{pair_for, last_setting, stored_state}
use Rattle.pe_rules.specs.PermissionState.{permission_state}
use Rattle.pe_laws.specs.Effects.{effects}

-- the document is in no secure context, or its policy denies the feature
unfoldable pub is_blocked : RepliedHistory → ℕ → Feature → Bool
is_blocked T d feature = not (is_secure T d) || is_some (why_denied T feature d)

-- the state of a feature: denied where it is blocked, else what is stored, else prompt
abbrev pub state_from : Bool → Option State → State
state_from blocked entry = if blocked then state.Denied else unwrap_or entry state.Prompt

-- what holds of permission states
pub record PermissionStateLaws : Type 0 where
  -- whether a feature is blocked for a document stays at each step after its making
  pub blocked_older : (s : Step) (T : RepliedHistory) (d : ℕ) (f : Feature) → d ≤ length T → is_blocked (s ∷ T) d f ≡ is_blocked T d f
  -- nor does it change at a step that makes no document
  pub blocked_stays : (s : Step) (T : RepliedHistory) (d : ℕ) (f : Feature) → (effects s.event s.item).makes_document ≡ false → is_blocked (s ∷ T) d f ≡ is_blocked T d f
  -- the state by that and by what is stored for the pair
  pub state_by_entry : (T : RepliedHistory) (now d : ℕ) (f : Feature) → permission_state T now d f ≡ state_from (is_blocked T d f) (option_and_then (stored_state T now) (pair_for T d f))
  -- a feature that is blocked is denied, whatever is stored
  pub state_blocked : (T : RepliedHistory) (now d : ℕ) (f : Feature) → is_blocked T d f ≡ true → permission_state T now d f ≡ state.Denied
  -- a feature without a pair is prompt where it is not blocked
  pub state_unpaired : (T : RepliedHistory) (now d : ℕ) (f : Feature) → is_blocked T d f ≡ false → pair_for T d f ≡ None → permission_state T now d f ≡ state.Prompt
  -- one with a pair is what is stored for it
  pub state_of_pair : (T : RepliedHistory) (now d : ℕ) (f : Feature) (p : Pair) → pair_for T d f ≡ Some p → permission_state T now d f ≡ state_from (is_blocked T d f) (stored_state T now p)
  -- the state of an older document after a step: only what is stored may differ
  pub state_older : (s : Step) (T : RepliedHistory) (now d : ℕ) (f : Feature) → d ≤ length T
      → permission_state (s ∷ T) now d f ≡ state_from (is_blocked T d f) (option_and_then (stored_state (s ∷ T) now) (pair_for T d f))
  -- it stays where what is stored for its pair does
  pub state_by_same_entry : (s : Step) (T : RepliedHistory) (now d : ℕ) (f : Feature) → d ≤ length T → ((p : Pair) → pair_for T d f ≡ Some p → stored_state (s ∷ T) now p ≡ stored_state T now p)
      → permission_state (s ∷ T) now d f ≡ permission_state T now d f
  -- it stays at a step that ends no document, where the last setting of its pair does
  pub state_by_same_setting : (s : Step) (T : RepliedHistory) (now d : ℕ) (f : Feature) → d ≤ length T → (effects s.event s.item).ends_documents ≡ false
      → ((p : Pair) → pair_for T d f ≡ Some p → last_setting (s ∷ T) p ≡ last_setting T p) → permission_state (s ∷ T) now d f ≡ permission_state T now d f
  -- it stays at a step that sets nothing, dismisses nothing and ends no document
  pub state_stays : (s : Step) (T : RepliedHistory) (now d : ℕ) (f : Feature) → d ≤ length T → (effects s.event s.item).sets ≡ false → (effects s.event s.item).dismisses ≡ false
      → (effects s.event s.item).ends_documents ≡ false → permission_state (s ∷ T) now d f ≡ permission_state T now d f
