-- Laws of the passing of time: it changes nothing but at the moments at which a life ends.
-- And of the changes of an event itself: one that sets nothing, dismisses nothing and ends no document brings none.
use Rattle.std.specs.Prelude.{◌≡◌, ◌≢◌, ℕ, ◌<◌, ◌≤◌, ◌-◌, true, false, IsTrue, [], ◌∷◌, length, Some, None, option_map, flat_map, option_to_list}
use Rattle.pe_features.specs.declared.feature.Feature.{Feature}
use Rattle.pe_store.specs.Pairs.{Pair}
use Rattle.pe_events.specs.declared.answer.Change.{Change}
use Rattle.pe_rules.specs.History.{Step, RepliedHistory}
use Rattle.pe_rules.specs.Settings.{pair_for, setting_by, last_setting, stored_state}
use Rattle.pe_rules.specs.PermissionState.{permission_state}
use Rattle.pe_rules.specs.Statuses.{Status, live_statuses}
use Rattle.pe_rules.specs.Changes.{change_of, change_at, changes_at, changes_before, change_between, changes_after}
use Rattle.pe_laws.specs.DueMoments.{MayLapse, lapses, due_moments}
use Rattle.pe_laws.specs.PermissionStateLaws.{is_blocked, state_from}
use Rattle.pe_laws.specs.Effects.{effects}

-- what holds of the changes that time brings, and of those of an event itself
pub record ChangesLaws : Type 0 where
  -- the permission state differs between a moment and the one before it only where the feature has a pair for the document, and the life of the pair's last setting ends at this moment
  pub state_changes_where_a_life_ends : (T : RepliedHistory) (now d : ℕ) (f : Feature) → permission_state T (now - 1) d f ≢ permission_state T now d f → MayLapse T now d f
  -- the changes at each millisecond after the clock are those at the moments at which the life of some pair's last setting ends, in the same order
  pub changes_are_those_of_due_moments : (T : RepliedHistory) (now : ℕ) → changes_before T now ≡ flat_map (changes_at T) (due_moments T now)
  -- until the moment at which the life of a pair's last setting ends, its state is stored
  pub stored_before_lapse : (T : RepliedHistory) (moment now : ℕ) (p : Pair) → IsTrue (lapses T moment p) → now < moment → stored_state T now p ≡ option_map (λ x. x.state) (last_setting T p)
  -- from that moment on nothing is stored for the pair
  pub stored_lapsed : (T : RepliedHistory) (moment now : ℕ) (p : Pair) → IsTrue (lapses T moment p) → moment ≤ now → stored_state T now p ≡ None
  -- what is stored for a pair is the same at two times without such a moment after the first, up to the second
  pub stored_between : (T : RepliedHistory) (now later : ℕ) (p : Pair) → now ≤ later → ((moment : ℕ) → now < moment → moment ≤ later → lapses T moment p ≡ false)
      → stored_state T later p ≡ stored_state T now p
  -- so is the permission state
  pub state_between : (T : RepliedHistory) (now later d : ℕ) (f : Feature) → now ≤ later
      → ((p : Pair) → pair_for T d f ≡ Some p → (moment : ℕ) → now < moment → moment ≤ later → lapses T moment p ≡ false)
      → permission_state T later d f ≡ permission_state T now d f
  -- a status changes only at such a moment of its own pair
  pub change_lapses : (T : RepliedHistory) (now : ℕ) (x : Status) (c : Change) → change_at T now x ≡ Some c → MayLapse T now x.document x.feature
  -- the change tells the moment, the number of the status and the state at the moment
  pub change_is : (T : RepliedHistory) (now : ℕ) (x : Status) (c : Change) → change_at T now x ≡ Some c
      → c ≡ record { time = now; status = x.number; state = permission_state T now x.document x.feature }
  -- a step that sets nothing, dismisses nothing and ends no document changes no older status, and so brings no change by itself
  pub none_between : (s : Step) (T : RepliedHistory) (now : ℕ) (x : Status) → x.document ≤ length T → (effects s.event s.item).sets ≡ false → (effects s.event s.item).dismisses ≡ false
      → (effects s.event s.item).ends_documents ≡ false → change_between T (s ∷ T) now x ≡ None
  pub none_after : (s : Step) (T : RepliedHistory) (now : ℕ) → (effects s.event s.item).sets ≡ false → (effects s.event s.item).dismisses ≡ false
      → (effects s.event s.item).ends_documents ≡ false → changes_after T (s ∷ T) now ≡ []
  -- an older status changes by an event only where what is stored for its pair does, and never where its feature is blocked
  pub none_between_unless_stored : (s : Step) (T : RepliedHistory) (now : ℕ) (x : Status) → x.document ≤ length T
      → ((p : Pair) → pair_for T x.document x.feature ≡ Some p → stored_state (s ∷ T) now p ≡ stored_state T now p) → change_between T (s ∷ T) now x ≡ None
  pub none_between_blocked : (s : Step) (T : RepliedHistory) (now : ℕ) (x : Status) → x.document ≤ length T → is_blocked T x.document x.feature ≡ true → change_between T (s ∷ T) now x ≡ None
  -- the change of an older status by what is stored for its pair before and after
  pub between_of_pair : (s : Step) (T : RepliedHistory) (now : ℕ) (x : Status) (p : Pair) → x.document ≤ length T → pair_for T x.document x.feature ≡ Some p
      → change_between T (s ∷ T) now x ≡ change_of now x (state_from (is_blocked T x.document x.feature) (stored_state T now p)) (state_from (is_blocked T x.document x.feature) (stored_state (s ∷ T) now p))
  -- one that makes no setting and ends no document brings no change by itself, also where it is a dismissal
  pub none_after_unset : (s : Step) (T : RepliedHistory) (now : ℕ) → setting_by s.time s.event T ≡ None → (effects s.event s.item).ends_documents ≡ false → changes_after T (s ∷ T) now ≡ []
  -- the changes that a step brings by itself which makes no status: those of the statuses that are live after it
  pub after_live : (s : Step) (T : RepliedHistory) (now : ℕ) → (effects s.event s.item).makes_status ≡ false
      → changes_after T (s ∷ T) now ≡ flat_map (λ x. option_to_list (change_between T (s ∷ T) now x)) (live_statuses (s ∷ T))
