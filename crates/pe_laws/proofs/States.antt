-- The permission states of older documents after a step.
use Rattle.std.proofs.Common.{◌≡◌, ℕ, ◌≤◌, true, false, ◌∷◌, length, Some, None, option_and_then, refl, ◌∙◌}
use Rattle.std.specs.Bool.{Decides}
use Rattle.pe_base.specs.declared.state.State.TheVariants as state
use Rattle.pe_features.specs.declared.feature.Feature.{Feature}
use Rattle.pe_store.specs.Pairs.{Pair, is_same_pair}
use Rattle.pe_rules.specs.History.{Step, RepliedHistory}
use Rattle.pe_rules.specs.Settings.{pair_for, last_setting, stored_state}
use Rattle.pe_rules.specs.PermissionState.{permission_state}
use Rattle.pe_laws.specs.Effects.{effects}
use Rattle.pe_laws.specs.PermissionStateLaws.{is_blocked, state_from}
use Rattle.pe_laws.proofs.Lists.{then-same}
use Rattle.pe_laws.proofs.Older.{why-older}
use Rattle.pe_laws.proofs.Origins.{secure-older}
use Rattle.pe_laws.proofs.Effects.{secure-stays, why-stays}
use Rattle.pe_laws.proofs.Quiet.{last-setting-stays}
use Rattle.pe_laws.proofs.Lives.{pair-older, stored-older}

pub blocked-older : (s : Step) (T : RepliedHistory) (d : ℕ) (f : Feature) → d ≤ length T → is_blocked (s ∷ T) d f ≡ is_blocked T d f
unfolding is_blocked
blocked-older s T d f h = rw (secure-older s T d h, why-older s T f d h) refl

pub blocked-stays : (s : Step) (T : RepliedHistory) (d : ℕ) (f : Feature) → (effects s.event s.item).makes_document ≡ false → is_blocked (s ∷ T) d f ≡ is_blocked T d f
unfolding is_blocked
blocked-stays s T d f h = rw (secure-stays s T d h, why-stays s T f d h) refl

pub state-by-entry : (T : RepliedHistory) (now d : ℕ) (f : Feature) → permission_state T now d f ≡ state_from (is_blocked T d f) (option_and_then (stored_state T now) (pair_for T d f))
unfolding permission_state is_blocked
state-by-entry T now d f = refl

pub state-blocked : (T : RepliedHistory) (now d : ℕ) (f : Feature) → is_blocked T d f ≡ true → permission_state T now d f ≡ state.Denied
state-blocked T now d f h = state-by-entry T now d f ∙ rw h refl

pub state-unpaired : (T : RepliedHistory) (now d : ℕ) (f : Feature) → is_blocked T d f ≡ false → pair_for T d f ≡ None → permission_state T now d f ≡ state.Prompt
state-unpaired T now d f h none = state-by-entry T now d f ∙ rw (h, none) refl

pub state-of-pair : (T : RepliedHistory) (now d : ℕ) (f : Feature) (p : Pair) → pair_for T d f ≡ Some p → permission_state T now d f ≡ state_from (is_blocked T d f) (stored_state T now p)
state-of-pair T now d f p is = state-by-entry T now d f ∙ rw is refl

pub state-older : (s : Step) (T : RepliedHistory) (now d : ℕ) (f : Feature) → d ≤ length T
    → permission_state (s ∷ T) now d f ≡ state_from (is_blocked T d f) (option_and_then (stored_state (s ∷ T) now) (pair_for T d f))
state-older s T now d f h = state-by-entry (s ∷ T) now d f ∙ rw (blocked-older s T d f h, pair-older s T d f h) refl

pub state-same-entry : (s : Step) (T : RepliedHistory) (now d : ℕ) (f : Feature) → d ≤ length T → ((p : Pair) → pair_for T d f ≡ Some p → stored_state (s ∷ T) now p ≡ stored_state T now p)
    → permission_state (s ∷ T) now d f ≡ permission_state T now d f
state-same-entry s T now d f h same =
    state-older s T now d f h
    ∙ rw (then-same (stored_state (s ∷ T) now) (stored_state T now) (pair_for T d f) same, state-by-entry T now d f) refl

module _ (pairs : (p q : Pair) → Decides (is_same_pair p q) (p ≡ q)) where
  pub state-same-setting : (s : Step) (T : RepliedHistory) (now d : ℕ) (f : Feature) → d ≤ length T → (effects s.event s.item).ends_documents ≡ false
      → ((p : Pair) → pair_for T d f ≡ Some p → last_setting (s ∷ T) p ≡ last_setting T p) → permission_state (s ∷ T) now d f ≡ permission_state T now d f
  state-same-setting s T now d f h g same = state-same-entry s T now d f h (λ p is. stored-older pairs s T now p g (same p is))

  pub state-stays : (s : Step) (T : RepliedHistory) (now d : ℕ) (f : Feature) → d ≤ length T → (effects s.event s.item).sets ≡ false → (effects s.event s.item).dismisses ≡ false
      → (effects s.event s.item).ends_documents ≡ false → permission_state (s ∷ T) now d f ≡ permission_state T now d f
  state-stays s T now d f h sets dismisses g = state-same-setting s T now d f h g (λ p is. last-setting-stays s T p sets dismisses)
