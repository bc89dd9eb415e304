-- The moments at which a stored permission lapses.
-- Permissions, section 4.1 ("lifetime"); that time passes millisecond by millisecond is this project's own.
-- Between two such moments the passing of time changes no permission state.
use Rattle.std.specs.Prelude.{◌≡◌, ℕ, Bool, false, IsTrue, Some, ◌==◌, ◌-◌, List, filter, unwrap_or, option_map, option_to_list}
use Rattle.std.specs.List.{list_any}
use Rattle.pe_features.specs.declared.feature.Feature.{Feature}
use Rattle.pe_store.specs.declared.key.Life.{Life}
use Rattle.pe_store.specs.declared.key.Life.TheVariants as life
use Rattle.pe_rules.specs.History.{RepliedHistory, all_answers, clock}
use Rattle.pe_store.specs.Pairs.{Pair}
use Rattle.pe_rules.specs.Settings.{Setting, pair_for, setting_by, last_setting}
use Rattle.pe_rules.specs.Changes.{numbers_above}

-- the life ends at this moment
abbrev pub ends_at : ℕ → Life → Bool
ends_at moment (life.Until end) = end == moment
ends_at moment other = false

-- the life of the last setting of the pair ends at this moment
unfoldable pub lapses : RepliedHistory → ℕ → Pair → Bool
lapses T moment pair = unwrap_or (option_map (λ x. ends_at moment x.life) (last_setting T pair)) false

-- the feature has a pair for the document, of which the life of the last setting ends at this moment
abbrev pub MayLapse : RepliedHistory → ℕ → ℕ → Feature → Type 0
MayLapse T moment d feature = (p : Pair) × (pair_for T d feature ≡ Some p) × IsTrue (lapses T moment p)

-- the settings that were made, oldest first
unfoldable pub settings_made : RepliedHistory → List Setting
settings_made T = all_answers (λ s B. option_to_list (setting_by s.time s.event B)) T

-- at this moment the life of some pair's last setting ends
unfoldable pub is_due : RepliedHistory → ℕ → Bool
is_due T moment = list_any (λ x. lapses T moment x.pair) (settings_made T)

-- the moments after the clock, up to a time, at which the life of some pair's last setting ends, rising
unfoldable pub due_moments : RepliedHistory → ℕ → List ℕ
due_moments T now = filter (is_due T) (numbers_above (clock T) (now - clock T))
