-- Laws of settings: what stands for a pair step by step, also after an embargo, and how long what is stored holds.
use Rattle.std.specs.Prelude.{◌≡◌, ◌≢◌, ℕ, ◌<◌, ◌≤◌, ◌+◌, Bool, true, false, not, ◌&&◌, ◌==◌, IsTrue, [], ◌∷◌, length, Option, Some, is_some, unwrap_or, option_map, option_and_then, if◌then◌else◌}
use Rattle.std.specs.Option.{option_or}
use Rattle.pe_base.specs.declared.limits.TheConstants.{EMBARGO_DISMISSALS}
use Rattle.pe_base.specs.declared.state.State.{State}
use Rattle.pe_base.specs.declared.state.State.TheVariants as state
use Rattle.pe_features.specs.declared.feature.Feature.{Feature}
use Rattle.pe_store.specs.declared.key.Life.{Life}
use Rattle.pe_store.specs.declared.key.Life.TheVariants as life
use Rattle.pe_store.specs.Pairs.{Pair, is_same_pair}
use Rattle.pe_events.specs.declared.event.Event.{Event}
use Rattle.pe_events.specs.declared.event.Event.TheVariants as event
use Rattle.pe_events.specs.declared.event.EventLife.{EventLife}
use Rattle.pe_events.specs.declared.event.Outcome.TheVariants as outcome
use Rattle.pe_events.specs.Fitting.{is_fitting}
use Rattle.pe_rules.specs.History.{Step, RepliedHistory, History, some_if, clock}
use Rattle.pe_rules.specs.Embedders.{chain}
use Rattle.pe_rules.specs.Current.{ends, frames_above, is_current}
use Rattle.pe_rules.specs.Settings.{Setting, Standing, key_for, pair_for, prompt_pair, setting_by, holds, stored_by, dismissed_pair, counts, embargo, embargo_for, is_pair, standing_of, last_setting, dismissals, stored_state, has_entry}
use Rattle.pe_rules.specs.Replies.{replied, is_regular}
use Rattle.pe_laws.specs.Effects.{effects}

-- the setting that a step makes of this pair, by name or as an embargo
abbrev pub setting_of : Step → RepliedHistory → Pair → Option Setting
setting_of s T p = option_and_then (λ x. some_if (is_same_pair x.pair p) x) (setting_by s.time s.event T)

-- the step dismisses a prompt of this pair, and that counts
abbrev pub is_dismissed : Step → RepliedHistory → Pair → Bool
is_dismissed s T p = is_pair (dismissed_pair s.event T) p && counts T s.time (standing_of T p)

-- what stands for a pair after a setting of it
abbrev pub standing_anew : Setting → Standing
standing_anew x = record { last = Some x; dismissals = 0 }

-- what stands for a pair after one more dismissal
abbrev pub standing_dismissed : Standing → Standing
standing_dismissed before = record { last = before.last; dismissals = before.dismissals + 1 }

-- the step leaves the life: it ends no frame of the document that the life names
abbrev pub leaves_life : RepliedHistory → Step → Life → Bool
leaves_life T s (life.Page d) = not (ends (frames_above T d) s.event)
leaves_life T s other = true

-- the document that a life names, if it names one, was made in these steps
abbrev pub IsLifeWithin : RepliedHistory → Life → Type 0
IsLifeWithin T l = (d : ℕ) → l ≡ life.Page d → (1 ≤ d) × (d ≤ length T)

-- the setting of a pair that is in force at a time: the last one, while its life holds
unfoldable pub in_force : RepliedHistory → ℕ → Pair → Option Setting
in_force T now p = option_and_then (λ x. some_if (holds T now x.life) x) (last_setting T p)

-- what holds of settings
pub record SettingsLaws : Type 0 where
  -- the last setting of a pair after a step: the one that the step makes of it, by name or as an embargo, else the one before
  pub last_setting_step : (s : Step) (T : RepliedHistory) (p : Pair)
      → last_setting (s ∷ T) p ≡ option_or (option_and_then (λ x. some_if (is_same_pair x.pair p) x) (setting_by s.time s.event T)) (last_setting T p)
  -- what stands for a pair after a step: a setting of it starts anew, a dismissal that counts and is no embargo is one more
  pub standing_step : (s : Step) (T : RepliedHistory) (p : Pair)
      → standing_of (s ∷ T) p ≡ unwrap_or (option_map standing_anew (setting_of s T p)) (if is_dismissed s T p then standing_dismissed (standing_of T p) else standing_of T p)
  pub dismissals_step : (s : Step) (T : RepliedHistory) (p : Pair)
      → dismissals (s ∷ T) p ≡ (if is_some (setting_of s T p) then 0 else if is_dismissed s T p then dismissals T p + 1 else dismissals T p)
  -- what stands for the pair of a setting after it, also where it is that of an embargo
  pub standing_set : (s : Step) (T : RepliedHistory) (x : Setting) → setting_by s.time s.event T ≡ Some x → standing_of (s ∷ T) x.pair ≡ standing_anew x
  -- it leaves what stands for other pairs
  pub standing_beside : (s : Step) (T : RepliedHistory) (x : Setting) (p : Pair) → setting_by s.time s.event T ≡ Some x → x.pair ≢ p → standing_of (s ∷ T) p ≡ standing_of T p
  -- so does a dismissal
  pub standing_undismissed : (s : Step) (T : RepliedHistory) (q p : Pair) → dismissed_pair s.event T ≡ Some q → q ≢ p → standing_of (s ∷ T) p ≡ standing_of T p
  -- fewer dismissals stand than make an embargo
  pub dismissals_below : (T : RepliedHistory) (p : Pair) → dismissals T p < EMBARGO_DISMISSALS
  -- the setting that a dismissal makes: the embargo of the prompt's pair, where it counts and is the last that is wanted
  pub setting_dismissed : (time prompt : ℕ) (given : EventLife) (T : RepliedHistory)
      → setting_by time (event.Answered prompt outcome.Dismiss given) T ≡ option_and_then (embargo_for time T) (prompt_pair T prompt)
  pub embargo_is : (time : ℕ) (T : RepliedHistory) (p : Pair)
      → embargo_for time T p ≡ some_if (counts T time (standing_of T p) && dismissals T p + 1 == EMBARGO_DISMISSALS) (embargo time p)
  -- the key and the pair of a feature stay for a document that was there before a step
  pub key_older : (s : Step) (T : RepliedHistory) (d : ℕ) (f : Feature) → d ≤ length T → key_for (s ∷ T) d f ≡ key_for T d f
  pub pair_older : (s : Step) (T : RepliedHistory) (d : ℕ) (f : Feature) → d ≤ length T → pair_for (s ∷ T) d f ≡ pair_for T d f
  -- the pair of a feature is one of that feature
  pub pair_feature : (T : RepliedHistory) (d : ℕ) (f : Feature) (p : Pair) → pair_for T d f ≡ Some p → p.0 ≡ f
  -- a document that a setting's life names is current when the setting is made, and so was made before
  pub life_current : (time : ℕ) (e : Event) (T : RepliedHistory) (x : Setting) (d : ℕ) → setting_by time e T ≡ Some x → x.life ≡ life.Page d → IsTrue (is_current T d)
  pub life_within : (time : ℕ) (e : Event) (T : RepliedHistory) (x : Setting) → setting_by time e T ≡ Some x → IsLifeWithin T x.life
  pub last_life_within : (T : RepliedHistory) (p : Pair) (x : Setting) → last_setting T p ≡ Some x → IsLifeWithin T x.life
  -- the last setting of a pair is one of that pair
  pub last_pair : (T : RepliedHistory) (p : Pair) (x : Setting) → last_setting T p ≡ Some x → x.pair ≡ p
  -- a life holds after a step where it did, and the step ends no frame of the document that it names
  pub holds_step : (s : Step) (T : RepliedHistory) (now : ℕ) (l : Life) → IsLifeWithin T l → holds (s ∷ T) now l ≡ (holds T now l && leaves_life T s l)
  pub holds_older : (s : Step) (T : RepliedHistory) (now : ℕ) (l : Life) → (effects s.event s.item).ends_documents ≡ false → IsLifeWithin T l → holds (s ∷ T) now l ≡ holds T now l
  -- a life that ended stays ended, and what is stored later was stored
  pub ended_later : (T : RepliedHistory) (now later : ℕ) (l : Life) → now ≤ later → holds T now l ≡ false → holds T later l ≡ false
  pub stored_sooner : (T : RepliedHistory) (now later : ℕ) (p : Pair) (state : State) → now ≤ later → stored_state T later p ≡ Some state → stored_state T now p ≡ Some state
  -- what is stored for a pair, and whether it has an entry, by what stands for it
  pub stored_by_standing : (T : RepliedHistory) (now : ℕ) (p : Pair) → stored_state T now p ≡ stored_by T now (standing_of T p).last
  pub entry_by_standing : (T : RepliedHistory) (p : Pair) → has_entry T p ≡ is_some (stored_by T (clock T) (standing_of T p).last)
  -- what is stored stays at a step that ends no document, where the last setting stays
  pub stored_older : (s : Step) (T : RepliedHistory) (now : ℕ) (p : Pair) → (effects s.event s.item).ends_documents ≡ false → last_setting (s ∷ T) p ≡ last_setting T p
      → stored_state (s ∷ T) now p ≡ stored_state T now p
  -- what is stored after a setting of the pair: its state, where its life holds
  pub stored_set : (s : Step) (T : RepliedHistory) (now : ℕ) (x : Setting) → setting_by s.time s.event T ≡ Some x → stored_state (s ∷ T) now x.pair ≡ some_if (holds (s ∷ T) now x.life) x.state
  -- what is stored for a pair is the state of the setting in force
  pub stored_in_force : (T : RepliedHistory) (now : ℕ) (p : Pair) → stored_state T now p ≡ option_map (λ x. x.state) (in_force T now p)
  -- the setting in force after a step: the one that the step makes, while its life holds, else the one before, where the step leaves its life
  pub in_force_step : (s : Step) (T : RepliedHistory) (now : ℕ) (p : Pair)
      → in_force (s ∷ T) now p ≡ unwrap_or (option_map (λ x. some_if (holds (s ∷ T) now x.life) x) (setting_of s T p)) (option_and_then (λ x. some_if (leaves_life T s x.life) x) (in_force T now p))
  -- the setting in force at a later time: the one in force now, where its life still holds
  pub in_force_later : (T : RepliedHistory) (now later : ℕ) (p : Pair) → now ≤ later → in_force T later p ≡ option_and_then (λ x. some_if (holds T later x.life) x) (in_force T now p)
  -- a setting whose life names a document does not store prompt
  pub page_life_decides : (time : ℕ) (e : Event) (T : RepliedHistory) (x : Setting) (d : ℕ) → setting_by time e T ≡ Some x → x.life ≡ life.Page d → x.state ≢ state.Prompt
  -- the life of a setting holds when it is made by an event that a line can say, unless it is that of an answer for once without a page
  pub set_holds : (s : Step) (T : RepliedHistory) (x : Setting) → IsTrue (is_fitting s.event) → setting_by s.time s.event T ≡ Some x → x.life ≢ life.Until 0
      → IsTrue (holds (s ∷ T) s.time x.life)
  -- a step that makes a setting makes no status, drops none and ends no document
  pub set_alone : (s : Step) (T : RepliedHistory) (x : Setting) → setting_by s.time s.event T ≡ Some x
      → ((effects s.event s.item).makes_status ≡ false) × ((effects s.event s.item).drops_status ≡ false) × ((effects s.event s.item).ends_documents ≡ false)
  -- in a regular history the document that a setting's life names is the top one of its page
  pub life_top : (duration : ℕ) (H : History) (time : ℕ) (e : Event) (x : Setting) (d : ℕ) → IsTrue (is_regular duration H) → setting_by time e (replied duration H) ≡ Some x → x.life ≡ life.Page d
      → chain (replied duration H) d ≡ d ∷ []
