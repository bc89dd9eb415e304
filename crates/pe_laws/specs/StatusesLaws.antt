-- Laws of permission statuses: which were made, which are live, and what one step leaves of them.
use Rattle.std.specs.Prelude.{◌≡◌, ℕ, ◌<◌, ◌≤◌, false, not, ◌&&◌, ◌==◌, IsTrue, Bool, List, [], ◌∷◌, ◌++◌, length, map, filter, Option, Some, is_some, unwrap_or, option_map, option_and_then, option_to_list}
use Rattle.std.specs.List.{list_any}
use Rattle.pe_events.specs.declared.event.Event.TheVariants as event
use Rattle.pe_rules.specs.History.{Step, RepliedHistory, History, all_answers, step_at}
use Rattle.pe_rules.specs.Numbering.{is_status}
use Rattle.pe_rules.specs.Embedders.{page}
use Rattle.pe_rules.specs.Current.{ends, frames_above, is_current}
use Rattle.pe_rules.specs.Statuses.{Status, status_by, drops, is_live_status, live_statuses}
use Rattle.pe_rules.specs.Causes.{page_statuses}
use Rattle.pe_rules.specs.Replies.{replied, is_regular}
use Rattle.pe_laws.specs.EffectsLaws.{effects_of}

-- the statuses that events made, by number, dropped or not
unfoldable pub statuses_made : RepliedHistory → List Status
statuses_made T = all_answers (λ s B. option_to_list (status_by s.event B (length (s ∷ B)))) T

-- the status of a number, dropped or not
unfoldable pub status_at : RepliedHistory → ℕ → Option Status
status_at T k = option_and_then (λ a. status_by a.0.event a.1 k) (step_at T k)

-- the step neither drops the status nor ends its document
unfoldable pub leaves : Step → RepliedHistory → Status → Bool
leaves s T x = not (drops s.event x.number) && not (ends (frames_above T x.document) s.event)

-- each of the list has the property
abbrev pub Each : {A : Type 0} → (A → Type 0) → List A → Type 0
Each P [] = Unit {0}
Each P (x ∷ xs) = P x × Each P xs

-- the numbers of the statuses rise strictly
abbrev pub AreRising : List Status → Type 0
AreRising [] = Unit {0}
AreRising (x ∷ xs) = Each (λ y. x.number < y.number) xs × AreRising xs

-- the status and its document are positions of the history, and the status is that of its number
abbrev pub IsKept : RepliedHistory → Status → Type 0
IsKept T x = (1 ≤ x.number) × (x.number ≤ length T) × (1 ≤ x.document) × (x.document < x.number) × (status_at T x.number ≡ Some x)

-- what holds of statuses
pub record StatusesLaws : Type 0 where
  -- none was made at first, and a step makes its own after those before
  pub made_start : statuses_made [] ≡ []
  pub made_step : (s : Step) (T : RepliedHistory) → statuses_made (s ∷ T) ≡ statuses_made T ++ option_to_list (status_by s.event T (length (s ∷ T)))
  -- the live statuses are those that were made and are live
  pub live_of_made : (T : RepliedHistory) → live_statuses T ≡ filter (is_live_status T) (statuses_made T)
  pub live_start : live_statuses [] ≡ []
  -- the statuses that were made, and those that are live, rise strictly by number, and each is kept under its number
  pub made_rise : (T : RepliedHistory) → AreRising (statuses_made T)
  pub live_rise : (T : RepliedHistory) → AreRising (live_statuses T)
  pub made_kept : (T : RepliedHistory) → Each (IsKept T) (statuses_made T)
  pub live_kept : (T : RepliedHistory) → Each (IsKept T) (live_statuses T)
  -- a status stays under its number, with its document and its feature
  pub status_older : (s : Step) (T : RepliedHistory) (k : ℕ) → k ≤ length T → status_at (s ∷ T) k ≡ status_at T k
  pub status_newest : (s : Step) (T : RepliedHistory) → status_at (s ∷ T) (length (s ∷ T)) ≡ status_by s.event T (length (s ∷ T))
  -- in a regular history the numbers of statuses are those under which one is kept
  pub status_known : (duration : ℕ) (H : History) (k : ℕ) → IsTrue (is_regular duration H) → is_some (status_at (replied duration H) k) ≡ is_status (replied duration H) k
  -- a number is that of a live status exactly where the status of that number is live
  pub live_number : (T : RepliedHistory) (k : ℕ) → list_any (λ x. x.number == k) (live_statuses T) ≡ unwrap_or (option_map (is_live_status T) (status_at T k)) false
  -- a status that is live after a step where it was there before: it was live, and the step leaves it
  pub is_live_older : (s : Step) (T : RepliedHistory) (x : Status) → x.document ≤ length T → is_live_status (s ∷ T) x ≡ (is_live_status T x && leaves s T x)
  -- the live statuses after a step: those that it leaves, then its own
  pub live_step : (s : Step) (T : RepliedHistory)
      → live_statuses (s ∷ T) ≡ filter (leaves s T) (live_statuses T) ++ filter (is_live_status (s ∷ T)) (option_to_list (status_by s.event T (length (s ∷ T))))
  -- in a regular history a step that drops none and ends no document adds its own status at the end
  pub live_query : (duration : ℕ) (H : History) (s : Step) → IsTrue (is_regular duration H)
      → (effects_of s).drops_status ≡ false → (effects_of s).ends_documents ≡ false
      → live_statuses (s ∷ replied duration H) ≡ live_statuses (replied duration H) ++ option_to_list (status_by s.event (replied duration H) (length (s ∷ replied duration H)))
  -- a drop removes the status that it names
  pub live_drop : (s : Step) (T : RepliedHistory) (k : ℕ) → s.event ≡ event.DropStatus k → live_statuses (s ∷ T) ≡ filter (λ x. not (k == x.number)) (live_statuses T)
  -- a step that drops none and makes none leaves those whose document is still current
  pub live_ended : (s : Step) (T : RepliedHistory) → (effects_of s).drops_status ≡ false → (effects_of s).makes_status ≡ false
      → live_statuses (s ∷ T) ≡ filter (λ x. is_current (s ∷ T) x.document) (live_statuses T)
  -- where the table of effects says no, they stay
  pub is_status_stays : (s : Step) (T : RepliedHistory) (k : ℕ) → (effects_of s).makes_status ≡ false → is_status (s ∷ T) k ≡ is_status T k
  pub made_stay : (s : Step) (T : RepliedHistory) → (effects_of s).makes_status ≡ false → statuses_made (s ∷ T) ≡ statuses_made T
  pub status_stays : (s : Step) (T : RepliedHistory) (k : ℕ) → (effects_of s).makes_status ≡ false → status_at (s ∷ T) k ≡ status_at T k
  pub live_stay : (s : Step) (T : RepliedHistory) → (effects_of s).makes_status ≡ false → (effects_of s).drops_status ≡ false → (effects_of s).ends_documents ≡ false
      → live_statuses (s ∷ T) ≡ live_statuses T
  -- the live statuses of a page: after a step that makes one, drops one, ends documents, or does none of these
  pub page_query : (duration : ℕ) (H : History) (s : Step) (top : ℕ) → IsTrue (is_regular duration H)
      → (effects_of s).drops_status ≡ false → (effects_of s).ends_documents ≡ false
      → page_statuses (s ∷ replied duration H) top ≡ page_statuses (replied duration H) top
      ++ map (λ x. x.number) (filter (λ x. page (replied duration H) x.document == top) (option_to_list (status_by s.event (replied duration H) (length (s ∷ replied duration H)))))
  pub page_drop : (s : Step) (T : RepliedHistory) (k top : ℕ) → s.event ≡ event.DropStatus k → page_statuses (s ∷ T) top ≡ filter (λ n. not (k == n)) (page_statuses T top)
  pub page_ended : (s : Step) (T : RepliedHistory) (top : ℕ) → (effects_of s).drops_status ≡ false → (effects_of s).makes_status ≡ false
      → page_statuses (s ∷ T) top ≡ map (λ x. x.number) (filter (λ x. page T x.document == top) (filter (λ x. is_current (s ∷ T) x.document) (live_statuses T)))
  pub page_stay : (s : Step) (T : RepliedHistory) (top : ℕ) → (effects_of s).makes_status ≡ false → (effects_of s).drops_status ≡ false → (effects_of s).ends_documents ≡ false
      → page_statuses (s ∷ T) top ≡ page_statuses T top
