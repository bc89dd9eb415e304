-- For what the statuses stand after a step.
-- Permissions, the interface PermissionStatus.
use Rattle.std.specs.Prelude.{◌≡◌, ℕ, ◌+◌, ◌==◌, Bool, false, IsTrue, [], ◌∷◌, ◌++◌, length, filter, Some, is_some}
use Rattle.std.specs.List.{list_any}
use Rattle.pe_events.specs.declared.event.Event.TheVariants as event
use Rattle.pe_status.specs.declared.registered.Registered.{Registered}
use Rattle.pe_status.specs.Registry.{Registry, pair_of, status_of, without, count_of_page, AreBelow}
use Rattle.pe_rules.specs.History.{Step, RepliedHistory, History}
use Rattle.pe_rules.specs.Embedders.{page}
use Rattle.pe_rules.specs.Current.{is_current}
use Rattle.pe_rules.specs.Settings.{pair_for}
use Rattle.pe_rules.specs.Statuses.{status_by, live_statuses}
use Rattle.pe_rules.specs.Causes.{page_statuses}
use Rattle.pe_rules.specs.Replies.{replied, is_regular}
use Rattle.pe_laws.specs.EffectsLaws.{effects_of}
use Rattle.pe_laws.specs.StatusesLaws.{Each}
use Rattle.pe_changes.specs.Parts.{status_of_row, IsStatuses}

-- what holds of statuses that stand for steps
pub record StatusSteps : Type 0 where
  -- no statuses stand for no steps
  pub start : IsStatuses [] (record { live = []; given = [] })
  -- a page has as many live ones as the definitions say
  pub counted : (T : RepliedHistory) (statuses : Registry) (top : ℕ) → IsStatuses T statuses → count_of_page top statuses.live ≡ length (page_statuses T top)
  -- a number is that of a live one where a live status has it
  pub there : (T : RepliedHistory) (statuses : Registry) (k : ℕ) → IsStatuses T statuses → is_some (status_of statuses.live k) ≡ list_any (λ x. x.number == k) (live_statuses T)
  -- the numbers that were given are below the next position
  pub below : (T : RepliedHistory) (statuses : Registry) → IsStatuses T statuses → AreBelow (length T + 1) statuses.given
  -- a step that makes no status, drops none and ends no document leaves them
  pub quiet : (s : Step) (T : RepliedHistory) (statuses : Registry) → (effects_of s).makes_status ≡ false → (effects_of s).drops_status ≡ false → (effects_of s).ends_documents ≡ false
      → IsStatuses T statuses → IsStatuses (s ∷ T) statuses
  -- after a query, which makes a status of a document that was there
  pub made : (duration : ℕ) (H : History) (s : Step) (r : Registered) (old new : Registry) → IsTrue (is_regular duration H)
      → status_by s.event (replied duration H) (length (s ∷ replied duration H)) ≡ Some (status_of_row r)
      → pair_for (replied duration H) r.doc.doc r.feature ≡ Some (pair_of r) → page (replied duration H) r.doc.doc ≡ r.page
      → IsStatuses (replied duration H) old → new.live ≡ old.live ++ r ∷ [] → new.given ≡ old.given ++ r.no ∷ [] → IsStatuses (s ∷ replied duration H) new
  -- after a drop
  pub dropped : (s : Step) (T : RepliedHistory) (k : ℕ) (old new : Registry) → s.event ≡ event.DropStatus k → IsStatuses T old → new.live ≡ without k old.live → new.given ≡ old.given → IsStatuses (s ∷ T) new
  -- after the end of documents: those are left whose document is still current
  pub ended : (s : Step) (T : RepliedHistory) (left : Registered → Bool) (old new : Registry) → (effects_of s).makes_status ≡ false → (effects_of s).drops_status ≡ false → IsStatuses T old
      → Each (λ r. left r ≡ is_current (s ∷ T) r.doc.doc) old.live → new.live ≡ filter left old.live → new.given ≡ old.given → IsStatuses (s ∷ T) new
