-- That pages are isolated: what a page is told does not hang on the inputs, uses, posts, deliveries and history actions of other pages.
-- It is this project's own.
-- The muted history leaves a tick at the time of each of them, so time passes as before.
use Rattle.std.specs.Prelude.{◌≡◌, ℕ, false, IsTrue, ◌∷◌}
use Rattle.pe_events.specs.Timed.{Timed}
use Rattle.pe_events.specs.declared.event.Event.{Event}
use Rattle.pe_rules.specs.History.{RepliedHistory, History}
use Rattle.pe_rules.specs.Causes.{cause_of}
use Rattle.pe_rules.specs.Replies.{answer_of, step_answer, replied, reply_in, accepts, is_regular}
use Rattle.pe_rules.specs.Changes.{changes_before, changes_after}
use Rattle.pe_rules.specs.Muting.{is_foreign, muted}
use Rattle.pe_isolation.specs.PageEvents.{is_of_page, page_answers, IsUnmuted}

-- what is told of a history with the other pages muted
abbrev pub replied_muted : ℕ → ℕ → History → RepliedHistory
replied_muted duration top H = replied duration (muted duration top H)

-- that pages are isolated, for every duration, page and regular history
pub record IsolationLaws : Type 0 where
  -- with the other pages muted each event is still accepted
  pub regular : (duration top : ℕ) (H : History) → IsTrue (is_regular duration H) → IsTrue (is_regular duration (muted duration top H))
  -- an event of the page gets the same reply
  pub reply : (duration top now : ℕ) (H : History) (e : Event) → IsTrue (is_regular duration H) → IsTrue (is_of_page (replied duration H) top e)
      → reply_in duration (replied duration H) now e ≡ reply_in duration (replied_muted duration top H) now e
  -- it has the same cause to be refused, and the same answer where there is none
  pub cause : (duration top now : ℕ) (H : History) (e : Event) → IsTrue (is_regular duration H) → IsTrue (is_of_page (replied duration H) top e)
      → cause_of (replied duration H) now e ≡ cause_of (replied_muted duration top H) now e
  pub answer : (duration top now : ℕ) (H : History) (e : Event) → IsTrue (is_regular duration H) → IsTrue (is_of_page (replied duration H) top e)
      → answer_of duration (replied duration H) now e ≡ answer_of duration (replied_muted duration top H) now e
  -- so does every other event that is not muted, but one that asks for the user activation of another page
  pub unmuted_cause : (duration top now : ℕ) (H : History) (e : Event) → IsTrue (is_regular duration H) → is_foreign (replied duration H) top e ≡ false
      → cause_of (replied duration H) now e ≡ cause_of (replied_muted duration top H) now e
  pub unmuted_answer : (duration top now : ℕ) (H : History) (e : Event) → IsTrue (is_regular duration H) → IsUnmuted (replied duration H) top e
      → answer_of duration (replied duration H) now e ≡ answer_of duration (replied_muted duration top H) now e
  -- what is told of it is the same, so that of a use also how it was met
  pub unmuted_told : (duration top now : ℕ) (H : History) (e : Event) → IsTrue (is_regular duration H) → IsUnmuted (replied duration H) top e
      → step_answer duration (replied duration H) now e ≡ step_answer duration (replied_muted duration top H) now e
  -- so of the whole history the same was told of the events of the page
  pub told : (duration top : ℕ) (H : History) → IsTrue (is_regular duration H) → page_answers (replied duration H) top ≡ page_answers (replied_muted duration top H) top
  -- the time up to the event brings the same changes, of the statuses of all pages
  pub before : (duration top now : ℕ) (H : History) → IsTrue (is_regular duration H) → changes_before (replied duration H) now ≡ changes_before (replied_muted duration top H) now
  -- and an accepted event brings the same ones by itself; where it is muted, its tick brings none, as it did
  pub after : (duration top : ℕ) (H : History) (e : Timed) → IsTrue (is_regular duration H) → IsTrue (accepts duration H e)
      → changes_after (replied duration H) (replied duration (e ∷ H)) e.time ≡ changes_after (replied_muted duration top H) (replied_muted duration top (e ∷ H)) e.time
