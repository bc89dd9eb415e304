-- Laws of causes: an event is accepted only where none applies.
use Rattle.std.specs.Prelude.{◌≡◌, ℕ, false, nat_le, nat_lt, length, None}
use Rattle.pe_base.specs.declared.limits.TheConstants.{EVENT_LIMIT}
use Rattle.pe_events.specs.declared.event.Event.{Event}
use Rattle.pe_rules.specs.History.{RepliedHistory, clock}
use Rattle.pe_rules.specs.Causes.{cause_of, names_unknown, names_settled, names_closed, names_not_shown, has_bad_url, has_bad_feature, has_bad_call, has_bad_capability, names_other_page, exceeds_pages, exceeds_depth, exceeds_frames, exceeds_statuses, exceeds_pending, exceeds_store}

-- no cause applies to the event at this time
pub record IsFaultless (T : RepliedHistory) (now : ℕ) (e : Event) : Type 0 where
  pub few : nat_le EVENT_LIMIT (length T) ≡ false
  pub in_time : nat_lt now (clock T) ≡ false
  pub known : names_unknown T e ≡ false
  pub unsettled : names_settled T e ≡ false
  pub opened : names_closed T e ≡ false
  pub shown : names_not_shown T e ≡ false
  pub url : has_bad_url e ≡ false
  pub feature : has_bad_feature e ≡ false
  pub call : has_bad_call e ≡ false
  pub capability : has_bad_capability e ≡ false
  pub same_page : names_other_page T e ≡ false
  pub pages : exceeds_pages T e ≡ false
  pub depth : exceeds_depth T e ≡ false
  pub frames : exceeds_frames T e ≡ false
  pub statuses : exceeds_statuses T e ≡ false
  pub pending : exceeds_pending T now e ≡ false
  pub store : exceeds_store T now e ≡ false

-- what holds of causes
pub record CausesLaws : Type 0 where
  pub accepted : (T : RepliedHistory) (now : ℕ) (e : Event) → cause_of T now e ≡ None → IsFaultless T now e
