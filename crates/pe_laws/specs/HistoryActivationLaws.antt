-- Laws of history-action activation: the second stamp of a document step by step.
use Rattle.std.specs.Prelude.{◌≡◌, ℕ, ◌<◌, ◌&&◌, [], ◌∷◌, length, None, if◌then◌else◌}
use Rattle.pe_base.specs.declared.input.Stamp.{Stamp}
use Rattle.pe_base.specs.declared.input.Stamp.TheVariants as stamp
use Rattle.pe_base.specs.Activation.{is_history_active}
use Rattle.pe_rules.specs.History.{Step, RepliedHistory}
use Rattle.pe_rules.specs.Making.{making}
use Rattle.pe_rules.specs.Embedders.{page}
use Rattle.pe_rules.specs.Current.{is_current}
use Rattle.pe_rules.specs.Activation.{stamp_of}
use Rattle.pe_rules.specs.HistoryActivation.{consumes_history, second_stamp_of, has_history_activation}

-- the second stamp of a document after a step, by the one before: its stamp, where the step consumes for its page and it is current
abbrev pub second_stamp_after : Step → RepliedHistory → ℕ → Stamp → Stamp
second_stamp_after s T d before = if consumes_history s T (page T d) && is_current T d then stamp_of T d else before

-- what holds of history-action activation
pub record HistoryActivationLaws : Type 0 where
  -- no document has a second stamp at first
  pub second_stamp_start : (d : ℕ) → second_stamp_of [] d ≡ stamp.Never
  -- the second stamp of any number after a step, by the one before
  pub second_stamp_step : (s : Step) (T : RepliedHistory) (d : ℕ) → second_stamp_of (s ∷ T) d ≡ second_stamp_after s T d (second_stamp_of T d)
  -- a document that the step makes has none, since it was not current before
  pub second_stamp_newest : (s : Step) (T : RepliedHistory) → second_stamp_of (s ∷ T) (length (s ∷ T)) ≡ stamp.Never
  -- nor has a number beyond the history, or one that is not of a document
  pub second_stamp_beyond : (T : RepliedHistory) (d : ℕ) → length T < d → second_stamp_of T d ≡ stamp.Never
  pub second_stamp_unmade : (T : RepliedHistory) (d : ℕ) → making T d ≡ None → second_stamp_of T d ≡ stamp.Never
  -- history-action activation is what the two stamps say
  pub active_by_stamps : (T : RepliedHistory) (d : ℕ) → has_history_activation T d ≡ is_history_active (stamp_of T d) (second_stamp_of T d)
