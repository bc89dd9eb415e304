-- The history: the accepted events, newest first, each beside what was told of it.
-- It is this project's own: the one thing from which everything else is worked out.
-- The event at position k stands on k - 1 others, so the history before it is a tail of the list.
use Rattle.std.specs.Prelude.{ℕ, Bool, true, false, ◌==◌, nat_le, List, [], ◌∷◌, ◌++◌, length, Option, Some, None, option_to_list, if◌then◌else◌}
use Rattle.std.specs.Option.{option_or}
use Rattle.pe_events.specs.declared.answer.Answer.{Answer}
use Rattle.pe_events.specs.declared.event.Event.{Event}
use Rattle.pe_events.specs.declared.reason.Verdict.{Verdict}
use Rattle.pe_events.specs.Timed.{Timed}

-- what was told at a position: the verdict of a use, the answer of any other event
pub data StepAnswer : Type 0 where
  Replied : Answer → StepAnswer
  Judged : Verdict → StepAnswer

-- an accepted event with its time, and what was told
pub record Step : Type 0 where
  pub time : ℕ
  pub event : Event
  pub item : StepAnswer

-- the accepted events, newest first
abbrev pub History : Type 0
History = List Timed

-- the accepted events, newest first, each beside what was told
abbrev pub RepliedHistory : Type 0
RepliedHistory = List Step

-- a value, where a test passes
abbrev pub some_if : {A : Type 0} → Bool → A → Option A
some_if true x = Some x
some_if false x = None

-- the time of the last event, or 0
unfoldable pub clock : RepliedHistory → ℕ
clock [] = 0
clock (s ∷ T) = s.time

-- the newest answer of a question that is put to each step and the steps before it
unfoldable pub newest_answer : {A : Type 0} → (Step → RepliedHistory → Option A) → RepliedHistory → Option A
newest_answer ask [] = None
newest_answer ask (s ∷ T) = let earlier = newest_answer ask T in let here = ask s T in option_or here earlier

-- the answers of a question that is put to each step and the steps before it, oldest first
unfoldable pub all_answers : {A : Type 0} → (Step → RepliedHistory → List A) → RepliedHistory → List A
all_answers ask [] = []
all_answers ask (s ∷ T) = all_answers ask T ++ ask s T

-- the answers of a question that is put to each step and the steps before it, newest first
unfoldable pub answers_newest_first : {A : Type 0} → (Step → RepliedHistory → Option A) → RepliedHistory → List A
answers_newest_first ask [] = []
answers_newest_first ask (s ∷ T) = let earlier = answers_newest_first ask T in let here = ask s T in option_to_list here ++ earlier

-- the step at a position, with the steps before it
unfoldable pub step_at : RepliedHistory → ℕ → Option (Step × RepliedHistory)
step_at T k = newest_answer (λ s B. some_if (k == length (s ∷ B)) (s, B)) T

-- the steps after a position
unfoldable pub steps_since : RepliedHistory → ℕ → RepliedHistory
steps_since [] k = []
steps_since (s ∷ T) k = let later = s ∷ steps_since T k in if nat_le (length (s ∷ T)) k then [] else later
