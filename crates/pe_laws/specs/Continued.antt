-- A history that goes on.
-- That nothing is told anew is this project's own.
use Rattle.std.specs.Prelude.{◌≡◌, ℕ, List, [], ◌∷◌, ◌++◌, length}
use Rattle.pe_rules.specs.History.{StepAnswer, RepliedHistory, all_answers}

-- these steps end, newest first, with those earlier ones, and so many are new
abbrev pub IsContinued : RepliedHistory → RepliedHistory → ℕ → Type 0
IsContinued later earlier count = (newer : RepliedHistory) × (later ≡ newer ++ earlier) × (length newer ≡ count)

-- what was told of the steps, oldest first
unfoldable pub answers_replied : RepliedHistory → List StepAnswer
answers_replied T = all_answers (λ s B. s.item ∷ []) T

-- what was told of these steps begins, oldest first, with what was told of those earlier ones, and so many answers are new
abbrev pub IsAnsweredOn : RepliedHistory → RepliedHistory → ℕ → Type 0
IsAnsweredOn later earlier count = (added : List StepAnswer) × (answers_replied later ≡ answers_replied earlier ++ added) × (length added ≡ count)
