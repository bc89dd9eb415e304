-- What is told of a history stays, however it goes on.
use Rattle.std.proofs.Common.{◌≡◌, ℕ, suc, ◌+◌, List, [], ◌∷◌, ◌++◌, length, refl, sym, ◌∙◌, ap, arith, append_assoc, append-nil, length-append}
use Rattle.pe_rules.specs.History.{StepAnswer, Step, RepliedHistory, History, all_answers}
use Rattle.pe_rules.specs.Replies.{step_answer, replied}
use Rattle.pe_laws.specs.Continued.{IsContinued, IsAnsweredOn, answers_replied}

pub told-continued : (duration : ℕ) (newer H : History) → IsContinued (replied duration (newer ++ H)) (replied duration H) (length newer)
unfolding replied
told-continued duration [] H = ([], refl, refl)
told-continued duration (e ∷ newer) H =
    let older = told-continued duration newer H in
    let T : RepliedHistory = replied duration (newer ++ H) in
    let s : Step = record { time = e.time; event = e.event; item = step_answer duration T e.time e.event } in
    (s ∷ older.0, ap (λ (xs : RepliedHistory). s ∷ xs) older.1, ap suc older.2)

answers-append : (newer T : RepliedHistory) → (added : List StepAnswer) × (answers_replied (newer ++ T) ≡ answers_replied T ++ added) × (length added ≡ length newer)
unfolding answers_replied all_answers
answers-append [] T = ([], sym (append-nil (answers_replied T)), refl)
answers-append (s ∷ newer) T =
    let older = answers-append newer T in (
      older.0 ++ s.item ∷ [],
      ap (λ xs. xs ++ s.item ∷ []) older.1 ∙ append_assoc (answers_replied T) older.0 (s.item ∷ []),
      length-append older.0 (s.item ∷ []) ∙ more (length older.0) (length newer) older.2,
    )
  where
    more : (a b : ℕ) → a ≡ b → a + 1 ≡ suc b
    more a b h = omega arith

pub answers-continued : (duration : ℕ) (newer H : History) → IsAnsweredOn (replied duration (newer ++ H)) (replied duration H) (length newer)
answers-continued duration newer H =
    let longer = told-continued duration newer H in
    let added = answers-append longer.0 (replied duration H) in
    (added.0, ap answers_replied longer.1 ∙ added.1, added.2 ∙ longer.2)
