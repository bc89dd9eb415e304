use Rattle.std.proofs.Common.{◌≡◌, ℕ, drop}
use Rattle.pe_prompts.specs.Queues.{pending}
use Rattle.pe_requests.specs.PromptSteps.{left_by_all}
use Rattle.pe_engine.specs.Leaving.{numbers_of}
use Rattle.pe_engine.proofs.leaving.drop_requests.Given as goal

abbrev pub invariant-loop-row : goal.invariant-loop-row
invariant-loop-row l =
    (l.prompts.given ≡ l.initial.prompts.given) × ((page : ℕ) → left_by_all (numbers_of (drop l.row-index l.gone)) (pending l.prompts page) ≡ left_by_all (numbers_of l.gone) (pending l.initial.prompts page))
