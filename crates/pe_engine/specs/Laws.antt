-- What the engine's proofs rest on: the laws of the definitions, and how a store, statuses, prompts and messages go on that stand for steps.
-- This project's own.
use Rattle.pe_laws.specs.HistoryLaws.{HistoryLaws}
use Rattle.pe_changes.specs.StoreSteps.{StoreSteps}
use Rattle.pe_changes.specs.StatusSteps.{StatusSteps}
use Rattle.pe_requests.specs.PromptSteps.{PromptSteps}
use Rattle.pe_messages.specs.MessageSteps.{MessageSteps}

-- the laws of histories, and of what stands for them
pub record EngineLaws : Type 0 where
  pub history : HistoryLaws
  pub stores : StoreSteps
  pub statuses : StatusSteps
  pub prompts : PromptSteps
  pub messages : MessageSteps
