-- What prompts stand for.
-- This project's own: a part of the one relation between an engine and the list of accepted events.
-- Permissions, "request permission to use".
use Rattle.std.specs.Prelude.{◌≡◌, ℕ, Bool, map, Option, Some, None, option_map, if◌then◌else◌}
use Rattle.pe_prompts.specs.declared.given.Given.{Given}
use Rattle.pe_prompts.specs.declared.queue.Prompt.{Prompt}
use Rattle.pe_prompts.specs.Pending.{pair_of}
use Rattle.pe_prompts.specs.Queues as queue
use Rattle.pe_prompts.specs.Queues.{Queues}
use Rattle.pe_rules.specs.History.{RepliedHistory}
use Rattle.pe_rules.specs.Numbering.{is_prompt}
use Rattle.pe_rules.specs.Settings.{prompt_pair, prompt_page}
use Rattle.pe_rules.specs.Prompts as prompt
use Rattle.pe_laws.specs.StatusesLaws.{Each}

-- the page of the prompt of a number; a number of no prompt has none
unfoldable pub page_of_prompt : RepliedHistory → ℕ → Option ℕ
page_of_prompt T k = if is_prompt T k then prompt_page T k else None

-- what is known of a prompt of the page
abbrev pub given_by : Bool → ℕ → Given
given_by settled page = record { page = page; settled = settled }

-- a pending prompt under its number: it has the page and the pair of the request that made it, and these documents wait for it
pub record IsPendingPrompt (T : RepliedHistory) (k : ℕ) (p : Prompt) : Type 0 where
  pub page : prompt_page T k ≡ Some p.page
  pub pair : prompt_pair T k ≡ Some (pair_of p)
  pub documents : map (λ r. r.doc) p.waiting ≡ prompt.waiting T k

-- the prompts stand for these steps: the numbers are those of prompts, each with its page and whether it is settled, and the pending ones of each page are those of the history, in order
pub record IsPrompts (T : RepliedHistory) (queues : Queues) : Type 0 where
  pub given : (k : ℕ) → queue.given_of queues k ≡ option_map (given_by (prompt.is_settled T k)) (page_of_prompt T k)
  pub pending : (top : ℕ) → map (λ e. e.0) (queue.pending queues top) ≡ prompt.pending T top
  pub kept : (top : ℕ) → Each (λ e. IsPendingPrompt T e.0 e.1) (queue.pending queues top)
