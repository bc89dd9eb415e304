-- Prompts: which were given, which are settled, and which are pending in each page.
-- Permissions, "request permission to use"; the queue of prompts is this project's own.
use Rattle.std.specs.Prelude.{◌≡◌, ℕ, true, false, if◌then◌else◌, List, [], ◌∷◌, ◌++◌, Option, None, Some, is_none, unwrap_or, option_map, option_and_then, nat_eq}
use Rattle.std.specs.Map.{lookup, remove_entry}
use Rattle.std.specs.Option.{option_or}
use Rattle.pe_arena.specs.declared.handle.DocRef.{DocRef}
use Rattle.pe_store.specs.Pairs.{Pair}
use Rattle.pe_prompts.specs.declared.queue.Prompt.{Prompt}
use Rattle.pe_prompts.specs.declared.fault.AnswerFault.{AnswerFault}
use Rattle.pe_prompts.specs.declared.fault.AnswerFault.TheVariants.{Unknown, Settled, Closed, NotShown, Memory}
use Rattle.pe_prompts.specs.declared.fault.Asked.{Asked}
use Rattle.pe_prompts.specs.declared.fault.Asked.TheVariants.{New, Joined}
use Rattle.pe_prompts.specs.declared.given.Given.{Given}
use Rattle.pe_prompts.specs.Pending.{Pending, prompt_in, is_first, number_for, joined}

-- what is known of each number that was given, and the pending prompts of each page that has some
pub record Queues : Type 0 where
  pub given : List (ℕ × Given)
  pub pages : List (ℕ × Pending)

-- the page of a number that was given, and whether it is settled; nothing for another number
abbrev pub given_of : Queues → ℕ → Option Given
given_of q number = lookup (nat_eq number) q.given

-- the pending prompts of a page
abbrev pub pending : Queues → ℕ → Pending
pending q page = unwrap_or (lookup (nat_eq page) q.pages) []

-- the pending prompt of a page that an equal request joins
abbrev pub pending_of : Queues → ℕ → Pair → Option ℕ
pending_of q page pair = number_for pair (pending q page)

-- the pending prompt of a number
abbrev pub prompt_at : Queues → ℕ → Option Prompt
prompt_at q number = option_and_then (λ g. prompt_in number (pending q g.page)) (given_of q number)

-- why a prompt among these pending ones of its page is not shown
abbrev pub fault_among : ℕ → Pending → Option AnswerFault
fault_among number ps =
    if is_none (prompt_in number ps) then Some Closed
    else if is_first number ps then None
    else Some NotShown

-- why a prompt that was given is not shown
abbrev pub fault_of : Queues → ℕ → Option Given → Option AnswerFault
fault_of q number None = Some Unknown
fault_of q number (Some g) = if g.settled then Some Settled else fault_among number (pending q g.page)

-- why the prompt is not shown: it was not given, it is settled, no request waits for it, or an older one of its page is pending
abbrev pub refusal : Queues → ℕ → Option AnswerFault
refusal q number = fault_of q number (given_of q number)

-- what a request is told: the prompt that it joins, else the one that it makes
abbrev pub asked_of : ℕ → Option ℕ → Asked
asked_of number None = New number
asked_of number (Some k) = Joined k

-- what one function of pages is, but at this page
abbrev pub at_page : ℕ → Pending → (ℕ → Pending) → ℕ → Pending
at_page page ps old p = if nat_eq page p then ps else old p

-- the prompts after a request was told this
abbrev pub HasAsked : Queues → Queues → Prompt → DocRef → Asked → Type 0
HasAsked old new asking asker (New number) =
    ((k : ℕ) → given_of new k ≡ (if nat_eq number k then Some (record { page = asking.page; settled = false }) else given_of old k))
    × ((p : ℕ) → pending new p ≡ at_page asking.page (pending old asking.page ++ (number, asking) ∷ []) (pending old) p)
HasAsked old new asking asker (Joined number) =
    (new.given ≡ old.given)
    × ((p : ℕ) → pending new p ≡ at_page asking.page (joined number asker (pending old asking.page)) (pending old) p)

-- the prompt is settled, and pending in no page; all else is as before
pub record HasSettled (old new : Queues) (number : ℕ) : Type 0 where
  pub settled : option_map (λ g. g.settled) (given_of new number) ≡ Some true
  pub page : option_map (λ g. g.page) (given_of new number) ≡ option_map (λ g. g.page) (given_of old number)
  pub others : (k : ℕ) → nat_eq number k ≡ false → given_of new k ≡ given_of old k
  pub pending : (p : ℕ) → pending new p ≡ remove_entry (nat_eq number) (pending old p)

-- the refusal of an answer: the first cause that holds, else want of memory
abbrev pub IsRefused : Queues → ℕ → AnswerFault → Type 0
IsRefused q number fault = Some fault ≡ option_or (refusal q number) (Some Memory)
