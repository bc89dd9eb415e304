-- Prompts: their requests, which are settled, which are pending, and the one that is shown.
-- Permissions, "request permission to use"; the queue of prompts is this project's own.
-- Requests of one pair in one page join one prompt.
use Rattle.std.specs.Prelude.{ℕ, Bool, false, not, ◌&&◌, ◌==◌, List, [], ◌∷◌, length, filter, Option, Some, None, is_some, unwrap_or, option_map, option_and_then, option_to_list}
use Rattle.pe_events.specs.declared.answer.Answer.TheVariants as answer
use Rattle.pe_events.specs.declared.event.Event.{Event}
use Rattle.pe_events.specs.declared.event.Event.TheVariants as event
use Rattle.pe_rules.specs.History.{StepAnswer, Replied, Step, RepliedHistory, some_if, newest_answer, all_answers}
use Rattle.pe_rules.specs.Numbering.{numbers_made, makes_prompt}
use Rattle.pe_rules.specs.Current.{is_current, document_in}
use Rattle.pe_store.specs.Pairs.{Pair, is_same_pair}
use Rattle.pe_rules.specs.Settings.{prompt_pair, prompt_page}

-- the prompt that a request was told, made or joined
abbrev pub prompt_replied : StepAnswer → Option ℕ
prompt_replied (Replied (answer.PromptMade prompt)) = Some prompt
prompt_replied (Replied (answer.PromptJoined prompt)) = Some prompt
prompt_replied item = None

-- the document of a request
abbrev pub requesting_document : Event → RepliedHistory → Option ℕ
requesting_document (event.Request frame feature) B = document_in B frame
requesting_document e B = None

-- the document of a request of prompt k
abbrev pub requesting_document_of : ℕ → Step → RepliedHistory → Option ℕ
requesting_document_of k s B = option_and_then (λ p. option_and_then (λ d. some_if (p == k) d) (requesting_document s.event B)) (prompt_replied s.item)

-- the requests of a prompt, in order, each named by its document, which stands once for each of its requests
unfoldable pub requests : RepliedHistory → ℕ → List ℕ
requests T k = all_answers (λ s B. option_to_list (requesting_document_of k s B)) T

-- the event answers the prompt
abbrev pub answers : Event → ℕ → Bool
answers (event.Answered prompt out given) k = prompt == k
answers e k = false

-- the prompt is settled: an answer names it
unfoldable pub is_settled : RepliedHistory → ℕ → Bool
is_settled T k = is_some (newest_answer (λ s B. some_if (answers s.event k) k) T)

-- the requests that wait for the prompt: those whose documents are current
unfoldable pub waiting : RepliedHistory → ℕ → List ℕ
waiting T k = filter (is_current T) (requests T k)

-- the prompt is pending: it is not settled, and some request waits for it
unfoldable pub is_pending : RepliedHistory → ℕ → Bool
is_pending T k = not (is_settled T k) && not (length (waiting T k) == 0)

-- the prompt is one of the page
abbrev pub is_prompt_of : RepliedHistory → ℕ → ℕ → Bool
is_prompt_of T top k = unwrap_or (option_map (λ p. p == top) (prompt_page T k)) false

-- the pending prompts of a page, by number
unfoldable pub pending : RepliedHistory → ℕ → List ℕ
pending T top = filter (λ k. is_pending T k && is_prompt_of T top k) (numbers_made (λ s. makes_prompt s.item) T)

-- the first of a list
abbrev pub first_of : {A : Type 0} → List A → Option A
first_of [] = None
first_of (x ∷ xs) = Some x

-- the shown prompt of a page: its pending prompt of least number
unfoldable pub shown_prompt : RepliedHistory → ℕ → Option ℕ
shown_prompt T top = first_of (pending T top)

-- the prompt asks for this pair
abbrev pub is_prompt_for : RepliedHistory → Pair → ℕ → Bool
is_prompt_for T pair k = unwrap_or (option_map (λ q. is_same_pair q pair) (prompt_pair T k)) false

-- the pending prompt of the page that a request of this pair joins
unfoldable pub pending_prompt_of : RepliedHistory → ℕ → Pair → Option ℕ
pending_prompt_of T top pair = first_of (filter (is_prompt_for T pair) (pending T top))
