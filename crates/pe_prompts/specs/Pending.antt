-- The pending prompts of a page, oldest first: the queue of prompts is this project's own.
use Rattle.std.specs.Prelude.{ℕ, Bool, if◌then◌else◌, List, [], ◌∷◌, ◌++◌, Option, false, unwrap_or, option_map, find, slice_get, nat_eq}
use Rattle.std.specs.Map.{lookup}
use Rattle.pe_arena.specs.declared.handle.DocRef.{DocRef}
use Rattle.pe_store.specs.Pairs.{Pair, is_same_pair}
use Rattle.pe_prompts.specs.declared.queue.Prompt.{Prompt}
use Rattle.pe_prompts.specs.Requests.{without}

-- the pending prompts of a page by their numbers, in order of number
abbrev pub Pending : Type 0
Pending = List (ℕ × Prompt)

-- the pair that a prompt asks for
abbrev pub pair_of : Prompt → Pair
pair_of p = (p.feature, p.key)

-- the prompt of a number
abbrev pub prompt_in : ℕ → Pending → Option Prompt
prompt_in number ps = lookup (nat_eq number) ps

-- the oldest prompt's number
abbrev pub first_number : Pending → Option ℕ
first_number ps = option_map (λ p. p.0) (slice_get ps 0)

-- the number is that of the oldest prompt
abbrev pub is_first : ℕ → Pending → Bool
is_first number ps = unwrap_or (option_map (nat_eq number) (first_number ps)) false

-- the number of the first prompt that asks for the pair
abbrev pub number_for : Pair → Pending → Option ℕ
number_for pair ps = option_map (λ p. p.0) (find (λ p. is_same_pair (pair_of p.1) pair) ps)

-- the prompt with one more request
abbrev pub with_request : DocRef → Prompt → Prompt
with_request asker p = record p { waiting = p.waiting ++ asker ∷ [] }

-- the prompts, once a request joined the one of this number
abbrev pub joined : ℕ → DocRef → Pending → Pending
joined number asker [] = []
joined number asker (p ∷ ps) = if nat_eq number p.0 then (p.0, with_request asker p.1) ∷ ps else p ∷ joined number asker ps

-- the prompt, where some request waits for it
abbrev pub if_awaited : ℕ → Prompt → List DocRef → Pending → Pending
if_awaited number p [] ps = ps
if_awaited number p (r ∷ rs) ps = (number, record p { waiting = r ∷ rs }) ∷ ps

-- the prompts, once the requests of a document for this number are dropped
abbrev pub left : ℕ → ℕ → Pending → Pending
left number doc [] = []
left number doc (p ∷ ps) = let rest = left number doc ps in if nat_eq number p.0 then if_awaited p.0 p.1 (without doc p.1.waiting) rest else p ∷ rest

-- the prompts of a page, once the requests of a document for this number in that page are dropped
abbrev pub left_in : ℕ → ℕ → ℕ → ℕ → Pending → Pending
left_in page number doc p ps = if nat_eq page p then left number doc ps else ps

-- the prompts of a page, once the requests of a document are dropped at each of these places
abbrev pub all_left : ℕ → List (ℕ × ℕ) → ℕ → Pending → Pending
all_left doc [] p ps = ps
all_left doc (place ∷ places) p ps = all_left doc places p (left_in place.0 place.1 doc p ps)

-- the prompts, once all requests of a document are dropped: one for which no request waits is gone
abbrev pub left_by : ℕ → Pending → Pending
left_by doc [] = []
left_by doc (p ∷ ps) = if_awaited p.0 p.1 (without doc p.1.waiting) (left_by doc ps)
