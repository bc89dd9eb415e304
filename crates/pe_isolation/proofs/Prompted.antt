-- In histories that are alike the same prompts are pending.
use Rattle.std.proofs.Common.{◌≡◌, ℕ, false, not, ◌&&◌, ◌==◌, length, filter, is_some, unwrap_or, option_map, option_and_then, option_to_list, refl, ap}
use Rattle.pe_store.specs.Pairs.{Pair, is_same_pair}
use Rattle.pe_events.specs.declared.event.Event.{Event}
use Rattle.pe_events.specs.declared.event.Event.TheVariants as event
use Rattle.pe_rules.specs.History.{RepliedHistory, some_if}
use Rattle.pe_rules.specs.Numbering.{makes_prompt}
use Rattle.pe_rules.specs.Prompts.{prompt_replied, requesting_document, requesting_document_of, requests, answers, is_settled, waiting, is_pending, pending, first_of, shown_prompt, pending_prompt_of}
use Rattle.pe_isolation.proofs.Alike.{Alike, newest-alike, all-alike}
use Rattle.pe_isolation.proofs.Quiet.{no-request, no-answer, then-none}
use Rattle.pe_isolation.proofs.Made.{numbers-alike}
use Rattle.pe_isolation.proofs.Shown.{current-alike, document-in-alike}
use Rattle.pe_isolation.proofs.Stored.{prompt-pair-alike, prompt-page-alike}

requesting-alike : {T U : RepliedHistory} → Alike T U → (e : Event) → requesting_document e T ≡ requesting_document e U
requesting-alike r (event.Request frame feature) = document-in-alike r frame
requesting-alike r e = refl

requests-alike : {T U : RepliedHistory} → Alike T U → (k : ℕ) → requests T k ≡ requests U k
unfolding requests
requests-alike r k =
    all-alike (λ s B. option_to_list (requesting_document_of k s B))
    (λ s B C q i. option_to_list (option_and_then (λ p. option_and_then (λ d. some_if (p == k) d) (requesting-alike q s.event i)) (prompt_replied s.item)))
    (λ s B h. ap option_to_list (then-none (λ p. option_and_then (λ d. some_if (p == k) d) (requesting_document s.event B)) (prompt_replied s.item) (λ p. ap (option_and_then (λ d. some_if (p == k) d)) (no-request s.event B h.event)))) r

pub settled-alike : {T U : RepliedHistory} → Alike T U → (k : ℕ) → is_settled T k ≡ is_settled U k
unfolding is_settled
settled-alike r k = ap is_some (newest-alike (λ s B. some_if (answers s.event k) k) (λ s B C q. refl) (λ s B h. ap (λ b. some_if b k) (no-answer s.event k h.event)) r)

pub waiting-alike : {T U : RepliedHistory} → Alike T U → (k : ℕ) → waiting T k ≡ waiting U k
unfolding waiting
waiting-alike r k = λ i. filter (λ d. current-alike r d i) (requests-alike r k i)

is-pending-alike : {T U : RepliedHistory} → Alike T U → (k : ℕ) → is_pending T k ≡ is_pending U k
unfolding is_pending
is-pending-alike r k = λ i. not (settled-alike r k i) && not (length (waiting-alike r k i) == 0)

pub pending-alike : {T U : RepliedHistory} → Alike T U → (top : ℕ) → pending T top ≡ pending U top
unfolding pending
pending-alike r top = λ i. filter (λ k. is-pending-alike r k i && unwrap_or (option_map (λ p. p == top) (prompt-page-alike r k i)) false) (numbers-alike (λ s. makes_prompt s.item) (λ s h. h.item) r i)

pub shown-prompt-alike : {T U : RepliedHistory} → Alike T U → (top : ℕ) → shown_prompt T top ≡ shown_prompt U top
unfolding shown_prompt
shown-prompt-alike r top = λ i. first_of (pending-alike r top i)

pub pending-of-alike : {T U : RepliedHistory} → Alike T U → (top : ℕ) (pair : Pair) → pending_prompt_of T top pair ≡ pending_prompt_of U top pair
unfolding pending_prompt_of
pending-of-alike r top pair = λ i. first_of (filter (λ k. unwrap_or (option_map (λ q. is_same_pair q pair) (prompt-pair-alike r k i)) false) (pending-alike r top i))
