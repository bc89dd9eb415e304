-- How the prompts are kept.
use Rattle.std.specs.Prelude.{◌≡◌, ℕ, ◌≤◌, true, false, List, [], length, Some, unwrap_or, nat_eq}
use Rattle.std.specs.Global.{Vec}
use Rattle.indexmap.specs.IndexMap.{IndexMap, get}
use Rattle.pe_prompts.specs.declared.queue.Prompt.{Prompt}
use Rattle.pe_prompts.specs.declared.given.Given.{Given}
use Rattle.pe_prompts.specs.Lists.{listed, IsIn, Each}
use Rattle.pe_prompts.specs.Pending.{Pending}

-- the pending prompts of a page
abbrev pub queue_of : {S : Type 0} → IndexMap ℕ Pending S → ℕ → Pending
queue_of pages page = unwrap_or (get nat_eq pages page) []

-- what is kept of a prompt, once it is settled
abbrev pub settled : Given → Given
settled g = record g { settled = true }

-- a pending prompt of the page: its number was given and is not settled, some request waits for it, and it is listed for the document of each request
pub record IsKept {S : Type 0} (given : IndexMap ℕ Given S) (places : ℕ → List (ℕ × ℕ)) (page : ℕ) (e : ℕ × Prompt) : Type 0 where
  pub open_yet : get nat_eq given e.0 ≡ Some (record { page = page; settled = false })
  pub own_page : e.1.page ≡ page
  pub awaited : 1 ≤ length e.1.waiting
  pub in_lists : Each (λ r. IsIn (places r.doc) (page, e.0)) e.1.waiting

-- each pending prompt is kept
abbrev pub AreKept : {S R : Type 0} → IndexMap ℕ Given S → IndexMap ℕ Pending R → (ℕ → List (ℕ × ℕ)) → Type 0
AreKept given pages places = (page : ℕ) → Each (IsKept given places page) (queue_of pages page)

-- each pending prompt is kept, and listed for the documents of its requests
abbrev pub IsPrompts : {S R Q : Type 0} → IndexMap ℕ Given S → IndexMap ℕ Pending R → IndexMap ℕ (Vec (ℕ × ℕ)) Q → Type 0
IsPrompts given pages documents = AreKept given pages (listed documents)
