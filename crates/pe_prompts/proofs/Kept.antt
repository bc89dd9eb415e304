-- What requests, answers and documents that go leave of the prompts that are kept.
use Rattle.std.proofs.Common.{◌≡◌, ℕ, ◌<◌, ◌≤◌, Bool, true, false, cond, not, List, [], ◌∷◌, ◌++◌, length, length-append, Option, None, Some, IsSome, nat_eq, refl, sym, ap, subst, ◌∙◌, true≢false, arith}
use Rattle.std.specs.Map.{remove_entry}
use Rattle.std.proofs.lemmas.Bool.Decides.{nat_tests}
use Rattle.indexmap.specs.IndexMap.{IndexMap, get}
use Rattle.pe_arena.specs.declared.handle.DocRef.{DocRef}
use Rattle.pe_prompts.specs.declared.given.Given.{Given}
use Rattle.pe_prompts.specs.declared.queue.Prompt.{Prompt}
use Rattle.pe_prompts.specs.Lists.{IsIn, Each}
use Rattle.pe_prompts.specs.Requests.{is_of}
use Rattle.pe_prompts.specs.Pending.{Pending, prompt_in, with_request, joined, left_by}
use Rattle.pe_prompts.specs.Queues.{at_page}
use Rattle.pe_prompts.specs.Kept.{IsKept}
use Rattle.pe_prompts.proofs.Items.{same_number, Each-push, Each-then, Each-passing}
use Rattle.pe_prompts.proofs.Pending.{IsLeft, Each-left_by, remove_entry-absent}

module _ {S : Type 0} (given : IndexMap ℕ Given S) (places : ℕ → List (ℕ × ℕ)) (page : ℕ) where
  -- a prompt that is found is kept
  pub kept_of : (number : ℕ) (ps : Pending) (p : Prompt) → Each (IsKept given places page) ps → prompt_in number ps ≡ Some p → IsKept given places page (number, p)
  kept_of number [] p h found = absurd cc
  kept_of number (e ∷ ps) p h found =
      (elim (nat_eq number e.0) as (λ b. nat_eq number e.0 ≡ b → cond b (Some e.1) (prompt_in number ps) ≡ Some p → IsKept given places page (number, p)) [
        | true ↦ λ t q. let prompt : e.1 ≡ p = cc in subst (IsKept given places page) (λ j. (sym (same_number number e.0 t) j, prompt j)) h.0
        | false ↦ λ t q. kept_of number ps p h.1 q
      ]) refl found

  module _ {R : Type 0} (later : IndexMap ℕ Given R) (more : ℕ → List (ℕ × ℕ)) (stay : (doc : ℕ) (x : ℕ × ℕ) → IsIn (places doc) x → IsIn (more doc) x) where
    -- a kept prompt is kept where its number is known as before, and no place is unlisted
    pub kept_then : (e : ℕ × Prompt) → get nat_eq later e.0 ≡ get nat_eq given e.0 → IsKept given places page e → IsKept later more page e
    kept_then e same h = record {
      open_yet = same ∙ h.open_yet;
      own_page = h.own_page;
      awaited = h.awaited;
      in_lists = Each-then (λ (r : DocRef). IsIn (places r.doc) (page, e.0)) (λ (r : DocRef). IsIn (more r.doc) (page, e.0)) (λ r i. stay r.doc (page, e.0) i) e.1.waiting h.in_lists;
    }

    -- the others are kept where one number is known anew
    pub Each-kept_then : (number : ℕ) → ((k : ℕ) → nat_eq number k ≡ false → get nat_eq later k ≡ get nat_eq given k) → (ps : Pending) → prompt_in number ps ≡ None → Each (IsKept given places page) ps → Each (IsKept later more page) ps
    Each-kept_then number others [] none h = tt
    Each-kept_then number others (e ∷ ps) none h =
        (elim (nat_eq number e.0) as (λ b. nat_eq number e.0 ≡ b → cond b (Some e.1) (prompt_in number ps) ≡ None → Each (IsKept later more page) (e ∷ ps))
        [ true ↦ λ t q. absurd cc | false ↦ λ t q. (kept_then e (others e.0 t) h.0, Each-kept_then number others ps q h.1) ]) refl none

    -- a request that joins is listed
    pub Each-joined : (number : ℕ) (asker : DocRef) → IsIn (more asker.doc) (page, number) → ((k : ℕ) → get nat_eq later k ≡ get nat_eq given k) → (ps : Pending) → Each (IsKept given places page) ps → Each (IsKept later more page) (joined number asker ps)
    Each-joined number asker here same [] h = tt
    Each-joined number asker here same (e ∷ ps) h =
        let first : IsKept later more page e = kept_then e (same e.0) h.0 in
        let all : Each (IsKept later more page) ps = Each-then (IsKept given places page) (IsKept later more page) (λ x k. kept_then x (same x.0) k) ps h.1 in
        let rest = Each-joined number asker here same ps h.1 in
        (elim (nat_eq number e.0) as (λ b. nat_eq number e.0 ≡ b → Each (IsKept later more page) (cond b ((e.0, with_request asker e.1) ∷ ps) (e ∷ joined number asker ps))) [
          | true ↦ λ t. (
            record {
              open_yet = first.open_yet;
              own_page = first.own_page;
              awaited = omega (arith, length-append e.1.waiting (asker ∷ []));
              in_lists = Each-push (λ (r : DocRef). IsIn (more r.doc) (page, e.0)) e.1.waiting asker first.in_lists (subst (λ n. IsIn (more asker.doc) (page, n)) (same_number number e.0 t) here);
            },
            all,
          )
          | false ↦ λ t. (first, rest)
        ]) refl

  -- what a document leaves is kept, and listed for the others
  pub Each-kept_left : (doc : ℕ) (fewer : ℕ → List (ℕ × ℕ)) → ((n : ℕ) → nat_eq doc n ≡ false → fewer n ≡ places n) → (ps : Pending) → Each (IsKept given places page) ps → Each (IsKept given fewer page) (left_by doc ps)
  Each-kept_left doc fewer others ps h = Each-left_by doc (IsKept given places page) (IsKept given fewer page) (λ e r rs k w. record {
    open_yet = k.open_yet;
    own_page = k.own_page;
    awaited = omega arith;
    in_lists = subst (Each (λ (x : DocRef). IsIn (fewer x.doc) (page, e.0))) w
        (Each-passing (λ (x : DocRef). IsIn (places x.doc) (page, e.0)) (λ x. not (is_of doc x)) (λ (x : DocRef). IsIn (fewer x.doc) (page, e.0))
        (λ x i t. subst (λ l. IsIn l (page, e.0)) (sym (others x.doc (not_true (is_of doc x) t))) i) e.1.waiting k.in_lists);
  }) ps h
    where
      not_true : (b : Bool) → not b ≡ true → b ≡ false
      not_true true h = sym h
      not_true false h = refl

  -- a kept prompt is one that the document may leave
  pub Each-to_leave : (doc : ℕ) (ps : Pending) → Each (IsKept given places page) ps → Each (IsLeft doc (places doc) page) ps
  Each-to_leave doc ps h = Each-then (IsKept given places page) (IsLeft doc (places doc) page) (λ e k. record {
    awaited = k.awaited;
    in_list = Each-then (λ (r : DocRef). IsIn (places r.doc) (page, e.0)) (λ (r : DocRef). is_of doc r ≡ true → IsIn (places doc) (page, e.0))
        (λ r i of. subst (λ n. IsIn (places n) (page, e.0)) (sym (same_number doc r.doc of)) i) e.1.waiting k.in_lists;
  }) ps h

-- what holds of the prompts put at the page, and of the others at each other page, holds of all
pub at_page-all : (P : ℕ → Pending → Type 0) (page : ℕ) (ps : Pending) (old : ℕ → Pending) (p : ℕ) → P page ps → (nat_eq page p ≡ false → P p (old p)) → P p (at_page page ps old p)
at_page-all P page ps old p here other =
    (elim (nat_eq page p) as (λ b. nat_eq page p ≡ b → P p (cond b ps (old p)))
    [ true ↦ λ t. subst (λ q. P q ps) (same_number page p t) here | false ↦ λ f. other f ]) refl

-- without the first of a number, each that is left
pub Each-remove : (P : ℕ × Prompt → Type 0) (number : ℕ) (ps : Pending) → Each P ps → Each P (remove_entry (nat_eq number) ps)
Each-remove P number [] h = tt
Each-remove P number (e ∷ ps) h =
    let rest = Each-remove P number ps h.1 in
    elim (nat_eq number e.0) as (λ b. Each P (cond b ps (e ∷ remove_entry (nat_eq number) ps))) [ true ↦ h.1 | false ↦ (h.0, rest) ]

module _ {S : Type 0} (given : IndexMap ℕ Given S) (places : ℕ → List (ℕ × ℕ)) (old : ℕ → Pending) (h : (p : ℕ) → Each (IsKept given places p) (old p)) where
  -- a pending prompt was given
  pub above-pending : (number : ℕ) → ((k : ℕ) → IsSome (get nat_eq given k) → k < number) → (page k : ℕ) → IsSome (prompt_in k (old page)) → k < number
  above-pending number above page k some =
      (elim (prompt_in k (old page)) as (λ o. prompt_in k (old page) ≡ o → IsSome o → k < number)
      [ None ↦ λ e s. absurd (true≢false (sym s)) | Some p ↦ λ e s. above k (subst IsSome (sym (kept_of given places page k (old page) p (h page) e).open_yet) refl) ]) refl some

  -- a prompt of one page is pending in no other
  pub absent_elsewhere : (number page p : ℕ) → get nat_eq given number ≡ Some (record { page = page; settled = false }) → nat_eq page p ≡ false → prompt_in number (old p) ≡ None
  absent_elsewhere number page p here apart =
      (elim (prompt_in number (old p)) as (λ o. prompt_in number (old p) ≡ o → o ≡ None) [
        | None ↦ λ e. refl
        | Some x ↦ λ e. let same : page ≡ p = same_page page p (sym here ∙ (kept_of given places p number (old p) x (h p) e).open_yet) in absurd (true≢false (sym (itself page) ∙ ap (nat_eq page) same ∙ apart))
      ]) refl
    where
      page_of : Option Given → ℕ
      page_of None = 0
      page_of (Some g) = g.page

      same_page : (a b : ℕ) → ◌≡◌ {A = Option Given} (Some (record { page = a; settled = false })) (Some (record { page = b; settled = false })) → a ≡ b
      same_page a b e = ap page_of e

      itself : (n : ℕ) → nat_eq n n ≡ true
      itself n = grind (arith, nat_tests)

  module _ {R : Type 0} (later : IndexMap ℕ Given R) (more : ℕ → List (ℕ × ℕ)) (stay : (doc : ℕ) (x : ℕ × ℕ) → IsIn (places doc) x → IsIn (more doc) x) (new : ℕ → Pending) where
    -- where only places are listed, and the same is known of each number
    pub AreKept-then : ((k : ℕ) → get nat_eq later k ≡ get nat_eq given k) → ((p : ℕ) → new p ≡ old p) → (p : ℕ) → Each (IsKept later more p) (new p)
    AreKept-then same queues p = subst (Each (IsKept later more p)) (sym (queues p))
        (Each-then (IsKept given places p) (IsKept later more p) (λ e k. kept_then given places p later more stay e (same e.0) k) (old p) (h p))

    -- where a request joined
    pub AreKept-joined : (page number : ℕ) (asker : DocRef) → IsIn (more asker.doc) (page, number) → ((k : ℕ) → get nat_eq later k ≡ get nat_eq given k)
        → ((p : ℕ) → new p ≡ at_page page (joined number asker (old page)) old p) → (p : ℕ) → Each (IsKept later more p) (new p)
    AreKept-joined page number asker here same queues p = subst (Each (IsKept later more p)) (sym (queues p))
        (at_page-all (λ q ps. Each (IsKept later more q) ps) page (joined number asker (old page)) old p
        (Each-joined given places page later more stay number asker here same (old page) (h page))
        (λ f. Each-then (IsKept given places p) (IsKept later more p) (λ e k. kept_then given places p later more stay e (same e.0) k) (old p) (h p)))

    -- where a prompt was made
    pub AreKept-made : (page number : ℕ) (prompt : Prompt) (asker : DocRef) → prompt.page ≡ page → prompt.waiting ≡ asker ∷ [] → IsIn (more asker.doc) (page, number)
        → ((k : ℕ) → IsSome (get nat_eq given k) → k < number)
        → ((k : ℕ) → get nat_eq later k ≡ cond (nat_eq number k) (Some (record { page = page; settled = false })) (get nat_eq given k))
        → ((p : ℕ) → new p ≡ at_page page (old page ++ (number, prompt) ∷ []) old p) → (p : ℕ) → Each (IsKept later more p) (new p)
    AreKept-made page number prompt asker own waits here above known queues p = subst (Each (IsKept later more p)) (sym (queues p))
        (at_page-all (λ q ps. Each (IsKept later more q) ps) page (old page ++ (number, prompt) ∷ []) old p
        (Each-push (IsKept later more page) (old page) (number, prompt) (older page) (record {
          open_yet = known number ∙ ap (λ b. cond b (Some (record { page = page; settled = false })) (get nat_eq given number)) (itself number);
          own_page = own;
          awaited = subst (λ w. 1 ≤ length w) (sym waits) (omega arith);
          in_lists = subst (Each (λ (r : DocRef). IsIn (more r.doc) (page, number))) (sym waits) (here, tt);
        }))
        (λ f. older p))
      where
        itself : (n : ℕ) → nat_eq n n ≡ true
        itself n = grind (arith, nat_tests)

        below : (n k : ℕ) → k < n → nat_eq n k ≡ false
        below n k lt = grind (arith, nat_tests)

        older : (q : ℕ) → Each (IsKept later more q) (old q)
        older q = Each-then (IsKept given places q) (IsKept later more q)
            (λ e k. kept_then given places q later more stay e
            (known e.0 ∙ ap (λ b. cond b (Some (record { page = page; settled = false })) (get nat_eq given e.0)) (below number e.0 (above e.0 (subst IsSome (sym k.open_yet) refl)))) k) (old q) (h q)

    -- where a prompt was settled
    pub AreKept-settled : (page number : ℕ) → get nat_eq given number ≡ Some (record { page = page; settled = false })
        → ((k : ℕ) → nat_eq number k ≡ false → get nat_eq later k ≡ get nat_eq given k)
        → ((p : ℕ) → new p ≡ at_page page (remove_entry (nat_eq number) (old page)) old p) → prompt_in number (new page) ≡ None → (p : ℕ) → Each (IsKept later more p) (new p)
    AreKept-settled page number here others queues gone p = subst (Each (IsKept later more p)) (sym (queues p))
        (at_page-all (λ q ps. Each (IsKept later more q) ps) page (remove_entry (nat_eq number) (old page)) old p
        (Each-kept_then given places page later more stay number others (remove_entry (nat_eq number) (old page)) (ap (prompt_in number) (sym (queues page ∙ ap (λ b. cond b (remove_entry (nat_eq number) (old page)) (old page)) (itself page))) ∙ gone) (Each-remove (IsKept given places page) number (old page) (h page)))
        (λ f. Each-kept_then given places p later more stay number others (old p) (absent_elsewhere number page p here f) (h p)))
      where
        itself : (n : ℕ) → nat_eq n n ≡ true
        itself n = grind (arith, nat_tests)

  -- where a prompt was settled, it is taken out everywhere
  pub removed_everywhere : (new : ℕ → Pending) (page number : ℕ) → get nat_eq given number ≡ Some (record { page = page; settled = false })
      → ((p : ℕ) → new p ≡ at_page page (remove_entry (nat_eq number) (old page)) old p) → (p : ℕ) → new p ≡ remove_entry (nat_eq number) (old p)
  removed_everywhere new page number here queues p = queues p
      ∙ (elim (nat_eq page p) as (λ b. nat_eq page p ≡ b → cond b (remove_entry (nat_eq number) (old page)) (old p) ≡ remove_entry (nat_eq number) (old p)) [
        | true ↦ λ t. ap (λ q. remove_entry (nat_eq number) (old q)) (same_number page p t)
        | false ↦ λ f. sym (remove_entry-absent number (old p) (absent_elsewhere number page p here f))
      ]) refl
