-- The numbers that an engine gave are below that of the next event.
use Rattle.std.proofs.Common.{◌≡◌, ℕ, ◌+◌, ◌<◌, ◌≤◌, Bool, true, false, ◌||◌, nat_eq, List, [], ◌∷◌, ◌++◌, length, IsSome, refl, ◌∙◌, ap, sym, subst, arith, length-append}
use Rattle.std.proofs.lemmas.Bool.Decides.{Decides-eqb}
use Rattle.pe_prompts.specs.Queues.{Queues, given_of}
use Rattle.pe_status.specs.Registry.{AreBelow}
use Rattle.pe_delegation.specs.Posted.{was_given}
use Rattle.pe_requests.specs.PromptSteps as requests
use Rattle.pe_engine.specs.declared.engine.Made.{Made}

below-more : (n : ℕ) (ns : List ℕ) → AreBelow n ns → AreBelow (n + 1) ns
below-more n [] b = tt
below-more n (k ∷ ns) b = ((let z = b.0 in omega arith), below-more n ns b.1)

-- the numbers of messages
abbrev pub AreBelowIn : ℕ → List ℕ → Type 0
AreBelowIn n given = (k : ℕ) → was_given given k ≡ true → k < n

-- what holds of an engine's numbers, once one event more is noted
pub noted-invariant : (old new : List Made) (m : Made) (frames : ℕ) (statuses : List ℕ) (prompts : Queues) (messages : List ℕ) → new ≡ old ++ m ∷ [] → length old < 1000000 → frames ≤ length old + 1
    → AreBelow (length old + 1) statuses → requests.AreBelow (length old + 1) prompts → AreBelowIn (length old + 1 + 1) messages
    → (length new ≤ 1000000) × (frames ≤ length new) × AreBelow (length new + 1) statuses × requests.AreBelow (length new + 1) prompts × AreBelowIn (length new + 1) messages
noted-invariant old new m frames statuses prompts messages is few within registered asked posted =
    let grown : length new ≡ length old + 1 = ap length is ∙ length-append old (m ∷ []) in (
      omega arith,
      omega arith,
      subst (λ k. AreBelow (k + 1) statuses) (sym grown) (below-more (length old + 1) statuses registered),
      λ k given. (let z = asked k given in omega arith),
      λ k given. (let z = posted k given in omega arith),
    )

-- numbers below one are below the next
pub given-before : (n : ℕ) (given : List ℕ) → AreBelowIn n given → AreBelowIn (n + 1) given
given-before n given below k h = let z = below k h in omega arith

-- and so are they with one more, which is the next
pub given-more : (n number : ℕ) (old new : List ℕ) → number ≡ n → ((k : ℕ) → was_given new k ≡ (nat_eq number k || was_given old k)) → AreBelowIn n old → AreBelowIn (n + 1) new
given-more n number old new same known below k given = by_test (nat_eq number k) refl (sym (known k) ∙ given)
  where
    by_test : (b : Bool) → nat_eq number k ≡ b → (b || was_given old k) ≡ true → k < n + 1
    by_test true q h = let i : number ≡ k = (Decides-eqb number k).0 q in omega (arith, i, same)
    by_test false q h = let z = below k h in omega arith
