-- The pairs that the pending prompts of a page ask for, and the index of them.
use Rattle.std.specs.Prelude.{◌≡◌, ℕ, ◌≤◌, List, [], ◌∷◌, Option, None, Some, if◌then◌else◌}
use Rattle.pe_base.specs.declared.limits.TheConstants.{EVENT_LIMIT}
use Rattle.pe_store.specs.Pairs.{Pair, is_same_pair}
use Rattle.pe_store.specs.Numbers.{KeyNumbers, number_of}
use Rattle.pe_prompts.specs.Pending.{Pending, pair_of}

-- the number of each prompt, with the pair that it asks for
abbrev pub pairs_in : Pending → List (ℕ × Pair)
pairs_in [] = []
pairs_in (p ∷ ps) = (p.0, pair_of p.1) ∷ pairs_in ps

-- the first number that stands with the pair
abbrev pub number_among : Pair → List (ℕ × Pair) → Option ℕ
number_among pair [] = None
number_among pair (q ∷ qs) = if is_same_pair q.1 pair then Some q.0 else number_among pair qs

-- no pair stands twice
abbrev pub AreSingle : List (ℕ × Pair) → Type 0
AreSingle [] = Unit {0}
AreSingle (q ∷ qs) = (number_among q.1 qs ≡ None) × AreSingle qs

-- no two prompts ask for one pair, and the index has the number of each pair that is asked for
pub record IsIndex (ps : Pending) (pairs : List KeyNumbers) : Type 0 where
  pub single : AreSingle (pairs_in ps)
  pub found : (pair : Pair) → number_of pairs pair ≡ number_among pair (pairs_in ps)
  pub low : (pair : Pair) (number : ℕ) → number_of pairs pair ≡ Some number → 1 ≤ number
  pub high : (pair : Pair) (number : ℕ) → number_of pairs pair ≡ Some number → number ≤ EVENT_LIMIT
