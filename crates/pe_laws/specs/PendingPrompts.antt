-- The pending prompts of a page, and what they ask for.
-- Permissions, "request permission to use"; that requests of one pair join one prompt is this project's own.
use Rattle.std.specs.Prelude.{◌≡◌, ℕ, IsTrue, Some}
use Rattle.pe_rules.specs.History.{RepliedHistory}
use Rattle.pe_rules.specs.Activation.{is_one_of}
use Rattle.pe_store.specs.Pairs.{Pair}
use Rattle.pe_rules.specs.Settings.{prompt_pair}
use Rattle.pe_rules.specs.Prompts.{pending}

-- two pending prompts of a page that ask for one pair are one prompt
abbrev pub IsOnePerPair : RepliedHistory → Type 0
IsOnePerPair T = (page k l : ℕ) (pair : Pair)
    → IsTrue (is_one_of (pending T page) k) → IsTrue (is_one_of (pending T page) l)
    → prompt_pair T k ≡ Some pair → prompt_pair T l ≡ Some pair
    → k ≡ l
