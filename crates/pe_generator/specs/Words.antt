-- The words of the command line that ask for a generated script: `generate SEED COUNT`.
-- The command line is this project's own.
-- Numbers are decimal, without a leading zero.
use Rattle.std.specs.Prelude.{◌≡◌, ℕ, ◌^◌, ◌<◌, ◌≤◌, List, [], ◌∷◌, codes, decimal}

-- SEED: 0 to 18446744073709551615
abbrev pub IsSeed : ℕ → List ℕ → Type 0
IsSeed seed word = (seed < 2 ^ 64) × (word ≡ decimal seed)

-- COUNT: 1 to 100000
abbrev pub IsCount : ℕ → List ℕ → Type 0
IsCount count word = (1 ≤ count) × (count ≤ 100000) × (word ≡ decimal count)

-- three words ask for the script of this seed and this count
abbrev pub AreScriptWords : ℕ → ℕ → List ℕ → List ℕ → List ℕ → Type 0
AreScriptWords seed count verb first second = (verb ≡ codes "generate") × IsSeed seed first × IsCount count second

-- the words ask for the script of this seed and this count: `generate SEED COUNT`
abbrev pub AsksForScript : ℕ → ℕ → List (List ℕ) → Type 0
AsksForScript seed count (verb ∷ first ∷ second ∷ []) = AreScriptWords seed count verb first second
AsksForScript seed count words = ⊥
