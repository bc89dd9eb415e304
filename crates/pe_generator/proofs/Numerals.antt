-- Numbers that words write in decimal.
use Rattle.std.proofs.Common.{◌≡◌, ℕ, List, Result, Ok, sym, ◌∙◌, arith}
use Rattle.std.specs.Str.Parse.{ParsesUnsigned}
use Rattle.std.proofs.lemmas.Fmt.{parse-decimal, decimal_injective}
use Rattle.pe_generator.specs.Words.{IsSeed, IsCount}

-- what is read of a seed's word is the seed
pub seed_parses : {E : Type 0} (word : List ℕ) (r : Result ℕ E) (seed : ℕ) → ParsesUnsigned 64 10 word r → IsSeed seed word → r ≡ Ok seed
seed_parses word r seed h is = parse-decimal 64 seed word r is.0 is.0 is.1 h

-- a word writes one seed
pub seed_unique : (word : List ℕ) (m n : ℕ) → IsSeed m word → IsSeed n word → m ≡ n
seed_unique word m n a b = decimal_injective m n a.0 b.0 (sym a.1 ∙ b.1)

-- a count is a seed too
pub seed_from_count : (word : List ℕ) (count : ℕ) → IsCount count word → IsSeed count word
seed_from_count word count is = (omega arith, is.2)
