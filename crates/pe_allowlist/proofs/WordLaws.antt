-- Pieces, words and keywords.
use Rattle.std.proofs.Common.{◌≡◌, ◌↔◌, ℕ, Bool, IsTrue, List, [], ◌∷◌, refl}
use Rattle.std.specs.List.{slice_split}
use Rattle.std.specs.Cmp.Lexicographic.{bytes_decides}
use Rattle.std.proofs.lemmas.Bool.Decides.{same_from_decides}
use Rattle.pe_allowlist.specs.AsciiWords.{pieces_at, lowercase}
use Rattle.pe_allowlist.specs.ContainerPolicy.{is_keyword}

-- the pieces are std's parts
pub pieces-split : (passes : ℕ → Bool) (bytes : List ℕ) → slice_split passes bytes ≡ pieces_at passes bytes
unfolding pieces_at
pieces-split passes [] = refl
pieces-split passes (b ∷ bytes) = rw (pieces-split passes bytes) refl

pub keyword_test : (r : Bool) (word keyword : List ℕ) → (IsTrue r ↔ (lowercase word ≡ lowercase keyword)) → r ≡ is_keyword word (lowercase keyword)
keyword_test r word keyword h = same_from_decides r (is_keyword word (lowercase keyword)) h (bytes_decides (lowercase word) (lowercase keyword))
