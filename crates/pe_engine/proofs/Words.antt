-- Words of a text, without ASCII case.
use Rattle.std.proofs.Common.{◌≡◌, ◌↔◌, ℕ, Bool, IsTrue, List, [], ◌∷◌, bytes_eq, codes, refl}
use Rattle.std.specs.List.{slice_split}
use Rattle.std.specs.Cmp.Lexicographic.{bytes_decides}
use Rattle.std.proofs.lemmas.Bool.Decides.{same_from_decides}
use Rattle.pe_allowlist.specs.AsciiWords.{pieces_at, lowercase}

-- the pieces are std's parts
pub pieces-split : (passes : ℕ → Bool) (bytes : List ℕ) → slice_split passes bytes ≡ pieces_at passes bytes
unfolding pieces_at
pieces-split passes [] = refl
pieces-split passes (b ∷ bytes) = rw (pieces-split passes bytes) refl

pub keyword_test : (r : Bool) (word : List ℕ) → (IsTrue r ↔ (lowercase word ≡ lowercase (codes "allow-same-origin"))) → r ≡ bytes_eq (lowercase word) (codes "allow-same-origin")
keyword_test r word h = same_from_decides r (bytes_eq (lowercase word) (codes "allow-same-origin")) h (bytes_decides (lowercase word) (codes "allow-same-origin"))
