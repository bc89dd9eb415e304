-- Words of a text in ASCII.
-- Infra Standard, section 4.6 "Strings" ("ASCII whitespace", "split on ASCII whitespace", "ASCII
-- lowercase").
use Rattle.std.specs.Prelude.{ℕ, Bool, not, ◌||◌, ◌==◌, List, [], ◌∷◌, length, map, if◌then◌else◌}
use Rattle.std.specs.List.{filter, onto_first}
use Rattle.std.specs.Char.{to_ascii_lowercase}

-- tab, line feed, form feed, carriage return, space
abbrev pub is_ascii_whitespace : ℕ → Bool
is_ascii_whitespace b = b == 9 || b == 10 || b == 12 || b == 13 || b == 32

-- the parts between the bytes that pass, empty ones too; there is always at least one
unfoldable pub pieces_at : (ℕ → Bool) → List ℕ → List (List ℕ)
pieces_at passes [] = [] ∷ []
pieces_at passes (b ∷ bytes) =
    let rest = pieces_at passes bytes in
    if passes b then [] ∷ rest else onto_first b rest

-- the words between ASCII whitespace
unfoldable pub ascii_words : List ℕ → List (List ℕ)
ascii_words bytes = filter (λ word. not (length word == 0)) (pieces_at is_ascii_whitespace bytes)

-- the text with each ASCII upper letter lowered
abbrev pub lowercase : List ℕ → List ℕ
lowercase bytes = map to_ascii_lowercase bytes
