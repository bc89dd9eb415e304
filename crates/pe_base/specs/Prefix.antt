-- Texts that begin others.
-- It is this project's own: what stands of a text where memory or a sink failed midway.
-- A text begins itself.
use Rattle.std.specs.Prelude.{◌≡◌, ℕ, List, ◌++◌}

-- the text begins with this front
abbrev pub IsPrefix : List ℕ → List ℕ → Type 0
IsPrefix front all = (rest : List ℕ) × (all ≡ front ++ rest)
