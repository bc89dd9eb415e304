-- The summary of an output text: six lines, each a word, a space and a number.
-- It is this project's own format.
-- The numbers are counted from the text itself: a line that begins with `@` is a change line, and each other is an answer line, whose answer stands behind its first space.
use Rattle.std.specs.Prelude.{◌≡◌, ℕ, ◌+◌, nat_eq, Bool, not, ◌&&◌, ◌==◌, List, [], ◌∷◌, ◌++◌, length, codes, bytes_eq, decimal, if◌then◌else◌}
use Rattle.std.specs.List.{count_by, slice_split, starts_with}

-- the parts of a text between its line feeds: its lines, and behind them an empty one
abbrev pub parts_of : List ℕ → List (List ℕ)
parts_of text = slice_split (λ b. b == 10) text

-- a change line
abbrev pub is_change : List ℕ → Bool
is_change line = starts_with nat_eq line (codes "@")

-- what stands behind the first space
unfoldable pub behind_space : List ℕ → List ℕ
behind_space [] = []
behind_space (b ∷ bytes) = if b == 32 then bytes else behind_space bytes

-- an answer line whose answer is a refusal
abbrev pub is_refusal : List ℕ → Bool
is_refusal line = not (is_change line) && starts_with nat_eq (behind_space line) (codes "refused ")

-- an answer line whose answer is `allowed`
abbrev pub is_allowed : List ℕ → Bool
is_allowed line = not (is_change line) && bytes_eq (behind_space line) (codes "allowed")

-- an answer line whose answer is `denied` with a reason
abbrev pub is_denial : List ℕ → Bool
is_denial line = not (is_change line) && starts_with nat_eq (behind_space line) (codes "denied ")

-- how many lines of a text pass a test
abbrev pub count_lines : (List ℕ → Bool) → List ℕ → ℕ
count_lines test text = count_by test (parts_of text)

-- a line of the summary: a word, a space, a number and a line feed
abbrev pub row : List ℕ → ℕ → List ℕ
row word number = word ++ codes " " ++ decimal number ++ 10 ∷ []

-- the six lines: how many lines the script has, how many of the output text's are of each kind, and how many bytes it has
unfoldable pub six_lines : ℕ → ℕ → ℕ → ℕ → ℕ → ℕ → List ℕ
six_lines count refused allowed denied changes bytes =
    row (codes "lines") count ++
    row (codes "refused") refused ++
    row (codes "allowed") allowed ++
    row (codes "denied") denied ++
    row (codes "changes") changes ++
    row (codes "bytes") bytes

-- the summary of the output text of a script of so many lines
abbrev pub summary : ℕ → List ℕ → List ℕ
summary count text = six_lines count (count_lines is_refusal text) (count_lines is_allowed text) (count_lines is_denial text) (count_lines is_change text) (length text)

-- a number rises by one where the line passes the test
abbrev pub Counts : (List ℕ → Bool) → List ℕ → ℕ → ℕ → Type 0
Counts test line old new = new ≡ old + (if test line then 1 else 0)
