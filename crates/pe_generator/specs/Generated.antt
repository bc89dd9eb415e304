-- The script that a seed and a count make: a long one, of which each line is an event.
-- The generator is this project's own: a linear congruential generator of 64 bits, and blocks of sixteen lines.
-- Line i is event i, so line 16 * block + 1 opens a page with this number, line 16 * block + 2 embeds a child with this number, and so for the prompt and the message.
use Rattle.std.specs.Prelude.{ℕ, zero, suc, ◌+◌, ◌-◌, ◌*◌, ◌/◌, ◌%◌, ◌^◌, ◌==◌, nat_le, List, [], ◌∷◌, ◌++◌, codes, decimal, if◌then◌else◌}

-- the state after a state
abbrev pub next_state : ℕ → ℕ
next_state state = (state * 6364136223846793005 + 1442695040888963407) % 2 ^ 64

-- what is drawn from a state: its upper 31 bits
abbrev pub drawn : ℕ → ℕ
drawn state = state / 2 ^ 33

-- by how much the time rises with what is drawn: 0 to 39 milliseconds
abbrev pub pause : ℕ → ℕ
pause draw = draw % 40

-- what is drawn beside the time: the choice among words
abbrev pub choice : ℕ → ℕ
choice draw = draw / 40

-- the state that is set
unfoldable pub state_set : ℕ → List ℕ
state_set v =
    if v / 8 % 3 == 0 then codes "granted" else
    if v / 8 % 3 == 1 then codes "denied" else
    codes "prompt"

-- the outcome of a prompt
unfoldable pub outcome : ℕ → List ℕ
outcome v =
    if v % 3 == 0 then codes "allow once" else
    if v % 3 == 1 then codes "block for 500" else
    codes "dismiss"

-- the last line of a block: it closes the page of four blocks before
abbrev pub last_words : ℕ → List ℕ
last_words block = if nat_le 4 block then codes "close f" ++ decimal (16 * block - 63) else codes "tick"

-- the words of a line behind the time: by its place in the block, 1 to 16, the block, from 0, and the choice
unfoldable pub words_of : ℕ → ℕ → ℕ → List ℕ
words_of place block v =
    let page = decimal (16 * block + 1) in
    let child = decimal (16 * block + 2) in
    let prompt = decimal (16 * block + 5) in
    let message = decimal (16 * block + 7) in
    let top_site = decimal (v % 8) in
    let child_site = decimal block in
    if place == 1 then codes "open https://a" ++ top_site ++ codes ".example/ header \"camera=(self), payment=*\"" else
    if place == 2 then codes "embed f" ++ page ++ codes " https://e" ++ child_site ++ codes ".example/ allow \"payment; geolocation\"" else
    if place == 3 then codes "query f" ++ page ++ codes " geolocation" else
    if place == 4 then codes "query f" ++ child ++ codes " storage-access" else
    if place == 5 then codes "request f" ++ child ++ codes " storage-access" else
    if place == 6 then codes "input f" ++ page ++ codes " mousedown" else
    if place == 7 then codes "post f" ++ page ++ codes " f" ++ child ++ codes " https://e" ++ child_site ++ codes ".example payment" else
    if place == 8 then codes "set geolocation https://a" ++ top_site ++ codes ".example " ++ state_set v ++ codes " for " ++ decimal (1 + v / 24 % 2000) else
    if place == 9 then codes "answer p" ++ prompt ++ codes " " ++ outcome v else
    if place == 10 then codes "deliver m" ++ message else
    if place == 11 then codes "use f" ++ child ++ codes " show-payment" else
    if place == 12 then codes "use f" ++ page ++ codes " get-position" else
    if place == 13 then codes "nav f" ++ child ++ codes " https://a" ++ top_site ++ codes ".example/" else
    if place == 14 then codes "query f" ++ child ++ codes " geolocation" else
    if place == 15 then codes "policy f" ++ child ++ codes " camera" else
    last_words block

-- the line that stands behind so many lines: the time, a space, its words and a line feed
unfoldable pub line_of : ℕ → ℕ → ℕ → List ℕ
line_of before time v = decimal time ++ codes " " ++ words_of (before % 16 + 1) (before / 16) v ++ 10 ∷ []

-- so many lines, behind so many others, from this state and this time on
unfoldable pub lines_from : ℕ → ℕ → ℕ → ℕ → List ℕ
lines_from zero before state time = []
lines_from (suc count) before state time =
    let next = next_state state in
    let moment = time + pause (drawn next) in
    line_of before moment (choice (drawn next)) ++ lines_from count (before + 1) next moment

-- the script of so many lines: the seed is the first state, and the time begins at 0
unfoldable pub generated : ℕ → ℕ → List ℕ
generated seed count = lines_from count 0 seed 0
