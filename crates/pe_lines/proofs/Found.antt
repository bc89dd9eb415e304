-- What each step of the reader of words finds, over plain lists.
use Rattle.std.proofs.Common.{◌≡◌, ℕ, suc, zero, ◌+◌, ◌<◌, ◌≤◌, Bool, true, false, not, List, [], ◌∷◌, ◌++◌, length, take, drop, get_or, Option, Some, None, sym, ap, ◌∙◌, refl, arith, append_assoc, length-append, subst}
use Rattle.std.specs.Prelude.{◌==◌, ◌||◌, ◌&&◌, if◌then◌else◌, option_map}
use Rattle.std.specs.List.{list_all, list_any, position, position_or_len}
use Rattle.std.proofs.lemmas.Bool.Decides.{nat_tests}
use Rattle.std.proofs.lemmas.Bool.{eqb-true}
use Rattle.std.proofs.lemmas.List.{get_or-take, get_or-drop, length-take, length-drop, drop-drop, drop_more, take-append-drop}
use Rattle.std.proofs.Math.Seq.{take-append-add}
use Rattle.std.proofs.lemmas.List.Sums.{fails_before_first, passes_at_first, prefix_len-le-length, list_all-from_AllPass}
use Rattle.memchr.specs.Find.{IsFirstByte, is_byte}
use Rattle.pe_lines.specs.Words.{is_blank, Between, Bare, Quoted, Escaped, Closed, closed, longer, begun, ahead_at_byte, ahead_of}
use Rattle.pe_lines.specs.Grammar.{is_escaped, escaped, ends_bare, is_bare, IsBareText, ends_word}
use Rattle.pe_lines.specs.Steps.{IsWordAt, HasNoWords, char_len, begins_escape, begins_plain, begins_quote, IsEscapedFront, ClosesAfter, NeverCloses, IsFirstEscape, without_escapes}
use Rattle.pe_lines.proofs.Ahead.{kind_by, prefixed, and_first, and_rest, first_bare_byte, bare_byte, quoted_ahead}

-- ---- bare words

-- where no byte passes the test, all stand before the first that does
pub to_end : (p : ℕ → Bool) (bytes : List ℕ) → position p bytes ≡ None → length bytes ≡ position_or_len p bytes
to_end p bytes e =
    let past : length bytes ≤ position_or_len p bytes = grind (arith, nat_tests) in
    omega (arith, prefix_len-le-length (λ b. not (p b)) bytes)

all_bare : (bytes : List ℕ) → list_all is_bare (take (position_or_len ends_bare bytes) bytes) ≡ true
all_bare bytes =
    let n = position_or_len ends_bare bytes in
    list_all-from_AllPass is_bare (take n bytes) (λ k d h.
    let small : k < n = omega (arith, length-take n bytes) in
    rw get_or-take (ap not (fails_before_first ends_bare bytes k d small)))

some_bare : (bytes : List ℕ) (n : ℕ) → n ≡ position_or_len ends_bare bytes → 0 < length bytes → ends_bare (get_or bytes 0 0) ≡ false → 0 < n
some_bare bytes zero e some bare =
    let here : position_or_len ends_bare bytes < length bytes = omega arith in
    let passes = passes_at_first ends_bare bytes 0 here in
    let at_first : ends_bare (get_or bytes 0 0) ≡ true = subst (λ k. ends_bare (get_or bytes k 0) ≡ true) (sym e) passes in
    cc
some_bare bytes (suc n) e some bare = omega arith

quote_of : (b : ℕ) → ends_bare b ≡ true → is_blank b ≡ false → b ≡ 34
quote_of b h blank = let is : (b == 34) ≡ true = subst (λ t. (t || (b == 34)) ≡ true) blank h in eqb-true b 34 is

quote_behind : (rest : List ℕ) → (0 < length rest → ends_bare (get_or rest 0 0) ≡ true) → ends_word rest ≡ false → (more : List ℕ) × (rest ≡ 34 ∷ more)
quote_behind [] h e = cc
quote_behind (b ∷ more) h e = (more, ap (λ c. c ∷ more) (quote_of b (h (omega arith)) e))

bare_then_quote : (place : ℕ) (text more : List ℕ) → list_all is_bare text ≡ true → ahead_of Bare place (text ++ 34 ∷ more) ≡ None
bare_then_quote place [] more h = refl
bare_then_quote place (b ∷ text) more h =
    bare_byte place b (λ stage. ahead_of stage (place + 1) (text ++ 34 ∷ more)) (is_blank b) (b == 34) (b == 92) (and_first (is_bare b) (list_all is_bare text) h)
    ∙ ap (option_map (longer b)) (bare_then_quote (place + 1) text more (and_rest (is_bare b) (list_all is_bare text) h))

word_then_quote : (place : ℕ) (text more : List ℕ) → 0 < length text → list_all is_bare text ≡ true → ahead_of Between place (text ++ 34 ∷ more) ≡ None
word_then_quote place [] more some h = absurd (omega arith)
word_then_quote place (b ∷ text) more some h =
    first_bare_byte place b (λ stage. ahead_of stage (place + 1) (text ++ 34 ∷ more)) (is_blank b) (b == 34) (b == 92) (and_first (is_bare b) (list_all is_bare text) h)
    ∙ ap (option_map (λ ahead. begun false place (longer b ahead))) (bare_then_quote (place + 1) text more (and_rest (is_bare b) (list_all is_bare text) h))

-- the first byte of what is left
first_left : (line : List ℕ) (start : ℕ) → get_or (drop start line) 0 0 ≡ get_or line start 0
first_left line start = get_or-drop start line 0 0 ∙ ap (λ k. get_or line k 0) (omega arith)

bare_text : (bytes : List ℕ) (n : ℕ) → n ≡ position_or_len ends_bare bytes → 0 < length bytes → ends_bare (get_or bytes 0 0) ≡ false → IsBareText (take n bytes)
bare_text bytes n e some bare =
    let more = some_bare bytes n e some bare in
    record { some = omega (arith, length-take n bytes); plain = subst (λ k. list_all is_bare (take k bytes) ≡ true) (sym e) (all_bare bytes) }

pub bare_is_word : (line : List ℕ) (start n : ℕ) (text : List ℕ) (from : ℕ) → start < length line → ends_bare (get_or line start 0) ≡ false → n ≡ position_or_len ends_bare (drop start line) → n ≤ length (drop start line) → ends_word (drop (start + n) line) ≡ true
    → text ≡ take n (drop start line) → from ≡ start → IsWordAt line start (record { text = text; quoted = false; start = from; end = start + n })
bare_is_word line start n text from within bare e short apart is same =
    let rest = drop start line in
    let left : 0 < length rest = omega (arith, length-drop start line) in
    let form = bare_text rest n e left (ap ends_bare (first_left line start) ∙ bare) in
    let len : length text ≡ n = ap length is ∙ omega (arith, length-take n rest) in
    let some : 0 < length (take n rest) = form.some in
    record {
      first = record {
        parts = sym (take-append-drop n rest) ∙ ap (λ l. l ++ drop n rest) (sym is) ∙ ap (λ l. text ++ l) (drop-drop n start line);
        blank = refl;
        form = subst IsBareText (sym is) form;
        apart = apart;
        starts = omega arith;
        ends = omega arith;
      };
      within = omega (arith, length-drop start line);
      further = omega (arith, length-take n rest);
    }

pub bare_is_none : (line : List ℕ) (start n : ℕ) → start < length line → ends_bare (get_or line start 0) ≡ false → n ≡ position_or_len ends_bare (drop start line) → ends_word (drop (start + n) line) ≡ false → HasNoWords line start
bare_is_none line start n within bare e apart =
    let rest = drop start line in
    let left : 0 < length rest = omega (arith, length-drop start line) in
    let form = bare_text rest n e left (ap ends_bare (first_left line start) ∙ bare) in
    let behind : drop n rest ≡ drop (start + n) line = drop-drop n start line in
    let ends : 0 < length (drop n rest) → ends_bare (get_or (drop n rest) 0 0) ≡ true = λ h.
    let here : position_or_len ends_bare rest < length rest = omega (arith, length-drop n rest) in
    ap ends_bare (first_left rest n) ∙ subst (λ k. ends_bare (get_or rest k 0) ≡ true) (sym e) (passes_at_first ends_bare rest 0 here) in
    let (more, quote) = quote_behind (drop n rest) ends (ap ends_word behind ∙ apart) in
    ap (ahead_of Between start) (sym (take-append-drop n rest) ∙ ap (λ l. take n rest ++ l) quote) ∙ word_then_quote start (take n rest) more form.some form.plain

-- ---- quoted words

front_on : (bytes : List ℕ) (at n : ℕ) (text more : List ℕ) → take at bytes ≡ escaped text → take n (drop at bytes) ≡ escaped more → at ≤ length bytes → take (at + n) bytes ≡ escaped text ++ escaped more
front_on bytes at n text more front next within =
    let whole : take (at + n) (take at bytes ++ drop at bytes) ≡ take at bytes ++ take n (drop at bytes) = ap (λ k. take (k + n) (take at bytes ++ drop at bytes)) (omega (arith, length-take at bytes)) ∙ take-append-add (take at bytes) (drop at bytes) n in
    ap (take (at + n)) (sym (take-append-drop at bytes)) ∙ whole ∙ ap (λ l. l ++ take n (drop at bytes)) front ∙ ap (λ l. escaped text ++ l) next

escaped-append : (text more : List ℕ) → escaped (text ++ more) ≡ escaped text ++ escaped more
escaped-append [] more = refl
escaped-append (b ∷ text) more =
    elim (is_escaped b) as (λ v. (if v then 92 ∷ b ∷ escaped (text ++ more) else b ∷ escaped (text ++ more)) ≡ (if v then 92 ∷ b ∷ escaped text else b ∷ escaped text) ++ escaped more)
    [ true ↦ ap (λ l. 92 ∷ b ∷ l) (escaped-append text more) | false ↦ ap (λ l. b ∷ l) (escaped-append text more) ]

-- the lengths by the tests
abbrev last_len : Bool → Option ℕ
last_len v = if v then None else Some 1

abbrev next_len : Bool → Bool → Bool → Option ℕ
next_len p q r = if p then (if r then Some 2 else None) else if q then None else Some 1

-- one byte of a text
CharStands : List ℕ → ℕ → Type 0
CharStands rest n = (0 < n) × (n ≤ length rest) × ((b : ℕ) × (take n rest ≡ escaped (b ∷ [])))

plain_char : (b : ℕ) → is_escaped b ≡ false → b ∷ [] ≡ escaped (b ∷ [])
plain_char b h = rw h refl

escaped_char : (b : ℕ) → is_escaped b ≡ true → 92 ∷ b ∷ [] ≡ escaped (b ∷ [])
escaped_char b h = rw h refl

neither : (b : ℕ) → (b == 92) ≡ false → (b == 34) ≡ false → is_escaped b ≡ false
neither b h k = rw (k, h) refl

last_char : (b n : ℕ) (v : Bool) → is_escaped b ≡ v → last_len v ≡ Some n → CharStands (b ∷ []) n
unfolding CharStands
last_char b n true h e = cc
last_char b n false h e = let same : 1 ≡ n = cc in subst (CharStands (b ∷ [])) same (omega arith, omega arith, (b, plain_char b h))

next_char : (b c : ℕ) (rest : List ℕ) (n : ℕ) (p q r : Bool) → (b == 92) ≡ p → (b == 34) ≡ q → is_escaped c ≡ r → next_len p q r ≡ Some n → CharStands (b ∷ c ∷ rest) n
unfolding CharStands
next_char b c rest n true q true e f g is =
    let same : 2 ≡ n = cc in
    let slash : b ≡ 92 = eqb-true b 92 e in
    subst (CharStands (b ∷ c ∷ rest)) same (omega arith, omega arith, (c, ap (λ d. d ∷ c ∷ []) slash ∙ escaped_char c g))
next_char b c rest n true q false e f g is = cc
next_char b c rest n false true r e f g is = cc
next_char b c rest n false false r e f g is = let same : 1 ≡ n = cc in subst (CharStands (b ∷ c ∷ rest)) same (omega arith, omega arith, (b, plain_char b (neither b e f)))

char_stands : (rest : List ℕ) (n : ℕ) → char_len rest ≡ Some n → CharStands rest n
char_stands [] n e = cc
char_stands (b ∷ []) n e = last_char b n (is_escaped b) refl e
char_stands (b ∷ c ∷ rest) n e = next_char b c rest n (b == 92) (b == 34) (is_escaped c) refl refl refl e

-- the front grows by a byte of the text
pub front_grows : (bytes : List ℕ) (at n : ℕ) → at ≤ length bytes → IsEscapedFront bytes at → char_len (drop at bytes) ≡ Some n → (0 < n) × (at + n ≤ length bytes) × IsEscapedFront bytes (at + n)
unfolding CharStands
front_grows bytes at n within (text, front) e =
    let (some, short, (b, is)) = char_stands (drop at bytes) n e in
    (some, omega (arith, short, length-drop at bytes), (text ++ b ∷ [], front_on bytes at n text (b ∷ []) front is within ∙ sym (escaped-append text (b ∷ []))))

-- where no byte of a text stands and no quote, there is no closing quote
not_escaped : (place c : ℕ) (line : List ℕ) (p q r : Bool) → (q || r) ≡ false → ahead_at_byte Escaped (kind_by p q r) place c (λ stage. ahead_of stage (place + 1) line) ≡ None
not_escaped place c line true q r h = refl
not_escaped place c line false true r h = cc
not_escaped place c line false false true h = cc
not_escaped place c line false false false h = refl

slash_alone : (b : ℕ) → is_escaped b ≡ true → (b == 34) ≡ false → b ≡ 92
slash_alone b h k = let is : (b == 92) ≡ true = subst (λ t. (t || (b == 92)) ≡ true) k h in eqb-true b 92 is

stops_last : (place b : ℕ) (v : Bool) → is_escaped b ≡ v → last_len v ≡ None → (b == 34) ≡ false → ahead_of Quoted place (b ∷ []) ≡ None
stops_last place b true h e quote = ap (λ c. ahead_of Quoted place (c ∷ [])) (slash_alone b h quote)
stops_last place b false h e quote = cc

stops_next : (place b c : ℕ) (rest : List ℕ) (p r : Bool) → (b == 92) ≡ p → is_escaped c ≡ r → next_len p false r ≡ None → ahead_of Quoted place (b ∷ c ∷ rest) ≡ None
stops_next place b c rest true true e g is = cc
stops_next place b c rest true false e g is =
    ap (λ d. ahead_of Quoted place (d ∷ c ∷ rest)) (eqb-true b 92 e) ∙ not_escaped (place + 1) c rest (is_blank c) (c == 34) (c == 92) g
stops_next place b c rest false r e g is = cc

stops : (place : ℕ) (rest : List ℕ) → char_len rest ≡ None → begins_quote rest ≡ false → ahead_of Quoted place rest ≡ None
stops place [] e quote = refl
stops place (b ∷ []) e quote = stops_last place b (is_escaped b) refl e quote
stops place (b ∷ c ∷ rest) e quote =
    let plain : next_len (b == 92) false (is_escaped c) ≡ None = subst (λ q. next_len (b == 92) q (is_escaped c) ≡ None) quote e in
    stops_next place b c rest (b == 92) (is_escaped c) refl refl plain

pub never_closes : (bytes : List ℕ) (at : ℕ) → IsEscapedFront bytes at → char_len (drop at bytes) ≡ None → begins_quote (drop at bytes) ≡ false → NeverCloses bytes
never_closes bytes at (text, front) e quote place =
    ap (ahead_of Quoted place) (sym (take-append-drop at bytes) ∙ ap (λ l. l ++ drop at bytes) front)
    ∙ quoted_ahead place (place + length (escaped text)) text (drop at bytes) refl
    ∙ ap (option_map (prefixed text)) (stops (place + length (escaped text)) (drop at bytes) e quote)

-- ---- the text up to the next quote or backslash

as_it_stands : (text : List ℕ) → list_all (λ b. not (is_escaped b)) text ≡ true → text ≡ escaped text
as_it_stands [] h = refl
as_it_stands (b ∷ text) h =
    ap (λ l. b ∷ l) (as_it_stands text (and_rest (not (is_escaped b)) (list_all (λ b. not (is_escaped b)) text) h))
    ∙ plain_step b text (is_escaped b) refl (and_first (not (is_escaped b)) (list_all (λ b. not (is_escaped b)) text) h)
  where
    plain_step : (b : ℕ) (text : List ℕ) (v : Bool) → is_escaped b ≡ v → not (is_escaped b) ≡ true → b ∷ escaped text ≡ escaped (b ∷ text)
    plain_step b text true e h = cc
    plain_step b text false e h = rw e refl

all_plain : (bytes : List ℕ) → list_all (λ b. not (is_escaped b)) (take (position_or_len is_escaped bytes) bytes) ≡ true
all_plain bytes =
    let n = position_or_len is_escaped bytes in
    list_all-from_AllPass (λ b. not (is_escaped b)) (take n bytes) (λ k d h.
    let small : k < n = omega (arith, length-take n bytes) in
    rw get_or-take (ap not (fails_before_first is_escaped bytes k d small)))

stops_here : (rest : List ℕ) → (0 < length rest → is_escaped (get_or rest 0 0) ≡ true) → begins_plain rest ≡ false
stops_here [] h = refl
stops_here (b ∷ rest) h = ap not (h (omega arith))

-- the text goes on to the next quote or backslash, or to the end
pub plain_grows : (bytes : List ℕ) (at n : ℕ) → at ≤ length bytes → IsEscapedFront bytes at → n ≡ position_or_len is_escaped (drop at bytes) → n ≤ length (drop at bytes)
    → (at + n ≤ length bytes) × IsEscapedFront bytes (at + n) × (begins_plain (drop (at + n) bytes) ≡ false)
plain_grows bytes at n within (text, front) e short =
    let rest = drop at bytes in
    let plain : list_all (λ b. not (is_escaped b)) (take n rest) ≡ true = subst (λ k. list_all (λ b. not (is_escaped b)) (take k rest) ≡ true) (sym e) (all_plain rest) in
    let ends : 0 < length (drop n rest) → is_escaped (get_or (drop n rest) 0 0) ≡ true = λ h.
    let here : position_or_len is_escaped rest < length rest = omega (arith, length-drop n rest) in
    ap is_escaped (first_left rest n) ∙ subst (λ k. is_escaped (get_or rest k 0) ≡ true) (sym e) (passes_at_first is_escaped rest 0 here) in (
      omega (arith, length-drop at bytes),
      (text ++ take n rest, front_on bytes at n text (take n rest) front (as_it_stands (take n rest) plain) within ∙ sym (escaped-append text (take n rest))),
      ap begins_plain (sym (drop-drop n at bytes)) ∙ stops_here (drop n rest) ends,
    )

two_long : (rest : List ℕ) → begins_escape rest ≡ true → char_len rest ≡ Some 2
two_long [] h = cc
two_long (b ∷ []) h = cc
two_long (b ∷ c ∷ rest) h = rw (and_first (b == 92) (is_escaped c) h, and_rest (b == 92) (is_escaped c) h) refl

-- an escape is a byte of the text
pub escape_grows : (bytes : List ℕ) (at : ℕ) → at ≤ length bytes → IsEscapedFront bytes at → begins_escape (drop at bytes) ≡ true → (at + 2 ≤ length bytes) × IsEscapedFront bytes (at + 2)
escape_grows bytes at within front h = let (some, short, more) = front_grows bytes at 2 within front (two_long (drop at bytes) h) in (short, more)

none_long : (b c : ℕ) (p q r : Bool) → (b == 92) ≡ p → (b == 34) ≡ q → is_escaped c ≡ r → (p && r) ≡ false → q ≡ false → not (q || p) ≡ false → next_len p q r ≡ None
none_long b c true q true e f g escape quote plain = cc
none_long b c true q false e f g escape quote plain = refl
none_long b c false true r e f g escape quote plain = refl
none_long b c false false r e f g escape quote plain = cc

-- at the end, and at a backslash that escapes nothing, the text has no closing quote
pub stops_for_good : (rest : List ℕ) → begins_plain rest ≡ false → begins_escape rest ≡ false → begins_quote rest ≡ false → char_len rest ≡ None
stops_for_good [] plain escape quote = refl
stops_for_good (b ∷ []) plain escape quote = by_test (is_escaped b) plain
  where
    by_test : (v : Bool) → not v ≡ false → last_len v ≡ None
    by_test true h = refl
    by_test false h = cc
stops_for_good (b ∷ c ∷ rest) plain escape quote = none_long b c (b == 92) (b == 34) (is_escaped c) refl refl refl escape quote plain

begins_as : (rest : List ℕ) → begins_quote rest ≡ true → (more : List ℕ) × (rest ≡ 34 ∷ more)
begins_as [] e = cc
begins_as (b ∷ more) e = (more, ap (λ c. c ∷ more) (eqb-true b 34 e))

-- the escapes are undone
plain_first : (b : ℕ) (bytes text : List ℕ) → (b == 92) ≡ false → without_escapes bytes ≡ text → without_escapes (b ∷ bytes) ≡ b ∷ text
plain_first b [] text h e = ap (λ l. b ∷ l) e
plain_first b (c ∷ bytes) text h e = rw h (ap (λ l. b ∷ l) e)

or_first : (a b : Bool) → (a || b) ≡ false → a ≡ false
or_first true b h = h
or_first false b h = refl

or_rest : (a b : Bool) → (a || b) ≡ false → b ≡ false
or_rest true b h = cc
or_rest false b h = h

not_slash : (b : ℕ) → is_escaped b ≡ false → (b == 92) ≡ false
not_slash b h = or_rest (b == 34) (b == 92) h

undone_escape : (b : ℕ) (text : List ℕ) (v : Bool) → is_escaped b ≡ v → without_escapes (escaped text) ≡ text → without_escapes (if v then 92 ∷ b ∷ escaped text else b ∷ escaped text) ≡ b ∷ text
undone_escape b text true h e = ap (λ l. b ∷ l) e
undone_escape b text false h e = plain_first b (escaped text) text (not_slash b h) e

pub undone : (text : List ℕ) → without_escapes (escaped text) ≡ text
undone [] = refl
undone (b ∷ text) = undone_escape b text (is_escaped b) refl (undone text)

pub nothing_undone : (bytes : List ℕ) → list_any (λ b. b == 92) bytes ≡ false → without_escapes bytes ≡ bytes
nothing_undone [] h = refl
nothing_undone (b ∷ bytes) h = plain_first b bytes bytes (or_first (b == 92) (list_any (λ b. b == 92) bytes) h) (nothing_undone bytes (or_rest (b == 92) (list_any (λ b. b == 92) bytes) h))

-- ---- the next escape

not_true : (b : Bool) → (b ≡ true → ⊥) → b ≡ false
not_true true h = absurd (h refl)
not_true false h = refl

undone_at : (n : ℕ) (bytes : List ℕ) → ((k : ℕ) → k < n → (get_or bytes k 0 == 92) ≡ false) → n + 1 < length bytes → get_or bytes n 0 ≡ 92
    → without_escapes bytes ≡ take n bytes ++ get_or bytes (suc n) 0 ∷ without_escapes (drop (suc (suc n)) bytes)
undone_at n [] plain within slash = absurd (omega arith)
undone_at n (b ∷ []) plain within slash = absurd (omega arith)
undone_at zero (b ∷ c ∷ rest) plain within slash = ap (λ d. without_escapes (d ∷ c ∷ rest)) slash
undone_at (suc n) (b ∷ c ∷ rest) plain within slash = plain_first b (c ∷ rest) _ (plain 0 (omega arith)) (undone_at n (c ∷ rest) (λ k lt. plain (suc k) (omega (arith, lt))) (omega (arith, within)) slash)

kept_to_end : (n : ℕ) (bytes : List ℕ) → ((k : ℕ) → k < n → (get_or bytes k 0 == 92) ≡ false) → length bytes ≤ n + 1 → without_escapes bytes ≡ bytes
kept_to_end n [] plain within = refl
kept_to_end n (b ∷ []) plain within = refl
kept_to_end zero (b ∷ c ∷ rest) plain within = absurd (omega arith)
kept_to_end (suc n) (b ∷ c ∷ rest) plain within = plain_first b (c ∷ rest) (c ∷ rest) (plain 0 (omega arith)) (kept_to_end n (c ∷ rest) (λ k lt. plain (suc k) (omega (arith, lt))) (omega (arith, within)))

slash_here : (b : ℕ) → is_byte 92 b ≡ true → b ≡ 92
slash_here b h = eqb-true b 92 h

-- the first backslash is that of an escape
pub first_escape : (bytes : List ℕ) (n : ℕ) → IsFirstByte (is_byte 92) bytes (Some n) → n + 1 < length bytes → IsFirstEscape bytes n
first_escape bytes n (before, here) within =
    let plain : (k : ℕ) → k < n → (get_or bytes k 0 == 92) ≡ false = λ k lt. not_true (get_or bytes k 0 == 92) (before.before k (omega arith) lt) in
    let slash = slash_here (get_or bytes n 0) here in
    let next : suc n ≡ n + 1 = omega arith in
    let behind : suc (suc n) ≡ n + 2 = omega arith in
    record { within = within; plain = plain; slash = slash; undone = undone_at n bytes plain within slash ∙ ap (λ k. take n bytes ++ get_or bytes k 0 ∷ without_escapes (drop (suc (suc n)) bytes)) next ∙ ap (λ k. take n bytes ++ get_or bytes (n + 1) 0 ∷ without_escapes (drop k bytes)) behind }

-- the first backslash is the last byte
pub last_slash : (bytes : List ℕ) (n : ℕ) → IsFirstByte (is_byte 92) bytes (Some n) → n + 1 ≡ length bytes → without_escapes bytes ≡ bytes
last_slash bytes n (before, here) e = kept_to_end n bytes (λ k lt. not_true (get_or bytes k 0 == 92) (before.before k (omega arith) lt)) (omega (arith, e))

-- there is no backslash
pub no_escape : (bytes : List ℕ) → IsFirstByte (is_byte 92) bytes None → without_escapes bytes ≡ bytes
no_escape bytes h = kept_to_end (length bytes) bytes (λ k lt. not_true (get_or bytes k 0 == 92) (h k (omega arith) lt)) (omega arith)

-- what stands in quotes from a place on, in parts
quoted_parts : (line : List ℕ) (start n : ℕ) → start < length line → get_or line start 0 ≡ 34 → ClosesAfter (drop (start + 1) line) n
    → (text : List ℕ) × (take n (drop (start + 1) line) ≡ escaped text) × (drop start line ≡ 34 ∷ (escaped text ++ 34 ∷ drop (start + 1 + n + 1) line)) × (n ≡ length (escaped text))
quoted_parts line start n within quote closes =
    let inside = drop (start + 1) line in
    let (text, front) = closes.front in
    let (more, is) = begins_as (drop n inside) closes.quote in
    let behind : more ≡ drop (start + 1 + n + 1) line =
    ap (drop 1) (sym is) ∙ drop-drop 1 n inside ∙ drop-drop (n + 1) (start + 1) line ∙ ap (λ k. drop k line) (omega arith) in
    let parts : inside ≡ escaped text ++ 34 ∷ drop (start + 1 + n + 1) line =
    sym (take-append-drop n inside) ∙ ap (λ l. l ++ drop n inside) front ∙ ap (λ l. escaped text ++ l) (is ∙ ap (λ l. 34 ∷ l) behind) in (
      text,
      front,
      drop_more line start 0 within ∙ ap (λ b. b ∷ inside) quote ∙ ap (λ l. 34 ∷ l) parts,
      let len : length (take n inside) ≡ n = omega (arith, length-take n inside, closes.within) in sym len ∙ ap length front,
    )

pub quoted_is_word : (line : List ℕ) (start n : ℕ) (text : List ℕ) (from : ℕ) → start < length line → get_or line start 0 ≡ 34 → ClosesAfter (drop (start + 1) line) n → ends_word (drop (start + 1 + n + 1) line) ≡ true
    → text ≡ without_escapes (take n (drop (start + 1) line)) → from ≡ start → IsWordAt line start (record { text = text; quoted = true; start = from; end = start + 1 + n + 1 })
quoted_is_word line start n text from within quote closes apart is here =
    let (inside, front, parts, len) = quoted_parts line start n within quote closes in
    let same : inside ≡ text = sym (undone inside) ∙ ap without_escapes (sym front) ∙ sym is in
    let rest = drop (start + 1 + n + 1) line in
    record {
      first = record {
        parts = parts ∙ ap (λ t. 34 ∷ (escaped t ++ 34 ∷ rest)) same ∙ ap (λ l. 34 ∷ l) (sym (append_assoc (escaped text) (34 ∷ []) rest));
        blank = refl;
        form = tt;
        apart = apart;
        starts = omega arith;
        ends = let count : n ≡ length (escaped text) = len ∙ ap (λ t. length (escaped t)) same in omega (arith, length-append (escaped text) (34 ∷ []));
      };
      within = omega (arith, closes.within, length-drop (start + 1) line);
      further = omega arith;
    }

closed_kind : (place b : ℕ) (rest : List ℕ) (p q r : Bool) → p ≡ false → ahead_at_byte Closed (kind_by p q r) place b (λ stage. ahead_of stage (place + 1) rest) ≡ None
closed_kind place b rest true q r h = cc
closed_kind place b rest false true r h = refl
closed_kind place b rest false false true h = refl
closed_kind place b rest false false false h = refl

closed_apart : (place : ℕ) (rest : List ℕ) → ends_word rest ≡ false → ahead_of Closed place rest ≡ None
closed_apart place [] h = cc
closed_apart place (b ∷ rest) h = closed_kind place b rest (is_blank b) (b == 34) (b == 92) h

pub quoted_is_none : (line : List ℕ) (start n : ℕ) → start < length line → get_or line start 0 ≡ 34 → ClosesAfter (drop (start + 1) line) n → ends_word (drop (start + 1 + n + 1) line) ≡ false → HasNoWords line start
quoted_is_none line start n within quote closes apart =
    let (inside, front, parts, len) = quoted_parts line start n within quote closes in
    let rest = drop (start + 1 + n + 1) line in
    let at = start + 1 + length (escaped inside) in
    ap (ahead_of Between start) parts
    ∙ ap (option_map (begun true start)) (
    quoted_ahead (start + 1) at inside (34 ∷ rest) refl
    ∙ ap (λ o. option_map (prefixed inside) (option_map (closed (at + 1)) o)) (closed_apart (at + 1) rest apart))
