-- The reader of words finds exactly the words of the grammar.
use Rattle.std.proofs.Common.{◌≡◌, ℕ, ◌+◌, Bool, true, false, List, [], ◌∷◌, ◌++◌, length, Option, Some, None, sym, ap, ◌∙◌, refl, arith, append_assoc, append-nil, length-append, subst}
use Rattle.std.specs.Prelude.{◌==◌, if◌then◌else◌, option_map, ◌↔◌}
use Rattle.std.specs.List.{list_all}
use Rattle.std.proofs.lemmas.Bool.Decides.{nat_tests}
use Rattle.std.proofs.lemmas.Bool.{eqb-true}
use Rattle.pe_lines.specs.Words.{Word, is_blank, Kind, Blank, Quote, Backslash, Other, kind_of, Stage, Between, Bare, Quoted, Escaped, Closed, Ahead, closed, longer, begun, ahead_at_byte, ahead_of, words_from, words_of}
use Rattle.pe_lines.specs.Grammar.{is_escaped, escaped, written, is_bare, IsBareText, HasForm, ends_word, StandsFirst, AreWordsFrom, AreWords}
use Rattle.pe_lines.proofs.Ahead.{kind_by, opened, with_word, option_map-comp, and_first, and_rest, first_bare_byte, gap_ahead, bare_ahead, quote_ahead}

-- ---- each word of the grammar is found

-- a word is read to its end, by its form
form_ahead : (place start : ℕ) (text rest : List ℕ) (quoted : Bool) (end : ℕ) → start ≡ place → HasForm quoted text → ends_word rest ≡ true → end ≡ place + length (if quoted then 34 ∷ escaped text ++ 34 ∷ [] else text)
    → ahead_of Between place ((if quoted then 34 ∷ escaped text ++ 34 ∷ [] else text) ++ rest) ≡ option_map (with_word place (record { text = text; quoted = quoted; start = start; end = end })) (ahead_of Between end rest)
form_ahead place start text rest true end s form apart e =
    let after : end ≡ place + 1 + length (escaped text) + 1 = omega (arith, length-append (escaped text) (34 ∷ [])) in
    ap (λ line. ahead_of Between place (34 ∷ line)) (append_assoc (escaped text) (34 ∷ []) rest)
    ∙ ap (option_map (begun true place)) (quote_ahead (place + 1) end text rest after apart)
    ∙ option_map-comp (begun true place) (opened (text ++ []) end) (ahead_of Between end rest)
    ∙ ap (λ t. option_map (with_word place (record { text = t; quoted = true; start = place; end = end })) (ahead_of Between end rest)) (append-nil text)
    ∙ ap (λ n. option_map (with_word place (record { text = text; quoted = true; start = n; end = end })) (ahead_of Between end rest)) (sym s)
form_ahead place start [] rest false end s form apart e = absurd (omega (arith, form.some))
form_ahead place start (b ∷ text) rest false end s form apart e =
    let after : end ≡ place + 1 + length text = omega arith in
    first_bare_byte place b (λ stage. ahead_of stage (place + 1) (text ++ rest)) (is_blank b) (b == 34) (b == 92) (and_first (is_bare b) (list_all is_bare text) form.plain)
    ∙ ap (option_map (λ ahead. begun false place (longer b ahead))) (bare_ahead (place + 1) end text rest after (and_rest (is_bare b) (list_all is_bare text) form.plain) apart)
    ∙ option_map-comp (λ ahead. begun false place (longer b ahead)) (opened text end) (ahead_of Between end rest)
    ∙ ap (λ n. option_map (with_word place (record { text = b ∷ text; quoted = false; start = n; end = end })) (ahead_of Between end rest)) (sym s)

-- the first word and what stands behind it
pub word_ahead : (place : ℕ) (line : List ℕ) (word : Word) (gap rest : List ℕ) → StandsFirst place line word gap rest
    → ahead_of Between place line ≡ option_map (with_word word.start word) (ahead_of Between word.end rest)
word_ahead place line word gap rest first =
    ap (ahead_of Between place) first.parts
    ∙ gap_ahead place word.start gap (written word ++ rest) first.starts first.blank
    ∙ form_ahead word.start word.start word.text rest word.quoted word.end refl first.form first.apart first.ends

found_from : (place : ℕ) (line : List ℕ) (words : List Word) → AreWordsFrom place line words → option_map (λ (a : Ahead). a.words) (ahead_of Between place line) ≡ Some words
found_from place line [] blank =
    ap (λ l. option_map (λ (a : Ahead). a.words) (ahead_of Between place l)) (sym (append-nil line))
    ∙ ap (option_map (λ (a : Ahead). a.words)) (gap_ahead place (place + length line) line [] refl blank)
found_from place line (word ∷ words) (gap, rest, first, more) =
    ap (option_map (λ (a : Ahead). a.words)) (word_ahead place line word gap rest first)
    ∙ option_map-comp (λ (a : Ahead). a.words) (with_word word.start word) (ahead_of Between word.end rest)
    ∙ sym (option_map-comp (λ ws. word ∷ ws) (λ (a : Ahead). a.words) (ahead_of Between word.end rest))
    ∙ ap (option_map (λ ws. word ∷ ws)) (found_from word.end rest words more)

-- ---- each word that is found is one of the grammar

-- what a byte is, by its kind
IsKind : Kind → ℕ → Type 0
IsKind Blank b = is_blank b ≡ true
IsKind Quote b = b ≡ 34
IsKind Backslash b = (is_bare b ≡ true) × (b ≡ 92)
IsKind Other b = (is_bare b ≡ true) × (is_escaped b ≡ false)

kind_is_by : (b : ℕ) (p q r : Bool) → p ≡ is_blank b → q ≡ (b == 34) → r ≡ (b == 92) → IsKind (kind_by p q r) b
unfolding IsKind
kind_is_by b true q r e f g = sym e
kind_is_by b false true r e f g = eqb-true b 34 (sym f)
kind_is_by b false false true e f g = (rw (← e, ← f) refl, eqb-true b 92 (sym g))
kind_is_by b false false false e f g = (rw (← e, ← f) refl, rw (← f, ← g) refl)

kind_is : (b : ℕ) → IsKind (kind_of b) b
kind_is b = kind_is_by b (is_blank b) (b == 34) (b == 92) refl refl refl

-- the open word goes on with these bytes, and the rest behind it is words
record GoesOn (place : ℕ) (line : List ℕ) (ahead : Ahead) (bytes rest : List ℕ) : Type 0 where
  parts : line ≡ bytes ++ rest
  apart : ends_word rest ≡ true
  ends : ahead.end ≡ place + length bytes
  behind : AreWordsFrom ahead.end rest ahead.words

one_on : (place b : ℕ) (line : List ℕ) (ahead : Ahead) (bytes rest : List ℕ) → GoesOn (place + 1) line ahead bytes rest → GoesOn place (b ∷ line) ahead (b ∷ bytes) rest
one_on place b line ahead bytes rest on = record {
  parts = ap (λ l. b ∷ l) on.parts;
  apart = on.apart;
  ends = omega (arith, on.ends);
  behind = on.behind;
}

-- the same with a longer text of the open word
longer_on : (place c : ℕ) (line : List ℕ) (ahead : Ahead) (bytes rest : List ℕ) → GoesOn place line ahead bytes rest → GoesOn place line (longer c ahead) bytes rest
longer_on place c line ahead bytes rest on = record { parts = on.parts; apart = on.apart; ends = on.ends; behind = on.behind }

-- what is found is right, at each stage
IsRight : Stage → ℕ → List ℕ → Ahead → Type 0
IsRight Between place line ahead = AreWordsFrom place line ahead.words
IsRight Bare place line ahead = (rest : List ℕ) × GoesOn place line ahead ahead.text rest × (list_all is_bare ahead.text ≡ true)
IsRight Quoted place line ahead = (rest : List ℕ) × GoesOn place line ahead (escaped ahead.text ++ 34 ∷ []) rest
IsRight Escaped place line ahead = (b : ℕ) × (text : List ℕ) × (rest : List ℕ) × (ahead.text ≡ b ∷ text) × (is_escaped b ≡ true) × GoesOn place line ahead (b ∷ escaped text ++ 34 ∷ []) rest
IsRight Closed place line ahead = (ends_word line ≡ true) × AreWordsFrom place line ahead.words

mapped : {A B : Type 0} (f : A → B) (o : Option A) (b : B) → option_map f o ≡ Some b → (a : A) × (o ≡ Some a) × (f a ≡ b)
mapped f None b e = cc
mapped f (Some a) b e = (a, refl, cc)

blank_in_front : (place b : ℕ) (line : List ℕ) (words : List Word) → is_blank b ≡ true → AreWordsFrom (place + 1) line words → AreWordsFrom place (b ∷ line) words
blank_in_front place b line [] h blank = rw h blank
blank_in_front place b line (word ∷ words) h (gap, rest, first, more) = (
  b ∷ gap,
  rest,
  record {
    parts = ap (λ l. b ∷ l) first.parts;
    blank = rw h first.blank;
    form = first.form;
    apart = first.apart;
    starts = omega (arith, first.starts);
    ends = first.ends;
  },
  more,
)

-- a word that begins here
word_first : (place : ℕ) (line : List ℕ) (ahead : Ahead) (quoted : Bool) (bytes rest : List ℕ) → GoesOn place line ahead bytes rest → HasForm quoted ahead.text → bytes ≡ (if quoted then 34 ∷ escaped ahead.text ++ 34 ∷ [] else ahead.text)
    → AreWordsFrom place line (begun quoted place ahead).words
word_first place line ahead quoted bytes rest on form is = (
  [],
  rest,
  record {
    parts = on.parts ∙ ap (λ l. l ++ rest) is;
    blank = refl;
    form = form;
    apart = on.apart;
    starts = omega arith;
    ends = on.ends ∙ ap (λ l. place + length l) is;
  },
  on.behind,
)

escaped_escape : (b : ℕ) (text : List ℕ) → is_escaped b ≡ true → escaped (b ∷ text) ≡ 92 ∷ b ∷ escaped text
escaped_escape b text h = rw h refl

escaped_byte : (b : ℕ) (text : List ℕ) → is_escaped b ≡ false → escaped (b ∷ text) ≡ b ∷ escaped text
escaped_byte b text h = rw h refl

nothing_on : (place : ℕ) (line : List ℕ) (ahead : Ahead) → ends_word line ≡ true → ahead.end ≡ place → AreWordsFrom place line ahead.words → GoesOn place line ahead [] line
nothing_on place line ahead apart e words = record { parts = refl; apart = apart; ends = omega arith; behind = subst (λ k. AreWordsFrom k line ahead.words) (sym e) words }

right_between : (place b : ℕ) (line : List ℕ) (ahead : Ahead) (kind : Kind) (behind : Stage → Option Ahead) → IsKind kind b → ((stage : Stage) (next : Ahead) → behind stage ≡ Some next → IsRight stage (place + 1) line next)
    → ahead_at_byte Between kind place b behind ≡ Some ahead → IsRight Between place (b ∷ line) ahead
unfolding IsKind IsRight
right_between place b line ahead Blank behind is right e = blank_in_front place b line ahead.words is (right Between ahead e)
right_between place b line ahead Quote behind is right e =
    let (next, found, same) = mapped (begun true place) (behind Quoted) ahead e in
    let (rest, on) = right Quoted next found in
    subst (λ (a : Ahead). AreWordsFrom place (b ∷ line) a.words) same (word_first place (b ∷ line) next true (b ∷ escaped next.text ++ 34 ∷ []) rest (one_on place b line next _ rest on) tt (ap (λ c. c ∷ (escaped next.text ++ 34 ∷ [])) is))
right_between place b line ahead Backslash behind is right e =
    let (next, found, same) = mapped (λ (a : Ahead). begun false place (longer b a)) (behind Bare) ahead e in
    let (rest, on, plain) = right Bare next found in
    let bare : IsBareText (b ∷ next.text) = record { some = omega arith; plain = rw (is.0) plain } in
    subst (λ (a : Ahead). AreWordsFrom place (b ∷ line) a.words) same (word_first place (b ∷ line) (longer b next) false (b ∷ next.text) rest (longer_on place b (b ∷ line) next _ rest (one_on place b line next _ rest on)) bare refl)
right_between place b line ahead Other behind is right e =
    let (next, found, same) = mapped (λ (a : Ahead). begun false place (longer b a)) (behind Bare) ahead e in
    let (rest, on, plain) = right Bare next found in
    let bare : IsBareText (b ∷ next.text) = record { some = omega arith; plain = rw (is.0) plain } in
    subst (λ (a : Ahead). AreWordsFrom place (b ∷ line) a.words) same (word_first place (b ∷ line) (longer b next) false (b ∷ next.text) rest (longer_on place b (b ∷ line) next _ rest (one_on place b line next _ rest on)) bare refl)

bare_on : (place b : ℕ) (line : List ℕ) (next : Ahead) → is_bare b ≡ true → IsRight Bare (place + 1) line next → IsRight Bare place (b ∷ line) (longer b next)
unfolding IsRight
bare_on place b line next is (rest, on, plain) = (rest, longer_on place b (b ∷ line) next (b ∷ next.text) rest (one_on place b line next next.text rest on), rw is plain)

right_bare : (place b : ℕ) (line : List ℕ) (ahead : Ahead) (kind : Kind) (behind : Stage → Option Ahead) → IsKind kind b → ((stage : Stage) (next : Ahead) → behind stage ≡ Some next → IsRight stage (place + 1) line next)
    → ahead_at_byte Bare kind place b behind ≡ Some ahead → IsRight Bare place (b ∷ line) ahead
unfolding IsKind IsRight
right_bare place b line ahead Blank behind is right e =
    let (next, found, same) = mapped (closed place) (behind Between) ahead e in
    subst (IsRight Bare place (b ∷ line)) same (b ∷ line, nothing_on place (b ∷ line) (closed place next) is refl (blank_in_front place b line next.words is (right Between next found)), refl)
right_bare place b line ahead Quote behind is right e = cc
right_bare place b line ahead Backslash behind is right e =
    let (next, found, same) = mapped (longer b) (behind Bare) ahead e in
    subst (IsRight Bare place (b ∷ line)) same (bare_on place b line next is.0 (right Bare next found))
right_bare place b line ahead Other behind is right e =
    let (next, found, same) = mapped (longer b) (behind Bare) ahead e in
    subst (IsRight Bare place (b ∷ line)) same (bare_on place b line next is.0 (right Bare next found))

plain_on : (place b : ℕ) (line : List ℕ) (next : Ahead) → is_escaped b ≡ false → IsRight Quoted (place + 1) line next → IsRight Quoted place (b ∷ line) (longer b next)
unfolding IsRight
plain_on place b line next is (rest, on) = (
  rest,
  subst (λ l. GoesOn place (b ∷ line) (longer b next) (l ++ 34 ∷ []) rest) (sym (escaped_byte b next.text is))
      (longer_on place b (b ∷ line) next (b ∷ escaped next.text ++ 34 ∷ []) rest (one_on place b line next (escaped next.text ++ 34 ∷ []) rest on)),
)

blank_is_plain : (b : ℕ) → is_blank b ≡ true → is_escaped b ≡ false
blank_is_plain b h = grind (arith, nat_tests)

right_quoted : (place b : ℕ) (line : List ℕ) (ahead : Ahead) (kind : Kind) (behind : Stage → Option Ahead) → IsKind kind b → ((stage : Stage) (next : Ahead) → behind stage ≡ Some next → IsRight stage (place + 1) line next)
    → ahead_at_byte Quoted kind place b behind ≡ Some ahead → IsRight Quoted place (b ∷ line) ahead
unfolding IsKind IsRight
right_quoted place b line ahead Blank behind is right e =
    let (next, found, same) = mapped (longer b) (behind Quoted) ahead e in
    subst (IsRight Quoted place (b ∷ line)) same (plain_on place b line next (blank_is_plain b is) (right Quoted next found))
right_quoted place b line ahead Quote behind is right e =
    let (next, found, same) = mapped (closed (place + 1)) (behind Closed) ahead e in
    let (apart, words) = right Closed next found in
    subst (IsRight Quoted place (b ∷ line)) same
    (line, subst (λ c. GoesOn place (b ∷ line) (closed (place + 1) next) (c ∷ []) line) is (one_on place b line (closed (place + 1) next) [] line (nothing_on (place + 1) line (closed (place + 1) next) apart refl words)))
right_quoted place b line ahead Backslash behind is right e =
    let (c, text, rest, same, escape, on) = right Escaped ahead e in
    let as_text : 92 ∷ c ∷ escaped text ≡ escaped ahead.text = sym (escaped_escape c text escape) ∙ ap escaped (sym same) in
    let bytes : b ∷ c ∷ escaped text ++ 34 ∷ [] ≡ escaped ahead.text ++ 34 ∷ [] = ap (λ d. d ∷ c ∷ escaped text ++ 34 ∷ []) is.1 ∙ ap (λ l. l ++ 34 ∷ []) as_text in
    (rest, subst (λ l. GoesOn place (b ∷ line) ahead l rest) bytes (one_on place b line ahead (c ∷ escaped text ++ 34 ∷ []) rest on))
right_quoted place b line ahead Other behind is right e =
    let (next, found, same) = mapped (longer b) (behind Quoted) ahead e in
    subst (IsRight Quoted place (b ∷ line)) same (plain_on place b line next is.1 (right Quoted next found))

escape_on : (place b : ℕ) (line : List ℕ) (next : Ahead) → is_escaped b ≡ true → IsRight Quoted (place + 1) line next → IsRight Escaped place (b ∷ line) (longer b next)
unfolding IsRight
escape_on place b line next is (rest, on) =
    (b, next.text, rest, refl, is, longer_on place b (b ∷ line) next (b ∷ escaped next.text ++ 34 ∷ []) rest (one_on place b line next (escaped next.text ++ 34 ∷ []) rest on))

right_escaped : (place b : ℕ) (line : List ℕ) (ahead : Ahead) (kind : Kind) (behind : Stage → Option Ahead) → IsKind kind b → ((stage : Stage) (next : Ahead) → behind stage ≡ Some next → IsRight stage (place + 1) line next)
    → ahead_at_byte Escaped kind place b behind ≡ Some ahead → IsRight Escaped place (b ∷ line) ahead
unfolding IsKind
right_escaped place b line ahead Blank behind is right e = cc
right_escaped place b line ahead Quote behind is right e =
    let (next, found, same) = mapped (longer b) (behind Quoted) ahead e in
    subst (IsRight Escaped place (b ∷ line)) same (escape_on place b line next (ap is_escaped is) (right Quoted next found))
right_escaped place b line ahead Backslash behind is right e =
    let (next, found, same) = mapped (longer b) (behind Quoted) ahead e in
    subst (IsRight Escaped place (b ∷ line)) same (escape_on place b line next (ap is_escaped is.1) (right Quoted next found))
right_escaped place b line ahead Other behind is right e = cc

right_closed : (place b : ℕ) (line : List ℕ) (ahead : Ahead) (kind : Kind) (behind : Stage → Option Ahead) → IsKind kind b → ((stage : Stage) (next : Ahead) → behind stage ≡ Some next → IsRight stage (place + 1) line next)
    → ahead_at_byte Closed kind place b behind ≡ Some ahead → IsRight Closed place (b ∷ line) ahead
unfolding IsKind IsRight
right_closed place b line ahead Blank behind is right e = (is, blank_in_front place b line ahead.words is (right Between ahead e))
right_closed place b line ahead Quote behind is right e = cc
right_closed place b line ahead Backslash behind is right e = cc
right_closed place b line ahead Other behind is right e = cc

right_at_end : (stage : Stage) (place : ℕ) (ahead : Ahead) → ahead_of stage place [] ≡ Some ahead → IsRight stage place [] ahead
unfolding IsRight
right_at_end Between place ahead e = let same : record { text = []; end = place; words = [] } ≡ ahead = cc in subst (IsRight Between place []) same refl
right_at_end Bare place ahead e = let same : record { text = []; end = place; words = [] } ≡ ahead = cc in subst (IsRight Bare place []) same ([], nothing_on place [] (record { text = []; end = place; words = [] }) refl refl refl, refl)
right_at_end Quoted place ahead e = cc
right_at_end Escaped place ahead e = cc
right_at_end Closed place ahead e = let same : record { text = []; end = place; words = [] } ≡ ahead = cc in subst (IsRight Closed place []) same (refl, refl)

right_at_byte : (stage : Stage) (place b : ℕ) (line : List ℕ) (ahead : Ahead) → ((next : Stage) (more : Ahead) → ahead_of next (place + 1) line ≡ Some more → IsRight next (place + 1) line more)
    → ahead_of stage place (b ∷ line) ≡ Some ahead → IsRight stage place (b ∷ line) ahead
right_at_byte Between place b line ahead right e = right_between place b line ahead (kind_of b) (λ next. ahead_of next (place + 1) line) (kind_is b) right e
right_at_byte Bare place b line ahead right e = right_bare place b line ahead (kind_of b) (λ next. ahead_of next (place + 1) line) (kind_is b) right e
right_at_byte Quoted place b line ahead right e = right_quoted place b line ahead (kind_of b) (λ next. ahead_of next (place + 1) line) (kind_is b) right e
right_at_byte Escaped place b line ahead right e = right_escaped place b line ahead (kind_of b) (λ next. ahead_of next (place + 1) line) (kind_is b) right e
right_at_byte Closed place b line ahead right e = right_closed place b line ahead (kind_of b) (λ next. ahead_of next (place + 1) line) (kind_is b) right e

right_from : (stage : Stage) (place : ℕ) (line : List ℕ) (ahead : Ahead) → ahead_of stage place line ≡ Some ahead → IsRight stage place line ahead
right_from stage place [] ahead e = right_at_end stage place ahead e
right_from stage place (b ∷ line) ahead e = right_at_byte stage place b line ahead (λ next more f. right_from next (place + 1) line more f) e

-- the two say the same
pub words_agree : (line : List ℕ) (words : List Word) → (words_of line ≡ Some words) ↔ AreWords line words
unfolding words_of words_from IsRight
words_agree line words = (
  λ e. let (ahead, found, same) = mapped (λ (a : Ahead). a.words) (ahead_of Between 0 line) words e in subst (AreWordsFrom 0 line) same (right_from Between 0 line ahead found),
  λ h. found_from 0 line words h,
)
