-- What the reader of words finds ahead of it, over whole texts.
use Rattle.std.proofs.Common.{◌≡◌, ℕ, ◌+◌, Bool, true, false, not, List, [], ◌∷◌, ◌++◌, length, Option, Some, None, sym, ap, ◌∙◌, refl, arith, subst}
use Rattle.std.specs.Prelude.{◌==◌, ◌||◌, ◌&&◌, if◌then◌else◌, option_map}
use Rattle.std.specs.List.{list_all}
use Rattle.std.proofs.lemmas.Bool.{eqb-true}
use Rattle.pe_lines.specs.Words.{Word, is_blank, Kind, Blank, Quote, Backslash, Other, kind_of, Stage, Between, Bare, Quoted, Escaped, Closed, Ahead, closed, longer, begun, ahead_at_byte, ahead_of}
use Rattle.pe_lines.specs.Grammar.{is_escaped, escaped, is_bare, ends_word}

-- the kind by the three tests
abbrev pub kind_by : Bool → Bool → Bool → Kind
kind_by blank quote backslash = if blank then Blank else if quote then Quote else if backslash then Backslash else Other

-- the open word has this text and ends here
abbrev pub opened : List ℕ → ℕ → Ahead → Ahead
opened text end ahead = record { text = text; end = end; words = ahead.words }

-- the open word has this text in front
abbrev pub prefixed : List ℕ → Ahead → Ahead
prefixed text ahead = record ahead { text = text ++ ahead.text }

-- a word stands here
abbrev pub with_word : ℕ → Word → Ahead → Ahead
with_word place word ahead = record { text = []; end = place; words = word ∷ ahead.words }

pub option_map-comp : {A B C : Type 0} (g : B → C) (f : A → B) (o : Option A) → option_map g (option_map f o) ≡ option_map (λ a. g (f a)) o
option_map-comp g f None = refl
option_map-comp g f (Some a) = refl

option_map-same : (o : Option Ahead) → o ≡ option_map (prefixed []) o
option_map-same None = refl
option_map-same (Some a) = refl

-- and-tests
pub and_first : (a b : Bool) → (a && b) ≡ true → a ≡ true
and_first true b h = refl
and_first false b h = h

pub and_rest : (a b : Bool) → (a && b) ≡ true → b ≡ true
and_rest true b h = h
and_rest false b h = cc

-- one byte on

blank_kind : (p q r : Bool) → p ≡ true → kind_by p q r ≡ Blank
blank_kind true q r h = refl
blank_kind false q r h = cc

pub kind_of_blank : (b : ℕ) → is_blank b ≡ true → kind_of b ≡ Blank
kind_of_blank b h = blank_kind (is_blank b) (b == 34) (b == 92) h

pub bare_byte : (place b : ℕ) (behind : Stage → Option Ahead) (p q r : Bool) → not (p || q) ≡ true → ahead_at_byte Bare (kind_by p q r) place b behind ≡ option_map (longer b) (behind Bare)
bare_byte place b behind true q r h = cc
bare_byte place b behind false true r h = cc
bare_byte place b behind false false true h = refl
bare_byte place b behind false false false h = refl

pub first_bare_byte : (place b : ℕ) (behind : Stage → Option Ahead) (p q r : Bool) → not (p || q) ≡ true → ahead_at_byte Between (kind_by p q r) place b behind ≡ option_map (λ ahead. begun false place (longer b ahead)) (behind Bare)
first_bare_byte place b behind true q r h = cc
first_bare_byte place b behind false true r h = cc
first_bare_byte place b behind false false true h = refl
first_bare_byte place b behind false false false h = refl

-- a blank byte at each stage where one may stand
pub between_blank : (place b : ℕ) (line : List ℕ) → is_blank b ≡ true → ahead_of Between place (b ∷ line) ≡ ahead_of Between (place + 1) line
between_blank place b line h = ap (λ k. ahead_at_byte Between k place b (λ next. ahead_of next (place + 1) line)) (kind_of_blank b h)

bare_blank : (place b : ℕ) (line : List ℕ) → is_blank b ≡ true → ahead_of Bare place (b ∷ line) ≡ option_map (closed place) (ahead_of Between (place + 1) line)
bare_blank place b line h = ap (λ k. ahead_at_byte Bare k place b (λ next. ahead_of next (place + 1) line)) (kind_of_blank b h)

closed_blank : (place b : ℕ) (line : List ℕ) → is_blank b ≡ true → ahead_of Closed place (b ∷ line) ≡ ahead_of Between (place + 1) line
closed_blank place b line h = ap (λ k. ahead_at_byte Closed k place b (λ next. ahead_of next (place + 1) line)) (kind_of_blank b h)

-- a gap is passed over
pub gap_ahead : (place next : ℕ) (gap rest : List ℕ) → next ≡ place + length gap → list_all is_blank gap ≡ true → ahead_of Between place (gap ++ rest) ≡ ahead_of Between next rest
gap_ahead place next [] rest e h = ap (λ k. ahead_of Between k rest) (omega arith)
gap_ahead place next (b ∷ gap) rest e h =
    between_blank place b (gap ++ rest) (and_first (is_blank b) (list_all is_blank gap) h)
    ∙ gap_ahead (place + 1) next gap rest (omega arith) (and_rest (is_blank b) (list_all is_blank gap) h)

-- a bare word is read to its end
pub bare_ahead : (place next : ℕ) (text rest : List ℕ) → next ≡ place + length text → list_all is_bare text ≡ true → ends_word rest ≡ true → ahead_of Bare place (text ++ rest) ≡ option_map (opened text next) (ahead_of Between next rest)
bare_ahead place next [] [] e h apart = let same : place ≡ next = omega arith in ap (λ k. Some (record { text = []; end = k; words = [] })) same
bare_ahead place next [] (b ∷ rest) e h apart =
    let same : place ≡ next = omega arith in
    bare_blank place b rest apart ∙ ap (λ k. option_map (closed k) (ahead_of Between (k + 1) rest)) same
    ∙ ap (option_map (opened [] next)) (sym (between_blank next b rest apart))
bare_ahead place next (b ∷ text) rest e h apart =
    bare_byte place b (λ stage. ahead_of stage (place + 1) (text ++ rest)) (is_blank b) (b == 34) (b == 92) (and_first (is_bare b) (list_all is_bare text) h)
    ∙ ap (option_map (longer b)) (bare_ahead (place + 1) next text rest (omega arith) (and_rest (is_bare b) (list_all is_bare text) h) apart)
    ∙ option_map-comp (longer b) (opened text next) (ahead_of Between next rest)

-- behind a closing quote
closed_ahead : (place : ℕ) (rest : List ℕ) → ends_word rest ≡ true → option_map (closed place) (ahead_of Closed place rest) ≡ option_map (closed place) (ahead_of Between place rest)
closed_ahead place [] apart = refl
closed_ahead place (b ∷ rest) apart = ap (option_map (closed place)) (closed_blank place b rest apart ∙ sym (between_blank place b rest apart))

-- what stands in quotes is read to any place in it
escape_byte : (place b : ℕ) (line : List ℕ) (p q : Bool) → p ≡ (b == 34) → q ≡ (b == 92) → (p || q) ≡ true → ahead_of Escaped place (b ∷ line) ≡ option_map (longer b) (ahead_of Quoted (place + 1) line)
escape_byte place b line true q e f h = let is : b ≡ 34 = eqb-true b 34 (sym e) in subst (λ c. ahead_of Escaped place (c ∷ line) ≡ option_map (longer c) (ahead_of Quoted (place + 1) line)) (sym is) refl
escape_byte place b line false true e f h = let is : b ≡ 92 = eqb-true b 92 (sym f) in subst (λ c. ahead_of Escaped place (c ∷ line) ≡ option_map (longer c) (ahead_of Quoted (place + 1) line)) (sym is) refl
escape_byte place b line false false e f h = cc

plain_byte : (place b : ℕ) (behind : Stage → Option Ahead) (p q r : Bool) → (q || r) ≡ false → ahead_at_byte Quoted (kind_by p q r) place b behind ≡ option_map (longer b) (behind Quoted)
plain_byte place b behind true q r h = refl
plain_byte place b behind false true r h = cc
plain_byte place b behind false false true h = cc
plain_byte place b behind false false false h = refl

pub quoted_byte : (place b : ℕ) (line : List ℕ) → is_escaped b ≡ false → ahead_of Quoted place (b ∷ line) ≡ option_map (longer b) (ahead_of Quoted (place + 1) line)
quoted_byte place b line h = plain_byte place b (λ stage. ahead_of stage (place + 1) line) (is_blank b) (b == 34) (b == 92) h

pub quoted_escape : (place b : ℕ) (line : List ℕ) → is_escaped b ≡ true → ahead_of Quoted place (92 ∷ b ∷ line) ≡ option_map (longer b) (ahead_of Quoted (place + 1 + 1) line)
quoted_escape place b line h = escape_byte (place + 1) b line (b == 34) (b == 92) refl refl h

one_more : (place next b : ℕ) (text line : List ℕ) (escape : Bool) → is_escaped b ≡ escape → next ≡ place + length (if escape then 92 ∷ b ∷ escaped text else b ∷ escaped text)
    → ((place next : ℕ) → next ≡ place + length (escaped text) → ahead_of Quoted place (escaped text ++ line) ≡ option_map (prefixed text) (ahead_of Quoted next line))
    → ahead_of Quoted place ((if escape then 92 ∷ b ∷ escaped text else b ∷ escaped text) ++ line) ≡ option_map (prefixed (b ∷ text)) (ahead_of Quoted next line)
one_more place next b text line true e at more =
    quoted_escape place b (escaped text ++ line) e ∙ ap (option_map (longer b)) (more (place + 1 + 1) next (omega arith)) ∙ option_map-comp (longer b) (prefixed text) (ahead_of Quoted next line)
one_more place next b text line false e at more =
    quoted_byte place b (escaped text ++ line) e ∙ ap (option_map (longer b)) (more (place + 1) next (omega arith)) ∙ option_map-comp (longer b) (prefixed text) (ahead_of Quoted next line)

pub quoted_ahead : (place next : ℕ) (text line : List ℕ) → next ≡ place + length (escaped text) → ahead_of Quoted place (escaped text ++ line) ≡ option_map (prefixed text) (ahead_of Quoted next line)
quoted_ahead place next [] line e = ap (λ k. ahead_of Quoted k line) (omega arith) ∙ option_map-same (ahead_of Quoted next line)
quoted_ahead place next (b ∷ text) line e = one_more place next b text line (is_escaped b) refl e (λ place next e. quoted_ahead place next text line e)

-- a text in quotes is read to its closing quote
pub quote_ahead : (place next : ℕ) (text rest : List ℕ) → next ≡ place + length (escaped text) + 1 → ends_word rest ≡ true → ahead_of Quoted place (escaped text ++ 34 ∷ rest) ≡ option_map (opened (text ++ []) next) (ahead_of Between next rest)
quote_ahead place next text rest e apart =
    let at = place + length (escaped text) in
    let same : at + 1 ≡ next = omega arith in
    quoted_ahead place at text (34 ∷ rest) refl
    ∙ ap (λ k. option_map (prefixed text) (option_map (closed k) (ahead_of Closed k rest))) same
    ∙ ap (option_map (prefixed text)) (closed_ahead next rest apart)
    ∙ option_map-comp (prefixed text) (closed next) (ahead_of Between next rest)
