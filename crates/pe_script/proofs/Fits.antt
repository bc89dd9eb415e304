-- What a line says fits: its time is in range, its texts are plain, and its numbers are names.
use Rattle.std.proofs.Common.{◌≡◌, ℕ, ◌≤◌, Bool, true, false, not, ◌&&◌, ◌||◌, List, [], ◌∷◌, ◌++◌, Option, Some, None, is_some, is_none, option_map, option_and_then, refl, ◌∙◌, ap, codes, bytes_eq, find, cond, if◌then◌else◌, nat_le, IsTrue, fold, arith, subst}
use Rattle.std.specs.Prelude.{All, ◌==◌}
use Rattle.std.specs.List.{list_any}
use Rattle.std.proofs.lemmas.Bool.Decides.{nat_tests}
use Rattle.std.proofs.lemmas.List.Elements.{All-head, All-tail}
use Rattle.std.proofs.lemmas.List.Folds.{list_any-append}
use Rattle.pe_base.specs.declared.limits.TheConstants.{TIME_LIMIT}
use Rattle.pe_lines.specs.Words.{Word, is_bad_byte, has_bad_byte}
use Rattle.pe_events.specs.declared.event.Event.{Event}
use Rattle.pe_events.specs.declared.event.Event.TheVariants as event
use Rattle.pe_events.specs.declared.event.EventLife.{EventLife}
use Rattle.pe_events.specs.declared.event.EventLife.TheVariants as life
use Rattle.pe_events.specs.declared.event.Outcome.{Outcome}
use Rattle.pe_events.specs.declared.event.Outcome.TheVariants as outcome
use Rattle.pe_events.specs.Fitting.{is_text, is_text_or_none, is_name, is_span, is_span_or_none, is_life, is_embedding, is_fitting}
use Rattle.pe_events.specs.Timed.{Timed}
use Rattle.pe_script.specs.Numerals.{bare, positive, is_zero, time_of, span_of, named_by, object}
use Rattle.pe_script.specs.Names.{named_in, is_keyword, keyword_in, input_kinds, states, attribute_names}
use Rattle.pe_script.specs.Verbs.{frame_word, text_unless, OptionName, At, Allow, Sandbox, Header, Options, no_options, option_names, header_behind, with_text, with_name, with_word, options, only_header, headers, fits, embedding, read_open, read_embed, read_nav, read_attr, read_on_frame, read_with_name, read_input, read_drop, read_life, lasting_outcomes, read_outcome, read_answer, read_state, read_state_for, read_setting, read_set, read_post, read_deliver, read_tick, verbs, event_of}
use Rattle.pe_script.specs.Reading.{timed_of}
use Rattle.pe_script.proofs.Digits.{positive-range}

-- ---- tests

and-true : (a b : Bool) → a ≡ true → b ≡ true → (a && b) ≡ true
and-true true true x y = refl
and-true true false x y = y
and-true false b x y = x

in-range : (n most : ℕ) → 1 ≤ n → n ≤ most → (nat_le 1 n && nat_le n most) ≡ true
in-range n most low high = and-true (nat_le 1 n) (nat_le n most) (grind (arith, nat_tests)) (grind (arith, nat_tests))

-- ---- plain words

abbrev pub IsPlain : Word → Type 0
IsPlain word = has_bad_byte word.text ≡ false

abbrev pub ArePlain : List Word → Type 0
ArePlain [] = Unit {0}
ArePlain (word ∷ words) = IsPlain word × ArePlain words

are-plain : (words : List Word) → All IsPlain words → ArePlain words
are-plain [] h = tt
are-plain (word ∷ words) h = (All-head IsPlain word words h, are-plain words (All-tail IsPlain word words h))

bare-fits : (word : Word) (text : List ℕ) → IsPlain word → bare word ≡ Some text → is_text text ≡ true
bare-fits word text h e = by_quotes word.quoted e
  where
    by_quotes : (q : Bool) → (if q then None else Some word.text) ≡ Some text → is_text text ≡ true
    by_quotes true x = cc
    by_quotes false x = let same : word.text ≡ text = cc in ap not (subst (λ (t : List ℕ). has_bad_byte t ≡ false) same h)

unless-fits : (keyword : List ℕ) (word : Word) → IsPlain word → is_text_or_none (text_unless keyword word) ≡ true
unless-fits keyword word h = by_test (is_keyword keyword word)
  where
    by_test : (b : Bool) → is_text_or_none (if b then None else Some word.text) ≡ true
    by_test true = refl
    by_test false = ap not h

-- ---- numbers

named-fits : (letter : ℕ) (text : List ℕ) (n : ℕ) → named_by letter text ≡ Some n → is_name n ≡ true
unfolding named_by
named-fits letter [] n e = cc
named-fits letter (b ∷ digits) n e = by_letter (b == letter) e
  where
    by_letter : (t : Bool) → (if t then positive 7 digits else None) ≡ Some n → is_name n ≡ true
    by_letter true x = let (low, high) = positive-range 7 digits n x in in-range n 9999999 low (omega arith)
    by_letter false x = cc

object-fits : (letter : ℕ) (word : Word) (n : ℕ) → object letter word ≡ Some n → is_name n ≡ true
unfolding object
object-fits letter word n e = by_bare (bare word) e
  where
    by_bare : (o : Option (List ℕ)) → option_and_then (named_by letter) o ≡ Some n → is_name n ≡ true
    by_bare None x = cc
    by_bare (Some text) x = named-fits letter text n x

span-range : (text : List ℕ) (n : ℕ) → span_of text ≡ Some n → is_span n ≡ true
unfolding span_of
span-range text n e = let (low, high) = positive-range 13 text n e in in-range n 9999999999999 low (omega arith)

span-fits : (o : Option (List ℕ)) (n : ℕ) → option_and_then span_of o ≡ Some n → is_span n ≡ true
span-fits None n e = cc
span-fits (Some text) n e = span-range text n e

time-range : (text : List ℕ) (n : ℕ) → time_of text ≡ Some n → n ≤ TIME_LIMIT
unfolding time_of
time-range text n e = by_zero (is_zero text) e
  where
    by_zero : (z : Bool) → (if z then Some 0 else positive 13 text) ≡ Some n → n ≤ TIME_LIMIT
    by_zero true x = let same : 0 ≡ n = cc in omega arith
    by_zero false x = let (low, high) = positive-range 13 text n x in omega arith

time-fits : (o : Option (List ℕ)) (n : ℕ) → option_and_then time_of o ≡ Some n → n ≤ TIME_LIMIT
time-fits None n e = cc
time-fits (Some text) n e = time-range text n e

-- ---- events

abbrev pub Fits : Option Event → Type 0
Fits None = Unit {0}
Fits (Some e) = is_fitting e ≡ true

map-fits : {A : Type 0} (f : A → Event) (o : Option A) → ((a : A) → o ≡ Some a → is_fitting (f a) ≡ true) → Fits (option_map f o)
map-fits f None h = tt
map-fits f (Some a) h = h a refl

then-fits : {A : Type 0} (f : A → Option Event) (o : Option A) → ((a : A) → o ≡ Some a → Fits (f a)) → Fits (option_and_then f o)
then-fits f None h = tt
then-fits f (Some a) h = h a refl

on-frame-fits : (make : ℕ → Event) → ((f : ℕ) → is_name f ≡ true → is_fitting (make f) ≡ true) → (words : List Word) → Fits (read_on_frame make words)
on-frame-fits make h [] = tt
on-frame-fits make h (frame ∷ []) = map-fits make (frame_word frame) (λ f e. h f (object-fits 102 frame f e))
on-frame-fits make h (frame ∷ next ∷ more) = tt

with-name-fits : (make : ℕ → List ℕ → Event) → ((f : ℕ) (t : List ℕ) → is_name f ≡ true → is_text t ≡ true → is_fitting (make f t) ≡ true)
    → (words : List Word) → ArePlain words → Fits (read_with_name make words)
with-name-fits make h [] p = tt
with-name-fits make h (frame ∷ []) p = tt
with-name-fits make h (frame ∷ name ∷ []) p =
    then-fits (λ f. option_map (make f) (bare name)) (frame_word frame) (λ f e. map-fits (make f) (bare name) (λ t x. h f t (object-fits 102 frame f e) (bare-fits name t p.1.0 x)))
with-name-fits make h (frame ∷ name ∷ next ∷ more) p = tt

input-fits : (words : List Word) → Fits (read_input words)
input-fits [] = tt
input-fits (frame ∷ []) = tt
input-fits (frame ∷ kind ∷ []) =
    then-fits (λ f. option_map (event.Input f) (keyword_in input_kinds kind)) (frame_word frame) (λ f e. map-fits (event.Input f) (keyword_in input_kinds kind) (λ k x. object-fits 102 frame f e))
input-fits (frame ∷ kind ∷ next ∷ more) = tt

attr-fits : (words : List Word) → ArePlain words → Fits (read_attr words)
attr-fits [] p = tt
attr-fits (frame ∷ []) p = tt
attr-fits (frame ∷ name ∷ []) p = tt
attr-fits (frame ∷ name ∷ value ∷ []) p =
    then-fits (λ f. option_map (λ n. event.Attr f n (text_unless (codes "none") value)) (keyword_in attribute_names name)) (frame_word frame)
    (λ f e. map-fits (λ n. event.Attr f n (text_unless (codes "none") value)) (keyword_in attribute_names name)
    (λ n x. and-true (is_name f) (is_text_or_none (text_unless (codes "none") value)) (object-fits 102 frame f e) (unless-fits (codes "none") value p.1.1.0)))
attr-fits (frame ∷ name ∷ value ∷ next ∷ more) p = tt

drop-fits : (words : List Word) → Fits (read_drop words)
drop-fits [] = tt
drop-fits (status ∷ []) = map-fits event.DropStatus (object 115 status) (λ s e. object-fits 115 status s e)
drop-fits (status ∷ next ∷ more) = tt

deliver-fits : (words : List Word) → Fits (read_deliver words)
deliver-fits [] = tt
deliver-fits (message ∷ []) = map-fits event.Deliver (object 109 message) (λ m e. object-fits 109 message m e)
deliver-fits (message ∷ next ∷ more) = tt

tick-fits : (words : List Word) → Fits (read_tick words)
tick-fits [] = refl
tick-fits (word ∷ more) = tt

post-fits : (words : List Word) → ArePlain words → Fits (read_post words)
post-fits [] p = tt
post-fits (a ∷ []) p = tt
post-fits (a ∷ b ∷ []) p = tt
post-fits (a ∷ b ∷ c ∷ []) p = tt
post-fits (sender ∷ target ∷ named ∷ capability ∷ []) p =
    then-fits (λ f. option_and_then (λ g. option_map (event.Post f g (text_unless (codes "*") named)) (bare capability)) (frame_word target)) (frame_word sender)
    (λ f e. then-fits (λ g. option_map (event.Post f g (text_unless (codes "*") named)) (bare capability)) (frame_word target)
    (λ g i. map-fits (event.Post f g (text_unless (codes "*") named)) (bare capability)
    (λ t x. and-true (is_name f && is_name g && is_text_or_none (text_unless (codes "*") named)) (is_text t)
    (and-true (is_name f && is_name g) (is_text_or_none (text_unless (codes "*") named))
    (and-true (is_name f) (is_name g) (object-fits 102 sender f e) (object-fits 102 target g i)) (unless-fits (codes "*") named p.1.1.0))
    (bare-fits capability t p.1.1.1.0 x))))
post-fits (a ∷ b ∷ c ∷ d ∷ e ∷ more) p = tt

-- ---- answers

abbrev pub LifeFits : Option EventLife → Type 0
LifeFits None = Unit {0}
LifeFits (Some given) = (is_life outcome.Allow given ≡ true) × (is_life outcome.Block given ≡ true)

span-life-fits : (o : Option ℕ) → ((n : ℕ) → o ≡ Some n → is_span n ≡ true) → LifeFits (option_map life.For o)
span-life-fits None h = tt
span-life-fits (Some n) h = (h n refl, h n refl)

life-fits : (words : List Word) → LifeFits (read_life words)
life-fits [] = (refl, refl)
life-fits (once ∷ []) = by_test (is_keyword (codes "once") once)
  where
    by_test : (b : Bool) → LifeFits (if b then Some life.Once else None)
    by_test true = (refl, refl)
    by_test false = tt
life-fits (keyword ∷ ms ∷ []) = by_test (is_keyword (codes "for") keyword)
  where
    by_test : (b : Bool) → LifeFits (if b then option_map life.For (option_and_then span_of (bare ms)) else None)
    by_test true = span-life-fits (option_and_then span_of (bare ms)) (λ n e. span-fits (bare ms) n e)
    by_test false = tt
life-fits (a ∷ b ∷ c ∷ more) = tt

-- ---- tables

abbrev pub AllRows : {A : Type 0} → (A → Type 0) → List (List ℕ × A) → Type 0
AllRows P [] = Unit {0}
AllRows P (row ∷ rows) = P row.1 × AllRows P rows

abbrev pub IfFound : {A : Type 0} → (A → Type 0) → Option A → Type 0
IfFound P None = Unit {0}
IfFound P (Some a) = P a

found-row : {A : Type 0} (P : A → Type 0) (rows : List (List ℕ × A)) (name : List ℕ) → AllRows P rows → IfFound P (named_in rows name)
found-row P [] name h = tt
found-row {A = A} P (row ∷ rows) name h = by_test (bytes_eq row.0 name) (found-row P rows name h.1)
  where
    by_test : (b : Bool) → IfFound P (named_in rows name) → IfFound P (option_map (λ (r : List ℕ × A). r.1) (cond b (Some row) (find (λ (r : List ℕ × A). bytes_eq r.0 name) rows)))
    by_test true later = h.0
    by_test false later = later

found-keyword : {A : Type 0} (P : A → Type 0) (rows : List (List ℕ × A)) (word : Word) → AllRows P rows → IfFound P (keyword_in rows word)
found-keyword P rows word h = by_bare (bare word)
  where
    by_bare : (o : Option (List ℕ)) → IfFound P (option_and_then (named_in rows) o)
    by_bare None = tt
    by_bare (Some name) = found-row P rows name h

-- an outcome that lasts goes with any life that is read
abbrev pub Lasts : Outcome → Type 0
Lasts out = (given : EventLife) → (is_life outcome.Allow given ≡ true) × (is_life outcome.Block given ≡ true) → is_life out given ≡ true

lasting : (word : Word) → IfFound Lasts (keyword_in lasting_outcomes word)
lasting word = found-keyword Lasts lasting_outcomes word (λ given h. h.0, (λ given h. h.1, tt))

answered-fits : (prompt : ℕ) (o : Option Outcome) (given : Option EventLife) → is_name prompt ≡ true → IfFound Lasts o → LifeFits given
    → Fits (option_and_then (λ out. option_map (event.Answered prompt out) given) o)
answered-fits prompt None given n l h = tt
answered-fits prompt (Some out) None n l h = tt
answered-fits prompt (Some out) (Some g) n l h = and-true (is_name prompt) (is_life out g) n (l g h)

forever-fits : (prompt : ℕ) (o : Option Outcome) → is_name prompt ≡ true → Fits (option_map (λ out. event.Answered prompt out life.Forever) o)
forever-fits prompt None n = tt
forever-fits prompt (Some out) n = and-true (is_name prompt) (is_life out life.Forever) n refl

outcome-fits : (prompt : ℕ) (word : Word) (words : List Word) → is_name prompt ≡ true → Fits (read_outcome prompt word words)
outcome-fits prompt word [] n = by_test (is_keyword (codes "dismiss") word)
  where
    by_test : (b : Bool) → Fits (if b then Some (event.Answered prompt outcome.Dismiss life.Forever) else option_map (λ out. event.Answered prompt out life.Forever) (keyword_in lasting_outcomes word))
    by_test true = and-true (is_name prompt) true n refl
    by_test false = forever-fits prompt (keyword_in lasting_outcomes word) n
outcome-fits prompt word (next ∷ more) n = answered-fits prompt (keyword_in lasting_outcomes word) (read_life (next ∷ more)) n (lasting word) (life-fits (next ∷ more))

answer-fits : (words : List Word) → Fits (read_answer words)
answer-fits [] = tt
answer-fits (prompt ∷ []) = tt
answer-fits (prompt ∷ word ∷ more) = then-fits (λ p. read_outcome p word more) (object 112 prompt) (λ p e. outcome-fits p word more (object-fits 112 prompt p e))

-- ---- settings

state-fits : (feature first : List ℕ) (second : Option (List ℕ)) (word : Word) (span : Option ℕ) → is_text feature ≡ true → is_text first ≡ true → is_text_or_none second ≡ true → is_span_or_none span ≡ true
    → Fits (read_state feature first second word span)
state-fits feature first second word span f a b s =
    map-fits (λ st. event.SetState feature first second st span) (keyword_in states word)
    (λ st e. and-true (is_text feature && is_text first && is_text_or_none second) (is_span_or_none span) (and-true (is_text feature && is_text first) (is_text_or_none second) (and-true (is_text feature) (is_text first) f a) b) s)

state-for-fits : (feature first : List ℕ) (second : Option (List ℕ)) (word keyword ms : Word) → is_text feature ≡ true → is_text first ≡ true → is_text_or_none second ≡ true
    → Fits (read_state_for feature first second word keyword ms)
state-for-fits feature first second word keyword ms f a b = by_test (is_keyword (codes "for") keyword)
  where
    by_test : (t : Bool) → Fits (if t then option_and_then (λ span. read_state feature first second word (Some span)) (option_and_then span_of (bare ms)) else None)
    by_test true = then-fits (λ span. read_state feature first second word (Some span)) (option_and_then span_of (bare ms)) (λ n e. state-fits feature first second word (Some n) f a b (span-fits (bare ms) n e))
    by_test false = tt

setting-fits : (feature : List ℕ) (words : List Word) → is_text feature ≡ true → ArePlain words → Fits (read_setting feature words)
setting-fits feature [] f p = tt
setting-fits feature (first ∷ []) f p = tt
setting-fits feature (first ∷ word ∷ []) f p = state-fits feature first.text None word None f (ap not p.0) refl refl
setting-fits feature (first ∷ second ∷ word ∷ []) f p = state-fits feature first.text (Some second.text) word None f (ap not p.0) (ap not p.1.0) refl
setting-fits feature (first ∷ word ∷ keyword ∷ ms ∷ []) f p = state-for-fits feature first.text None word keyword ms f (ap not p.0) refl
setting-fits feature (first ∷ second ∷ word ∷ keyword ∷ ms ∷ []) f p = state-for-fits feature first.text (Some second.text) word keyword ms f (ap not p.0) (ap not p.1.0)
setting-fits feature (a ∷ b ∷ c ∷ d ∷ e ∷ g ∷ more) f p = tt

set-fits : (words : List Word) → ArePlain words → Fits (read_set words)
set-fits [] p = tt
set-fits (feature ∷ more) p = then-fits (λ f. read_setting f more) (bare feature) (λ f e. setting-fits f more (bare-fits feature f p.0 e) p.1)

-- ---- options

-- the texts of options are plain
pub record PlainOptions (given : Options) : Type 0 where
  pub place : is_text_or_none given.place ≡ true
  pub allow : is_text_or_none given.allow ≡ true
  pub sandbox : is_text_or_none given.sandbox ≡ true
  pub header : is_text_or_none given.header ≡ true

joined-fits : (before text : List ℕ) → is_text before ≡ true → has_bad_byte text ≡ false → is_text (before ++ codes ", " ++ text) ≡ true
unfolding has_bad_byte
joined-fits before text b t =
    let front = list_any-append is_bad_byte (before ++ codes ", ") text in
    let first = list_any-append is_bad_byte before (codes ", ") in
    by_tests (list_any is_bad_byte before) (list_any is_bad_byte text) (list_any is_bad_byte (before ++ codes ", ")) (list_any is_bad_byte (before ++ codes ", " ++ text)) first front b t
  where
    by_tests : (p q r s : Bool) → r ≡ (p || false) → s ≡ (r || q) → not p ≡ true → q ≡ false → not s ≡ true
    by_tests true q r s x y h k = cc
    by_tests false true r s x y h k = cc
    by_tests false false r s x y h k = ap not (y ∙ ap (λ v. v || false) x)

header-fits : (header : Option (List ℕ)) (text : List ℕ) → is_text_or_none header ≡ true → has_bad_byte text ≡ false → is_text_or_none (header_behind header text) ≡ true
header-fits None text h t = ap not t
header-fits (Some before) text h t = joined-fits before text h t

with-text-fits : (name : OptionName) (text : List ℕ) (given : Options) → PlainOptions given → has_bad_byte text ≡ false → IfFound PlainOptions (with_text name text given)
with-text-fits At text given p t = by_test (is_some given.place)
  where
    by_test : (b : Bool) → IfFound PlainOptions (if b then None else Some (record given { place = Some text; waiting = None }))
    by_test true = tt
    by_test false = record { place = ap not t; allow = p.allow; sandbox = p.sandbox; header = p.header }
with-text-fits Allow text given p t = by_test (is_some given.allow)
  where
    by_test : (b : Bool) → IfFound PlainOptions (if b then None else Some (record given { allow = Some text; waiting = None }))
    by_test true = tt
    by_test false = record { place = p.place; allow = ap not t; sandbox = p.sandbox; header = p.header }
with-text-fits Sandbox text given p t = by_test (is_some given.sandbox)
  where
    by_test : (b : Bool) → IfFound PlainOptions (if b then None else Some (record given { sandbox = Some text; waiting = None }))
    by_test true = tt
    by_test false = record { place = p.place; allow = p.allow; sandbox = ap not t; header = p.header }
with-text-fits Header text given p t = record { place = p.place; allow = p.allow; sandbox = p.sandbox; header = header-fits given.header text p.header t }

with-name-plain : (word : Word) (given : Options) → PlainOptions given → IfFound PlainOptions (with_name word given)
with-name-plain word given p = by_fullscreen (is_keyword (codes "fullscreen") word)
  where
    by_name : (o : Option OptionName) → IfFound PlainOptions (option_map (λ name. record given { waiting = Some name }) o)
    by_name None = tt
    by_name (Some name) = record { place = p.place; allow = p.allow; sandbox = p.sandbox; header = p.header }

    src : (b : Bool) → IfFound PlainOptions (if b then None else Some (record given { srcdoc = true }))
    src true = tt
    src false = record { place = p.place; allow = p.allow; sandbox = p.sandbox; header = p.header }

    full : (b : Bool) → IfFound PlainOptions (if b then None else Some (record given { fullscreen = true }))
    full true = tt
    full false = record { place = p.place; allow = p.allow; sandbox = p.sandbox; header = p.header }

    by_srcdoc : (b : Bool) → IfFound PlainOptions (if b then (if given.srcdoc then None else Some (record given { srcdoc = true })) else option_map (λ name. record given { waiting = Some name }) (keyword_in option_names word))
    by_srcdoc true = src given.srcdoc
    by_srcdoc false = by_name (keyword_in option_names word)

    by_fullscreen : (b : Bool) → IfFound PlainOptions (if b then (if given.fullscreen then None else Some (record given { fullscreen = true }))
        else (if is_keyword (codes "srcdoc") word then (if given.srcdoc then None else Some (record given { srcdoc = true })) else option_map (λ name. record given { waiting = Some name }) (keyword_in option_names word)))
    by_fullscreen true = full given.fullscreen
    by_fullscreen false = by_srcdoc (is_keyword (codes "srcdoc") word)

with-word-plain : (waiting : Option OptionName) (word : Word) (given : Options) → PlainOptions given → IsPlain word → IfFound PlainOptions (with_word waiting word given)
with-word-plain None word given p t = with-name-plain word given p
with-word-plain (Some name) word given p t = with-text-fits name word.text given p t

step-plain : (so_far : Option Options) (word : Word) → IfFound PlainOptions so_far → IsPlain word → IfFound PlainOptions (option_and_then (λ given. with_word given.waiting word given) so_far)
step-plain None word p t = tt
step-plain (Some given) word p t = with-word-plain given.waiting word given p t

fold-plain : (words : List Word) (so_far : Option Options) → IfFound PlainOptions so_far → ArePlain words
    → IfFound PlainOptions (fold (λ so_far word. option_and_then (λ given. with_word given.waiting word given) so_far) so_far words)
fold-plain [] so_far p t = p
fold-plain (word ∷ words) so_far p t = fold-plain words (option_and_then (λ given. with_word given.waiting word given) so_far) (step-plain so_far word p t.0) t.1

options-plain : (words : List Word) → ArePlain words → IfFound PlainOptions (options words)
unfolding options
options-plain words t =
    ended (fold (λ so_far word. option_and_then (λ given. with_word given.waiting word given) so_far) (Some no_options) words)
    (fold-plain words (Some no_options) (record { place = refl; allow = refl; sandbox = refl; header = refl }) t)
  where
    unless : (b : Bool) (given : Options) → PlainOptions given → IfFound PlainOptions (if b then None else Some given)
    unless true given p = tt
    unless false given p = p

    ended : (o : Option Options) → IfFound PlainOptions o → IfFound PlainOptions (option_and_then (λ given. if is_some given.waiting then None else Some given) o)
    ended None p = tt
    ended (Some given) p = unless (is_some given.waiting) given p

abbrev pub PlainHeader : Option (List ℕ) → Type 0
PlainHeader header = is_text_or_none header ≡ true

only-header-plain : (o : Option Options) → IfFound PlainOptions o → IfFound PlainHeader (option_and_then only_header o)
only-header-plain None p = tt
only-header-plain (Some given) p = by_test (is_some given.place || is_some given.allow || is_some given.sandbox || given.fullscreen || given.srcdoc)
  where
    by_test : (b : Bool) → IfFound PlainHeader (if b then None else Some given.header)
    by_test true = tt
    by_test false = p.header

headers-plain : (words : List Word) → ArePlain words → IfFound PlainHeader (headers words)
unfolding headers
headers-plain words t = only-header-plain (options words) (options-plain words t)

-- ---- documents

with-header : (f : Option (List ℕ) → Event) (o : Option (Option (List ℕ))) → ((h : Option (List ℕ)) → PlainHeader h → is_fitting (f h) ≡ true) → IfFound PlainHeader o → Fits (option_map f o)
with-header f None h p = tt
with-header f (Some header) h p = h header p

open-fits : (words : List Word) → ArePlain words → Fits (read_open words)
open-fits [] p = tt
open-fits (url ∷ more) p =
    with-header (event.OpenPage url.text) (headers more) (λ h x. and-true (is_text url.text) (is_text_or_none h) (ap not p.0) x) (headers-plain more p.1)

nav-fits : (words : List Word) → ArePlain words → Fits (read_nav words)
nav-fits [] p = tt
nav-fits (frame ∷ []) p = tt
nav-fits (frame ∷ url ∷ more) p =
    then-fits (λ f. option_map (event.Navigate f url.text) (headers more)) (frame_word frame)
    (λ f e. with-header (event.Navigate f url.text) (headers more)
    (λ h x. and-true (is_name f && is_text url.text) (is_text_or_none h) (and-true (is_name f) (is_text url.text) (object-fits 102 frame f e) (ap not p.1.0)) x) (headers-plain more p.1.1))

-- options that go together are an embedding
together : (s p d h : Bool) → ((p || s && not d) && (h || not d)) ≡ true → ((not d || p && h) && (not (not s) || p)) ≡ true
together true true true true e = refl
together true true true false e = e
together true true false true e = refl
together true true false false e = refl
together true false true h e = cc
together true false false true e = refl
together true false false false e = refl
together false true true true e = refl
together false true true false e = e
together false true false true e = refl
together false true false false e = refl
together false false d h e = cc

some-none : {A : Type 0} (o : Option A) → is_some o ≡ not (is_none o)
some-none None = refl
some-none (Some a) = refl

embedding-fits : (parent : ℕ) (src : Option (List ℕ)) (given : Options) → is_name parent ≡ true → is_text_or_none src ≡ true → PlainOptions given → Fits (embedding parent src given)
embedding-fits parent src given n s p = by_fit (fits src given) refl
  where
    goes : fits src given ≡ true → is_embedding src given.place given.srcdoc given.header ≡ true
    goes e =
        let by_some : ((is_none given.place || not (is_none src) && not given.srcdoc) && (is_none given.header || not given.srcdoc)) ≡ true
        = subst (λ (b : Bool). ((is_none given.place || b && not given.srcdoc) && (is_none given.header || not given.srcdoc)) ≡ true) (some-none src) e in
        by_src (is_none src) by_some
      where
        by_src : (b : Bool) → ((is_none given.place || not b && not given.srcdoc) && (is_none given.header || not given.srcdoc)) ≡ true
            → ((not given.srcdoc || is_none given.place && is_none given.header) && (not b || is_none given.place)) ≡ true
        by_src true x = together false (is_none given.place) given.srcdoc (is_none given.header) x
        by_src false x = together true (is_none given.place) given.srcdoc (is_none given.header) x

    by_fit : (b : Bool) → fits src given ≡ b → Fits (if b then Some (event.Embed parent src given.place given.allow given.sandbox given.fullscreen given.srcdoc given.header) else None)
    by_fit false e = tt
    by_fit true e = six (is_name parent) (is_text_or_none src) (is_text_or_none given.place) (is_text_or_none given.allow) (is_text_or_none given.sandbox) (is_text_or_none given.header)
        (is_embedding src given.place given.srcdoc given.header) n s p.place p.allow p.sandbox p.header (goes e)
      where
        six : (a b c d e f g : Bool) → a ≡ true → b ≡ true → c ≡ true → d ≡ true → e ≡ true → f ≡ true → g ≡ true → (a && b && c && d && e && f && g) ≡ true
        six a b c d e f g x y z u v w t = and-true (a && b && c && d && e && f) g (and-true (a && b && c && d && e) f (and-true (a && b && c && d) e (and-true (a && b && c) d (and-true (a && b) c (and-true a b x y) z) u) v) w) t

embed-fits : (words : List Word) → ArePlain words → Fits (read_embed words)
embed-fits [] p = tt
embed-fits (frame ∷ []) p = tt
embed-fits (frame ∷ src ∷ more) p =
    then-fits (λ f. option_and_then (embedding f (text_unless (codes "none") src)) (options more)) (frame_word frame) (λ f e. by_options f (object-fits 102 frame f e) (options more) (options-plain more p.1.1))
  where
    by_options : (f : ℕ) → is_name f ≡ true → (o : Option Options) → IfFound PlainOptions o → Fits (option_and_then (embedding f (text_unless (codes "none") src)) o)
    by_options f n None q = tt
    by_options f n (Some given) q = embedding-fits f (text_unless (codes "none") src) given n (unless-fits (codes "none") src p.1.0) q

-- ---- the verbs

on-name : (f : ℕ) (t : List ℕ) → is_name f ≡ true → is_text t ≡ true → (is_name f && is_text t) ≡ true
on-name f t n h = and-true (is_name f) (is_text t) n h

verbs-fit : (more : List Word) → ArePlain more → AllRows (λ (read : List Word → Option Event). Fits (read more)) verbs
verbs-fit more p = (
  open-fits more p,
  (
    embed-fits more p,
    (
      nav-fits more p,
      (
        attr-fits more p,
        (
          on-frame-fits event.Close (λ f n. n) more,
          (
            input-fits more,
            (
              on-frame-fits event.Ask (λ f n. n) more,
              (
                on-frame-fits event.History (λ f n. n) more,
                (
                  with-name-fits event.PolicyOf on-name more p,
                  (
                    on-frame-fits event.Features (λ f n. n) more,
                    (
                      with-name-fits event.UseCall on-name more p,
                      (
                        with-name-fits event.Query on-name more p,
                        (
                          drop-fits more,
                          (
                            with-name-fits event.Request on-name more p,
                            (
                              answer-fits more,
                              (
                                set-fits more p,
                                (post-fits more p, (deliver-fits more, (tick-fits more, tt))),
                              ),
                            ),
                          ),
                        ),
                      ),
                    ),
                  ),
                ),
              ),
            ),
          ),
        ),
      ),
    ),
  ),
)

event-fits : (words : List Word) → ArePlain words → Fits (event_of words)
unfolding event_of
event-fits [] p = tt
event-fits (verb ∷ more) p = by_verb (keyword_in verbs verb) (found-keyword (λ (read : List Word → Option Event). Fits (read more)) verbs verb (verbs-fit more p.1))
  where
    by_verb : (o : Option (List Word → Option Event)) → IfFound (λ (read : List Word → Option Event). Fits (read more)) o → Fits (option_and_then (λ read. read more) o)
    by_verb None h = tt
    by_verb (Some read) h = h

-- ---- the words of a line

-- a time and an event fit
pub record FitsTimed (said : Timed) : Type 0 where
  pub time : said.time ≤ TIME_LIMIT
  pub event : IsTrue (is_fitting said.event)

said-fits : (o : Option ℕ) (e : Option Event) → ((t : ℕ) → o ≡ Some t → t ≤ TIME_LIMIT) → Fits e → IfFound FitsTimed (option_and_then (λ t. option_map (λ e. record { time = t; event = e }) e) o)
said-fits None e h f = tt
said-fits (Some t) None h f = tt
said-fits (Some t) (Some e) h f = record { time = h t refl; event = f }

pub timed-fits : (words : List Word) → All (λ (word : Word). has_bad_byte word.text ≡ false) words → IfFound FitsTimed (timed_of words)
unfolding timed_of
timed-fits [] h = tt
timed-fits (time ∷ more) h =
    let p = are-plain (time ∷ more) h in
    said-fits (option_and_then time_of (bare time)) (event_of more) (λ t e. time-fits (bare time) t e) (event-fits more p.1)
