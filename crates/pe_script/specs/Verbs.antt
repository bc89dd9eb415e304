-- The verbs of a script line: what the words behind a verb say.
-- The script is this project's own format.
-- Texts are as in the line, with escapes undone; a text may be bare or quoted, all other words are bare.
use Rattle.std.specs.Prelude.{ℕ, Bool, true, false, not, ◌&&◌, ◌||◌, List, [], ◌∷◌, ◌++◌, codes, fold, Option, Some, None, is_some, is_none, option_map, option_and_then, if◌then◌else◌}
use Rattle.pe_lines.specs.Words.{Word}
use Rattle.pe_events.specs.declared.event.Event.{Event}
use Rattle.pe_events.specs.declared.event.Event.TheVariants as event
use Rattle.pe_events.specs.declared.event.EventLife.{EventLife}
use Rattle.pe_events.specs.declared.event.EventLife.TheVariants as life
use Rattle.pe_events.specs.declared.event.Outcome.{Outcome}
use Rattle.pe_events.specs.declared.event.Outcome.TheVariants as outcome
use Rattle.pe_script.specs.Numerals.{bare, span_of, object}
use Rattle.pe_script.specs.Names.{is_keyword, input_kinds, states, attribute_names, keyword_in}

-- ---- words that several verbs have

-- F: a frame, `f` and its number
abbrev pub frame_word : Word → Option ℕ
frame_word word = object 102 word

-- S: a status, `s` and its number
abbrev pub status_word : Word → Option ℕ
status_word word = object 115 word

-- P: a prompt, `p` and its number
abbrev pub prompt_word : Word → Option ℕ
prompt_word word = object 112 word

-- M: a message, `m` and its number
abbrev pub message_word : Word → Option ℕ
message_word word = object 109 word

-- a text, or nothing for a bare keyword that stands for its absence
abbrev pub text_unless : List ℕ → Word → Option (List ℕ)
text_unless keyword word = if is_keyword keyword word then None else Some word.text

-- ---- options

-- the options that take a text
pub data OptionName : Type 0 where
  At : OptionName
  Allow : OptionName
  Sandbox : OptionName
  Header : OptionName

-- the options so far; `waiting` is the option whose text comes next
pub record Options : Type 0 where
  pub place : Option (List ℕ)
  pub allow : Option (List ℕ)
  pub sandbox : Option (List ℕ)
  pub fullscreen : Bool
  pub srcdoc : Bool
  pub header : Option (List ℕ)
  pub waiting : Option OptionName

-- no options
abbrev pub no_options : Options
no_options = record { place = None; allow = None; sandbox = None; fullscreen = false; srcdoc = false; header = None; waiting = None }

-- the names of the options that take a text
abbrev pub option_names : List (List ℕ × OptionName)
option_names = (codes "at", At) ∷ (codes "allow", Allow) ∷ (codes "sandbox", Sandbox) ∷ (codes "header", Header) ∷ []

-- one more header line, behind the others: several are one, joined by a comma and a space
abbrev pub header_behind : Option (List ℕ) → List ℕ → Option (List ℕ)
header_behind None text = Some text
header_behind (Some before) text = Some (before ++ codes ", " ++ text)

-- the text of an option, which each but `header` takes once
abbrev pub with_text : OptionName → List ℕ → Options → Option Options
with_text At text given = if is_some given.place then None else Some (record given { place = Some text; waiting = None })
with_text Allow text given = if is_some given.allow then None else Some (record given { allow = Some text; waiting = None })
with_text Sandbox text given = if is_some given.sandbox then None else Some (record given { sandbox = Some text; waiting = None })
with_text Header text given = Some (record given { header = header_behind given.header text; waiting = None })

-- the name of an option, of which each but `header` stands once
abbrev pub with_name : Word → Options → Option Options
with_name word given =
    if is_keyword (codes "fullscreen") word then (if given.fullscreen then None else Some (record given { fullscreen = true }))
    else (if is_keyword (codes "srcdoc") word then (if given.srcdoc then None else Some (record given { srcdoc = true }))
    else option_map (λ name. record given { waiting = Some name }) (keyword_in option_names word))

-- one more word of the options: the text of the waiting one, or the name of the next
abbrev pub with_word : Option OptionName → Word → Options → Option Options
with_word (Some name) word given = with_text name word.text given
with_word None word given = with_name word given

-- the options that the words give, in any order; none where one has no text, or stands twice
unfoldable pub options : List Word → Option Options
options words = option_and_then (λ given. if is_some given.waiting then None else Some given)
    (fold (λ so_far word. option_and_then (λ given. with_word given.waiting word given) so_far) (Some no_options) words)

-- the header of options, where nothing else stands among them
abbrev pub only_header : Options → Option (Option (List ℕ))
only_header given =
    if is_some given.place || is_some given.allow || is_some given.sandbox || given.fullscreen || given.srcdoc then None
    else Some given.header

-- any number of `header TEXT`
unfoldable pub headers : List Word → Option (Option (List ℕ))
headers words = option_and_then only_header (options words)

-- `at` goes with a source and without `srcdoc`; `header` goes without `srcdoc`
abbrev pub fits : Option (List ℕ) → Options → Bool
fits src given = (is_none given.place || is_some src && not given.srcdoc) && (is_none given.header || not given.srcdoc)

-- the embedding of a source, or of none, with options
abbrev pub embedding : ℕ → Option (List ℕ) → Options → Option Event
embedding parent src given =
    if fits src given then Some (event.Embed parent src given.place given.allow given.sandbox given.fullscreen given.srcdoc given.header) else None

-- ---- the verbs

-- `open URL` and headers
abbrev pub read_open : List Word → Option Event
read_open [] = None
read_open (url ∷ more) = option_map (event.OpenPage url.text) (headers more)

-- `embed F SRC` and options
abbrev pub read_embed : List Word → Option Event
read_embed (frame ∷ src ∷ more) = option_and_then (λ f. option_and_then (embedding f (text_unless (codes "none") src)) (options more)) (frame_word frame)
read_embed words = None

-- `nav F URL` and headers
abbrev pub read_nav : List Word → Option Event
read_nav (frame ∷ url ∷ more) = option_and_then (λ f. option_map (event.Navigate f url.text) (headers more)) (frame_word frame)
read_nav words = None

-- `attr F NAME VALUE`; the bare word `none` removes the attribute
abbrev pub read_attr : List Word → Option Event
read_attr (frame ∷ name ∷ value ∷ []) = option_and_then (λ f. option_map (λ n. event.Attr f n (text_unless (codes "none") value)) (keyword_in attribute_names name)) (frame_word frame)
read_attr words = None

-- a verb and the one frame that it names
abbrev pub read_on_frame : (ℕ → Event) → List Word → Option Event
read_on_frame make (frame ∷ []) = option_map make (frame_word frame)
read_on_frame make words = None

-- a verb, the frame that it names, and the bare name of a feature or a call
abbrev pub read_with_name : (ℕ → List ℕ → Event) → List Word → Option Event
read_with_name make (frame ∷ name ∷ []) = option_and_then (λ f. option_map (make f) (bare name)) (frame_word frame)
read_with_name make words = None

-- `input F KIND`
abbrev pub read_input : List Word → Option Event
read_input (frame ∷ kind ∷ []) = option_and_then (λ f. option_map (event.Input f) (keyword_in input_kinds kind)) (frame_word frame)
read_input words = None

-- `drop S`
abbrev pub read_drop : List Word → Option Event
read_drop (status ∷ []) = option_map event.DropStatus (status_word status)
read_drop words = None

-- LIFE: `once`, or `for MS`, or nothing
abbrev pub read_life : List Word → Option EventLife
read_life [] = Some life.Forever
read_life (once ∷ []) = if is_keyword (codes "once") once then Some life.Once else None
read_life (keyword ∷ ms ∷ []) = if is_keyword (codes "for") keyword then option_map life.For (option_and_then span_of (bare ms)) else None
read_life words = None

-- the outcomes that have a life
abbrev pub lasting_outcomes : List (List ℕ × Outcome)
lasting_outcomes = (codes "allow", outcome.Allow) ∷ (codes "block", outcome.Block) ∷ []

-- `allow` and `block` with a life, or `dismiss` alone
abbrev pub read_outcome : ℕ → Word → List Word → Option Event
read_outcome prompt word [] =
    if is_keyword (codes "dismiss") word then Some (event.Answered prompt outcome.Dismiss life.Forever)
    else option_map (λ out. event.Answered prompt out life.Forever) (keyword_in lasting_outcomes word)
read_outcome prompt word more = option_and_then (λ out. option_map (event.Answered prompt out) (read_life more)) (keyword_in lasting_outcomes word)

-- `answer P allow`, `answer P block`, each with or without LIFE, and `answer P dismiss`
abbrev pub read_answer : List Word → Option Event
read_answer (prompt ∷ word ∷ more) = option_and_then (λ p. read_outcome p word more) (prompt_word prompt)
read_answer words = None

-- STATE and a span or none
abbrev pub read_state : List ℕ → List ℕ → Option (List ℕ) → Word → Option ℕ → Option Event
read_state feature first second word span = option_map (λ s. event.SetState feature first second s span) (keyword_in states word)

-- the same with `for MS`
abbrev pub read_state_for : List ℕ → List ℕ → Option (List ℕ) → Word → Word → Word → Option Event
read_state_for feature first second word keyword ms =
    if is_keyword (codes "for") keyword then option_and_then (λ span. read_state feature first second word (Some span)) (option_and_then span_of (bare ms)) else None

-- what stands behind the feature of `set`
abbrev pub read_setting : List ℕ → List Word → Option Event
read_setting feature (first ∷ word ∷ []) = read_state feature first.text None word None
read_setting feature (first ∷ second ∷ word ∷ []) = read_state feature first.text (Some second.text) word None
read_setting feature (first ∷ word ∷ keyword ∷ ms ∷ []) = read_state_for feature first.text None word keyword ms
read_setting feature (first ∷ second ∷ word ∷ keyword ∷ ms ∷ []) = read_state_for feature first.text (Some second.text) word keyword ms
read_setting feature words = None

-- `set FEATURE ORIGIN STATE`, `set FEATURE ORIGIN ORIGIN STATE`, each with or without `for MS`
abbrev pub read_set : List Word → Option Event
read_set [] = None
read_set (feature ∷ more) = option_and_then (λ f. read_setting f more) (bare feature)

-- `post F G ORIGIN CAPABILITY`, where ORIGIN may be the bare `*`
abbrev pub read_post : List Word → Option Event
read_post (sender ∷ target ∷ named ∷ capability ∷ []) =
    option_and_then (λ f. option_and_then (λ g. option_map (event.Post f g (text_unless (codes "*") named)) (bare capability)) (frame_word target)) (frame_word sender)
read_post words = None

-- `deliver M`
abbrev pub read_deliver : List Word → Option Event
read_deliver (message ∷ []) = option_map event.Deliver (message_word message)
read_deliver words = None

-- `tick`
abbrev pub read_tick : List Word → Option Event
read_tick [] = Some event.Tick
read_tick words = None

-- each verb, with what reads the words behind it
abbrev pub verbs : List (List ℕ × (List Word → Option Event))
verbs =
    (codes "open", read_open)
    ∷ (codes "embed", read_embed)
    ∷ (codes "nav", read_nav)
    ∷ (codes "attr", read_attr)
    ∷ (codes "close", read_on_frame event.Close)
    ∷ (codes "input", read_input)
    ∷ (codes "state", read_on_frame event.Ask)
    ∷ (codes "history", read_on_frame event.History)
    ∷ (codes "policy", read_with_name event.PolicyOf)
    ∷ (codes "features", read_on_frame event.Features)
    ∷ (codes "use", read_with_name event.UseCall)
    ∷ (codes "query", read_with_name event.Query)
    ∷ (codes "drop", read_drop)
    ∷ (codes "request", read_with_name event.Request)
    ∷ (codes "answer", read_answer)
    ∷ (codes "set", read_set)
    ∷ (codes "post", read_post)
    ∷ (codes "deliver", read_deliver)
    ∷ (codes "tick", read_tick)
    ∷ []

-- the event that the words from the verb on say
unfoldable pub event_of : List Word → Option Event
event_of [] = None
event_of (verb ∷ more) = option_and_then (λ read. read more) (keyword_in verbs verb)
