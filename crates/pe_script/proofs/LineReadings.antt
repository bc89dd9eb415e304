-- The reading of a line, by its bytes and its words.
use Rattle.std.proofs.Common.{◌≡◌, ℕ, suc, ◌+◌, ◌<◌, ◌≤◌, true, false, ◌==◌, List, [], ◌∷◌, length, drop, get_or, Option, Some, None, option_map, unwrap_or, refl, sym, ◌∙◌, ap, add-one, Result, Ok, Err, IsErrAnd, subst, inl, inr}
use Rattle.std.specs.Prelude.{All, option_and_then, ◌⊎◌, IfOk, IfNone, IfSome, IsErrOf, IsOkAnd, IsSomeAnd}
use Rattle.std.proofs.Math.Seq.{drop-cons}
use Rattle.std.proofs.lemmas.List.{drop_all}
use Rattle.pe_lines.specs.Words.{Word, is_blank, is_blank_line, is_comment, has_bad_byte, words_of}
use Rattle.pe_events.specs.declared.cause.Cause.TheVariants as cause
use Rattle.pe_events.specs.declared.event.Event.{Event}
use Rattle.pe_events.specs.declared.stamped.Stamped.{Stamped}
use Rattle.pe_events.specs.Timed.{Timed}
use Rattle.pe_script.specs.declared.reading.LineFault.{LineFault}
use Rattle.pe_script.specs.declared.reading.LineFault.TheVariants as fault
use Rattle.pe_script.specs.Reading.{Reading, Silent, Refusal, Says, timed_of, reading_of}
use Rattle.pe_script.specs.Answering.{is_silent, timed, told, Gives, UnlessMemory, Answers}
use Rattle.pe_script.specs.declared.names.Verb.{Verb}
use Rattle.pe_script.specs.Names.{keyword_in}
use Rattle.pe_script.specs.Numerals.{bare, time_of}
use Rattle.pe_script.specs.Readers.{reader_of}
use Rattle.pe_script.specs.Verbs.{verbs, event_of}
use Rattle.pe_script.proofs.Fits.{IfFound, FitsTimed, timed-fits}

-- ---- a line that is silent, byte by byte

pub silent_nothing : is_silent [] ≡ true
unfolding is_blank_line is_comment
silent_nothing = refl

pub silent_other : (b : ℕ) (line : List ℕ) → is_blank b ≡ false → is_silent (b ∷ line) ≡ (b == 35)
unfolding is_blank_line is_comment
silent_other b line e = rw e refl

comment-blank : (b : ℕ) (line : List ℕ) → is_blank b ≡ true → is_comment (b ∷ line) ≡ is_comment line
unfolding is_comment
comment-blank b line e = rw e refl

comment-other : (b : ℕ) (line : List ℕ) → is_blank b ≡ false → is_comment (b ∷ line) ≡ (b == 35)
unfolding is_comment
comment-other b line e = rw e refl

pub comment-end : (line : List ℕ) (i : ℕ) → length line ≤ i → is_comment (drop i line) ≡ false
unfolding is_comment
comment-end line i h = rw (drop_all i line h) refl

pub comment-more : (line : List ℕ) (i : ℕ) → i < length line → is_blank (get_or line i 0) ≡ true → is_comment (drop i line) ≡ is_comment (drop (i + 1) line)
comment-more line i h e = rw (drop-cons line i 0 h) (comment-blank (get_or line i 0) (drop (suc i) line) e ∙ ap (λ n. is_comment (drop n line)) (sym (add-one i)))

pub comment-here : (line : List ℕ) (i : ℕ) → i < length line → is_blank (get_or line i 0) ≡ false → is_comment (drop i line) ≡ (get_or line i 0 == 35)
comment-here line i h e = rw (drop-cons line i 0 h) (comment-other (get_or line i 0) (drop (suc i) line) e)

-- ---- the reading of a line

pub reading-of-silent : (line : List ℕ) → is_silent line ≡ true → reading_of line ≡ Silent
unfolding reading_of
reading-of-silent line silent = rw silent refl

pub reading-of-bad-byte : (line : List ℕ) → is_silent line ≡ false → has_bad_byte line ≡ true → reading_of line ≡ Refusal cause.BadByte
unfolding reading_of
reading-of-bad-byte line silent bad = rw (silent, bad) refl

-- the reading of words by what they say
abbrev pub reading_said : Option Timed → Reading
reading_said said = unwrap_or (option_map Says said) (Refusal cause.Syntax)

pub reading-by-words : (line : List ℕ) (said : Option Timed) → is_silent line ≡ false → has_bad_byte line ≡ false → option_and_then timed_of (words_of line) ≡ said → reading_of line ≡ reading_said said
unfolding reading_of
reading-by-words line said silent bad is = rw (silent, bad) (ap reading_said is)

-- ---- the time and the verb of a line

pub no-first : (words : Option (List Word)) → (words ≡ None) ⊎ (words ≡ Some []) → option_and_then timed_of words ≡ None
unfolding timed_of
no-first words (inl none) = ap (option_and_then timed_of) none
no-first words (inr empty) = ap (option_and_then timed_of) empty

no-event : (t : Option ℕ) → option_and_then (λ (t : ℕ). option_map (λ (e : Event). timed t e) None) t ≡ None
no-event None = refl
no-event (Some t) = refl

pub no-second : (words more : Option (List Word)) (first : Word) → words ≡ option_map (λ ws. first ∷ ws) more → (more ≡ None) ⊎ (more ≡ Some []) → option_and_then timed_of words ≡ None
unfolding timed_of event_of
no-second words more first next (inl none) = ap (option_and_then timed_of) (next ∙ ap (option_map (λ ws. first ∷ ws)) none)
no-second words more first next (inr empty) = ap (option_and_then timed_of) (next ∙ ap (option_map (λ ws. first ∷ ws)) empty) ∙ no-event (option_and_then time_of (bare first))

no-time-on : (more : Option (List Word)) (first : Word) → None ≡ option_and_then time_of (bare first) → option_and_then timed_of (option_map (λ ws. first ∷ ws) more) ≡ None
unfolding timed_of
no-time-on None first e = refl
no-time-on (Some ws) first e = ap (option_and_then (λ (t : ℕ). option_map (λ (e : Event). timed t e) (event_of ws))) (sym e)

pub no-time : (words more : Option (List Word)) (first : Word) → words ≡ option_map (λ ws. first ∷ ws) more → None ≡ option_and_then time_of (bare first) → option_and_then timed_of words ≡ None
no-time words more first next e = ap (option_and_then timed_of) next ∙ no-time-on more first e

no-verb-on : (rest : Option (List Word)) (first second : Word) → None ≡ keyword_in verbs second → option_and_then timed_of (option_map (λ ws. first ∷ ws) (option_map (λ ws. second ∷ ws) rest)) ≡ None
unfolding timed_of event_of
no-verb-on None first second e = refl
no-verb-on (Some ws) first second e =
    ap (λ (o : Option (List Word → Option Event)). option_and_then (λ (t : ℕ). option_map (λ (e : Event). timed t e) (option_and_then (λ read. read ws) o)) (option_and_then time_of (bare first))) (sym e)
    ∙ no-event (option_and_then time_of (bare first))

pub no-verb : (words more rest : Option (List Word)) (first second : Word) → words ≡ option_map (λ ws. first ∷ ws) more → more ≡ option_map (λ ws. second ∷ ws) rest → None ≡ keyword_in verbs second → option_and_then timed_of words ≡ None
no-verb words more rest first second next after e = ap (option_and_then timed_of) (next ∙ ap (option_map (λ ws. first ∷ ws)) after) ∙ no-verb-on rest first second e

head-on : (rest : Option (List Word)) (first second : Word) (t : ℕ) (verb : Verb) → Some t ≡ option_and_then time_of (bare first) → Some (reader_of verb) ≡ keyword_in verbs second
    → option_and_then timed_of (option_map (λ ws. first ∷ ws) (option_map (λ ws. second ∷ ws) rest)) ≡ option_map (timed t) (option_and_then (reader_of verb) rest)
unfolding timed_of event_of
head-on None first second t verb is-time is-verb = refl
head-on (Some ws) first second t verb is-time is-verb =
    ap (option_and_then (λ (t : ℕ). option_map (λ (e : Event). timed t e) (option_and_then (λ read. read ws) (keyword_in verbs second)))) (sym is-time)
    ∙ ap (λ (o : Option (List Word → Option Event)). option_map (timed t) (option_and_then (λ read. read ws) o)) (sym is-verb)

pub head-is : (words more rest : Option (List Word)) (first second : Word) (t : ℕ) (verb : Verb) → words ≡ option_map (λ ws. first ∷ ws) more → more ≡ option_map (λ ws. second ∷ ws) rest
    → Some t ≡ option_and_then time_of (bare first) → Some (reader_of verb) ≡ keyword_in verbs second → option_and_then timed_of words ≡ option_map (timed t) (option_and_then (reader_of verb) rest)
head-is words more rest first second t verb next after is-time is-verb =
    ap (option_and_then timed_of) (next ∙ ap (option_map (λ ws. first ∷ ws)) after) ∙ head-on rest first second t verb is-time is-verb

-- ---- the answer by what the words behind the verb give

fault-answers : (reading : Reading) (said : Option Event) (t : ℕ) (why : LineFault) → reading ≡ reading_said (option_map (timed t) said) → Gives said (Err why) → Answers reading (Err why)
fault-answers reading said t fault.BadByte is given = absurd given
fault-answers reading said t fault.Syntax is given = is ∙ ap (λ (o : Option Event). reading_said (option_map (timed t) o)) (sym given)
fault-answers reading said t fault.Memory is given = tt

-- the same of a fault that a `?` gives back
pub broken-answers : (reading : Reading) (said : Option Event) (t : ℕ) (why : LineFault) (result : Result (Option Stamped) LineFault) → IsErrAnd result (λ e. e ≡ why) → reading ≡ reading_said (option_map (timed t) said) → Gives said (Err why) → Answers reading result
broken-answers reading said t why (Ok found) is e given = absurd is
broken-answers reading said t why (Err f) is e given = subst (λ (f : LineFault). Answers reading (Err f)) (sym is) (fault-answers reading said t why e given)

-- what is said fits
said-fits : (words : List Word) (t : ℕ) (e : Event) → All (λ (word : Word). has_bad_byte word.text ≡ false) words → Some (timed t e) ≡ timed_of words → FitsTimed (timed t e)
said-fits words t e plain is = subst (IfFound FitsTimed) (sym is) (timed-fits words plain)

pub fits-by-words : (words : Option (List Word)) (t : ℕ) (e : Event) → ((ws : List Word) → words ≡ Some ws → All (λ (word : Word). has_bad_byte word.text ≡ false) ws) → option_and_then timed_of words ≡ Some (timed t e) → FitsTimed (timed t e)
fits-by-words None t e plain is = cc
fits-by-words (Some ws) t e plain is = said-fits ws t e (plain ws refl) (sym is)

-- ---- what each answer means, and what each reading is answered

module _ (reading : Reading) where
  pub means-none : (r : Result (Option Stamped) LineFault) → Answers reading r → IfOk r (λ found. IfNone found (reading ≡ Silent))
  means-none (Ok None) h = h
  means-none (Ok (Some s)) h = tt
  means-none (Err e) h = tt

  pub means-some : (r : Result (Option Stamped) LineFault) → Answers reading r → IfOk r (λ found. IfSome found (λ stamped. reading ≡ Says (told stamped)))
  means-some (Ok None) h = tt
  means-some (Ok (Some s)) h = h
  means-some (Err e) h = tt

  pub means-bad-byte : (r : Result (Option Stamped) LineFault) → Answers reading r → IsErrOf r fault.BadByte → reading ≡ Refusal cause.BadByte
  means-bad-byte (Ok found) h is = cc
  means-bad-byte (Err fault.BadByte) h is = h
  means-bad-byte (Err fault.Syntax) h is = cc
  means-bad-byte (Err fault.Memory) h is = cc

  pub means-syntax : (r : Result (Option Stamped) LineFault) → Answers reading r → IsErrOf r fault.Syntax → reading ≡ Refusal cause.Syntax
  means-syntax (Ok found) h is = cc
  means-syntax (Err fault.BadByte) h is = cc
  means-syntax (Err fault.Syntax) h is = h
  means-syntax (Err fault.Memory) h is = cc

  pub silent-is : (r : Result (Option Stamped) LineFault) → Answers reading r → reading ≡ Silent → UnlessMemory r (r ≡ Ok None)
  silent-is (Ok None) h is = refl
  silent-is (Ok (Some s)) h is = cc
  silent-is (Err fault.BadByte) h is = cc
  silent-is (Err fault.Syntax) h is = cc
  silent-is (Err fault.Memory) h is = tt

  pub event-is : (r : Result (Option Stamped) LineFault) → Answers reading r → (said : Timed) → reading ≡ Says said → UnlessMemory r (IsOkAnd r (λ found. IsSomeAnd found (λ stamped. told stamped ≡ said)))
  event-is (Ok None) h said is = cc
  event-is (Ok (Some s)) h said is = cc
  event-is (Err fault.BadByte) h said is = cc
  event-is (Err fault.Syntax) h said is = cc
  event-is (Err fault.Memory) h said is = tt

  pub bad-byte-is : (r : Result (Option Stamped) LineFault) → Answers reading r → reading ≡ Refusal cause.BadByte → UnlessMemory r (IsErrOf r fault.BadByte)
  bad-byte-is (Ok None) h is = cc
  bad-byte-is (Ok (Some s)) h is = cc
  bad-byte-is (Err fault.BadByte) h is = refl
  bad-byte-is (Err fault.Syntax) h is = cc
  bad-byte-is (Err fault.Memory) h is = tt

  pub syntax-is : (r : Result (Option Stamped) LineFault) → Answers reading r → reading ≡ Refusal cause.Syntax → UnlessMemory r (IsErrOf r fault.Syntax)
  syntax-is (Ok None) h is = cc
  syntax-is (Ok (Some s)) h is = cc
  syntax-is (Err fault.BadByte) h is = cc
  syntax-is (Err fault.Syntax) h is = refl
  syntax-is (Err fault.Memory) h is = tt
