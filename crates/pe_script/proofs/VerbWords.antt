-- What the words behind a verb say, by the words that the code takes.
use Rattle.std.proofs.Common.{◌≡◌, ℕ, Bool, true, false, List, [], ◌∷◌, Option, Some, None, option_map, option_and_then, refl, sym, ◌∙◌, ap, codes, if◌then◌else◌, Result, Ok, Err, IsErrAnd, subst}
use Rattle.pe_base.specs.declared.state.State.{State}
use Rattle.pe_lines.specs.Words.{Word}
use Rattle.pe_events.specs.declared.event.Event.{Event}
use Rattle.pe_events.specs.declared.event.EventLife.{EventLife}
use Rattle.pe_events.specs.declared.event.Outcome.{Outcome}
use Rattle.pe_events.specs.declared.event.Event.TheVariants as event
use Rattle.pe_script.specs.Numerals.{bare, span_of}
use Rattle.pe_script.specs.Names.{is_keyword, states, keyword_in}
use Rattle.pe_script.specs.Verbs.{frame_word, prompt_word, text_unless, options, headers, embedding, lasting_outcomes, read_open, read_embed, read_nav, read_answer, read_outcome, read_life, read_setting, read_set}
use Rattle.pe_script.specs.declared.reading.LineFault.{LineFault}
use Rattle.pe_script.specs.declared.reading.LineFault.TheVariants as fault
use Rattle.pe_script.specs.Answering.{Gives}
use Rattle.pe_script.specs.Taking.{span_given, setting_words}
use Rattle.pe_script.specs.declared.verbs.permissions.SettingWords.{SettingWords}
use Rattle.pe_script.proofs.Takes.{behind}

-- ---- answers that follow from others

pub gives_same : {A : Type 0} (said other : Option A) (result : Result A LineFault) → other ≡ said → Gives other result → Gives said result
gives_same {A = A} said other result e h = subst (λ (o : Option A). Gives o result) e h

gives_fault : {A B : Type 0} (said : Option A) (other : Option B) (why : LineFault) → (None ≡ said → None ≡ other) → Gives said (Err why) → Gives other (Err why)
gives_fault said other fault.BadByte h given = given
gives_fault said other fault.Syntax h given = h given
gives_fault said other fault.Memory h given = tt

-- the fault of a call that a `?` gives back
pub gives_broken : {A B : Type 0} (said : Option A) (other : Option B) (why : LineFault) (result : Result B LineFault) → IsErrAnd result (λ e. e ≡ why) → (None ≡ said → None ≡ other) → Gives said (Err why) → Gives other result
gives_broken said other why (Ok value) is h given = absurd is
gives_broken said other why (Err e) is h given = subst (λ (f : LineFault). Gives other (Err f)) (sym is) (gives_fault said other why h given)

-- ---- the words behind a verb, one taken after another

pub open_left : (url : Word) (more : Option (List Word)) → option_and_then read_open (behind url more) ≡ option_map (event.OpenPage url.text) (option_and_then headers more)
open_left url None = refl
open_left url (Some more) = refl

pub nav_left : (frame url : Word) (more : Option (List Word)) (f : ℕ) → Some f ≡ frame_word frame → option_and_then read_nav (behind frame (behind url more)) ≡ option_map (event.Navigate f url.text) (option_and_then headers more)
nav_left frame url None f e = refl
nav_left frame url (Some more) f e = ap (option_and_then (λ f. option_map (event.Navigate f url.text) (headers more))) (sym e)

pub embed_left : (frame src : Word) (more : Option (List Word)) (f : ℕ) → Some f ≡ frame_word frame → option_and_then read_embed (behind frame (behind src more)) ≡ option_and_then (embedding f (text_unless (codes "none") src)) (option_and_then options more)
embed_left frame src None f e = refl
embed_left frame src (Some more) f e = ap (option_and_then (λ f. option_and_then (embedding f (text_unless (codes "none") src)) (options more))) (sym e)

pub answer_left : (prompt word : Word) (more : Option (List Word)) (p : ℕ) → Some p ≡ prompt_word prompt → option_and_then read_answer (behind prompt (behind word more)) ≡ option_and_then (read_outcome p word) more
answer_left prompt word None p e = refl
answer_left prompt word (Some more) p e = ap (option_and_then (λ p. read_outcome p word more)) (sym e)

pub set_left : (feature : Word) (more : Option (List Word)) (f : List ℕ) → Some f ≡ bare feature → option_and_then read_set (behind feature more) ≡ option_and_then (read_setting f) more
set_left feature None f e = refl
set_left feature (Some more) f e = ap (option_and_then (λ f. read_setting f more)) (sym e)

-- no object where the frame or the prompt is none
embed_none_by : (frame src : Word) (more : Option (List Word)) → None ≡ frame_word frame → None ≡ option_and_then read_embed (behind frame (behind src more))
embed_none_by frame src None e = refl
embed_none_by frame src (Some more) e = ap (option_and_then (λ f. option_and_then (embedding f (text_unless (codes "none") src)) (options more))) e

pub embed_none : (words more rest : Option (List Word)) (frame src : Word) → words ≡ behind frame more → more ≡ behind src rest → None ≡ frame_word frame → None ≡ option_and_then read_embed words
embed_none words more rest frame src next after e = embed_none_by frame src rest e ∙ sym (ap (option_and_then read_embed) (next ∙ ap (behind frame) after))

nav_none_by : (frame url : Word) (more : Option (List Word)) → None ≡ frame_word frame → None ≡ option_and_then read_nav (behind frame (behind url more))
nav_none_by frame url None e = refl
nav_none_by frame url (Some more) e = ap (option_and_then (λ f. option_map (event.Navigate f url.text) (headers more))) e

pub nav_none : (words more rest : Option (List Word)) (frame url : Word) → words ≡ behind frame more → more ≡ behind url rest → None ≡ frame_word frame → None ≡ option_and_then read_nav words
nav_none words more rest frame url next after e = nav_none_by frame url rest e ∙ sym (ap (option_and_then read_nav) (next ∙ ap (behind frame) after))

answer_none_by : (prompt word : Word) (more : Option (List Word)) → None ≡ prompt_word prompt → None ≡ option_and_then read_answer (behind prompt (behind word more))
answer_none_by prompt word None e = refl
answer_none_by prompt word (Some more) e = ap (option_and_then (λ p. read_outcome p word more)) e

pub answer_none : (words more rest : Option (List Word)) (prompt word : Word) → words ≡ behind prompt more → more ≡ behind word rest → None ≡ prompt_word prompt → None ≡ option_and_then read_answer words
answer_none words more rest prompt word next after e = answer_none_by prompt word rest e ∙ sym (ap (option_and_then read_answer) (next ∙ ap (behind prompt) after))

set_none_by : (feature : Word) (more : Option (List Word)) → None ≡ bare feature → None ≡ option_and_then read_set (behind feature more)
set_none_by feature None e = refl
set_none_by feature (Some more) e = ap (option_and_then (λ f. read_setting f more)) e

pub set_none : (words more : Option (List Word)) (feature : Word) → words ≡ behind feature more → None ≡ bare feature → None ≡ option_and_then read_set words
set_none words more feature next e = set_none_by feature more e ∙ sym (ap (option_and_then read_set) next)

no-outcome : {A B : Type 0} (f : A → Option B) (o : Option A) → ((a : A) → None ≡ f a) → None ≡ option_and_then f o
no-outcome f None none = refl
no-outcome f (Some a) none = none a

pub outcome_left : (prompt : ℕ) (word : Word) (words : Option (List Word)) → (words ≡ Some [] → ⊥)
    → option_and_then (read_outcome prompt word) words ≡ option_and_then (λ out. option_map (event.Answered prompt out) (option_and_then read_life words)) (keyword_in lasting_outcomes word)
outcome_left prompt word None some = no-outcome (λ (out : Outcome). option_map (event.Answered prompt out) (option_and_then read_life None)) (keyword_in lasting_outcomes word) (λ out. refl)
outcome_left prompt word (Some []) some = absurd (some refl)
outcome_left prompt word (Some (w ∷ more)) some = refl

pub outcome_is : (prompt : ℕ) (word : Word) (words : Option (List Word)) (out : Outcome) (lives : Option EventLife) → (words ≡ Some [] → ⊥) → Some out ≡ keyword_in lasting_outcomes word → lives ≡ option_and_then read_life words
    → option_map (event.Answered prompt out) lives ≡ option_and_then (read_outcome prompt word) words
outcome_is prompt word words out lives some is-out is-life =
    ap (option_map (event.Answered prompt out)) is-life
    ∙ ap (option_and_then (λ out. option_map (event.Answered prompt out) (option_and_then read_life words))) is-out
    ∙ sym (outcome_left prompt word words some)

pub outcome_none : (prompt : ℕ) (word : Word) (words : Option (List Word)) → (words ≡ Some [] → ⊥) → None ≡ keyword_in lasting_outcomes word → None ≡ option_and_then (read_outcome prompt word) words
outcome_none prompt word words some none =
    ap (option_and_then (λ out. option_map (event.Answered prompt out) (option_and_then read_life words))) none ∙ sym (outcome_left prompt word words some)

-- ---- what stands behind the feature of `set`

-- the text of a word that may be there
abbrev pub text_given : Option Word → Option (List ℕ)
text_given word = option_map (λ (w : Word). w.text) word

-- a setting, by its words
abbrev pub setting_by : List ℕ → Word → SettingWords → Option Event
setting_by feature first w =
    option_and_then (λ span. option_map (λ s. event.SetState feature first.text (text_given w.second) s span) (keyword_in states w.state)) (span_given w.span)

for-span : (feature first : List ℕ) (second : Option (List ℕ)) (b : Bool) (o : Option State) (n : Option ℕ)
    → (if b then option_and_then (λ span. option_map (λ s. event.SetState feature first second s (Some span)) o) n else None)
    ≡ option_and_then (λ span. option_map (λ s. event.SetState feature first second s span) o) (option_map (λ span. Some span) (if b then n else None))
for-span feature first second false o n = refl
for-span feature first second true o None = refl
for-span feature first second true o (Some n) = refl

setting-by : (feature : List ℕ) (first : Word) (rest : List Word) → read_setting feature (first ∷ rest) ≡ option_and_then (setting_by feature first) (setting_words rest)
setting-by feature first [] = refl
setting-by feature first (word ∷ []) = refl
setting-by feature first (second ∷ word ∷ []) = refl
setting-by feature first (word ∷ keyword ∷ ms ∷ []) = for-span feature first.text None (is_keyword (codes "for") keyword) (keyword_in states word) (option_and_then span_of (bare ms))
setting-by feature first (second ∷ word ∷ keyword ∷ ms ∷ []) = for-span feature first.text (Some second.text) (is_keyword (codes "for") keyword) (keyword_in states word) (option_and_then span_of (bare ms))
setting-by feature first (a ∷ b ∷ c ∷ d ∷ e ∷ more) = refl

setting-left : (feature : List ℕ) (first : Word) (rest : Option (List Word)) → option_and_then (setting_by feature first) (option_and_then setting_words rest) ≡ option_and_then (read_setting feature) (option_map (λ ws. first ∷ ws) rest)
setting-left feature first None = refl
setting-left feature first (Some rest) = sym (setting-by feature first rest)

-- what the words of a setting give
pub setting_is : (feature : List ℕ) (words rest : Option (List Word)) (first : Word) (found : Option SettingWords) → words ≡ option_map (λ ws. first ∷ ws) rest → found ≡ option_and_then setting_words rest
    → option_and_then (setting_by feature first) found ≡ option_and_then (read_setting feature) words
setting_is feature words rest first found next is =
    ap (option_and_then (setting_by feature first)) is ∙ setting-left feature first rest ∙ ap (option_and_then (read_setting feature)) (sym next)

pub set_is : (feature : List ℕ) (first : Word) (w : SettingWords) (span : Option ℕ) (s : State) (second : Option (List ℕ)) (text : List ℕ) → Some span ≡ span_given w.span → Some s ≡ keyword_in states w.state
    → text ≡ first.text → second ≡ text_given w.second → Some (event.SetState feature text second s span) ≡ setting_by feature first w
set_is feature first w span s second text is-span is-state is-text is-second =
    ap (λ (o : Option (List ℕ)). Some (event.SetState feature text o s span)) is-second
    ∙ ap (λ (t : List ℕ). Some (event.SetState feature t (text_given w.second) s span)) is-text
    ∙ ap (option_map (λ s. event.SetState feature first.text (text_given w.second) s span)) is-state
    ∙ ap (option_and_then (λ span. option_map (λ s. event.SetState feature first.text (text_given w.second) s span) (keyword_in states w.state))) is-span

pub no_span : (feature : List ℕ) (first : Word) (w : SettingWords) → None ≡ span_given w.span → None ≡ setting_by feature first w
no_span feature first w e = ap (option_and_then (λ span. option_map (λ s. event.SetState feature first.text (text_given w.second) s span) (keyword_in states w.state))) e

no_state_by : (feature : List ℕ) (first : Word) (w : SettingWords) (o : Option (Option ℕ)) → None ≡ option_and_then (λ (span : Option ℕ). option_map (λ (s : State). event.SetState feature first.text (text_given w.second) s span) None) o
no_state_by feature first w None = refl
no_state_by feature first w (Some span) = refl

pub no_state : (feature : List ℕ) (first : Word) (w : SettingWords) → None ≡ keyword_in states w.state → None ≡ setting_by feature first w
no_state feature first w e =
    no_state_by feature first w (span_given w.span)
    ∙ ap (λ (o : Option State). option_and_then (λ (span : Option ℕ). option_map (λ (s : State). event.SetState feature first.text (text_given w.second) s span) o) (span_given w.span)) e
