-- What words behind a verb give, by the words that are taken off, where what is left may be no list of words.
use Rattle.std.proofs.Common.{◌≡◌, ℕ, true, false, List, [], ◌∷◌, Option, Some, None, option_map, option_and_then, refl, sym, ap, ◌∙◌, codes, if◌then◌else◌, inl, inr, Bool}
use Rattle.std.specs.Prelude.{◌⊎◌}
use Rattle.pe_base.specs.declared.input.InputKind.{InputKind}
use Rattle.pe_lines.specs.Words.{Word}
use Rattle.pe_events.specs.declared.event.AttrName.{AttrName}
use Rattle.pe_events.specs.declared.event.Event.{Event}
use Rattle.pe_events.specs.declared.event.Event.TheVariants as event
use Rattle.pe_events.specs.declared.event.EventLife.TheVariants as life
use Rattle.pe_script.specs.Names.{is_keyword, input_kinds, attribute_names, keyword_in}
use Rattle.pe_script.specs.Numerals.{bare, span_of}
use Rattle.pe_script.specs.Taking.{one, two, three, four, span_for, setting_words}
use Rattle.pe_script.specs.Verbs.{frame_word, status_word, message_word, text_unless, read_attr, read_post, read_on_frame, read_with_name, read_input, read_drop, read_life, read_deliver, read_tick}
use Rattle.pe_script.specs.declared.verbs.permissions.SettingWords.{SettingWords}

-- a word in front of those that are left
abbrev pub behind : Word → Option (List Word) → Option (List Word)
behind word words = option_map (λ more. word ∷ more) words

-- what is said by what was taken off, where nothing was taken off and where something was
pub by_none : {A B : Type 0} (said : Option B) (taken : Option A) (said_of : A → Option B) → said ≡ option_and_then said_of taken → None ≡ taken → None ≡ said
by_none said taken said_of left none = ap (option_and_then said_of) none ∙ sym left

pub by_some : {A B : Type 0} (said answer : Option B) (taken : Option A) (said_of : A → Option B) (a : A) → said ≡ option_and_then said_of taken → Some a ≡ taken → answer ≡ said_of a → answer ≡ said
by_some said answer taken said_of a left is e = e ∙ ap (option_and_then said_of) is ∙ sym left

-- nothing is taken off where no word is left, or what is left is no list of words
pub nothing_of : {A : Type 0} (f : List Word → Option A) (words : Option (List Word)) → f [] ≡ None → (words ≡ None) ⊎ (words ≡ Some []) → None ≡ option_and_then f words
nothing_of f words e (inl none) = sym (ap (option_and_then f) none)
nothing_of f words e (inr empty) = sym (ap (option_and_then f) empty ∙ e)

pub nothing_behind : {A : Type 0} (f : List Word → Option A) (words more : Option (List Word)) (first : Word) → words ≡ behind first more → f (first ∷ []) ≡ None → (more ≡ None) ⊎ (more ≡ Some []) → None ≡ option_and_then f words
nothing_behind f words more first next e (inl none) = sym (ap (option_and_then f) (next ∙ ap (behind first) none))
nothing_behind f words more first next e (inr empty) = sym (ap (option_and_then f) (next ∙ ap (behind first) empty) ∙ e)

-- the one word
pub one_is : (words more : Option (List Word)) (first : Word) → words ≡ behind first more → more ≡ Some [] → Some first ≡ option_and_then one words
one_is words more first next done = sym (ap (option_and_then one) (next ∙ ap (behind first) done))

one_of_more : (more : Option (List Word)) (first : Word) → (more ≡ Some [] → ⊥) → None ≡ option_and_then one (behind first more)
one_of_more None first some = refl
one_of_more (Some []) first some = absurd (some refl)
one_of_more (Some (word ∷ more)) first some = refl

pub one_none : (words more : Option (List Word)) (first : Word) → words ≡ behind first more → (more ≡ Some [] → ⊥) → None ≡ option_and_then one words
one_none words more first next some = one_of_more more first some ∙ sym (ap (option_and_then one) next)

-- two, three and four words, by one less
two_by : (words : List Word) (first : Word) → two (first ∷ words) ≡ option_map (λ w. (first, w)) (one words)
two_by [] first = refl
two_by (a ∷ []) first = refl
two_by (a ∷ b ∷ words) first = refl

three_by : (words : List Word) (first : Word) → three (first ∷ words) ≡ option_map (λ w. (first, w.0, w.1)) (two words)
three_by [] first = refl
three_by (a ∷ []) first = refl
three_by (a ∷ b ∷ []) first = refl
three_by (a ∷ b ∷ c ∷ words) first = refl

four_by : (words : List Word) (first : Word) → four (first ∷ words) ≡ option_map (λ w. (first, w.0, w.1, w.2)) (three words)
four_by [] first = refl
four_by (a ∷ []) first = refl
four_by (a ∷ b ∷ []) first = refl
four_by (a ∷ b ∷ c ∷ []) first = refl
four_by (a ∷ b ∷ c ∷ d ∷ words) first = refl

pub two_left : (words : Option (List Word)) (first : Word) → option_and_then two (behind first words) ≡ option_map (λ w. (first, w)) (option_and_then one words)
two_left None first = refl
two_left (Some words) first = two_by words first

pub two_is : (words more : Option (List Word)) (first : Word) (taken : Option Word) → words ≡ behind first more → taken ≡ option_and_then one more → option_map (λ w. (first, w)) taken ≡ option_and_then two words
two_is words more first taken next is = ap (option_map (λ w. (first, w))) is ∙ sym (two_left more first) ∙ sym (ap (option_and_then two) next)

pub three_left : (words : Option (List Word)) (first : Word) → option_and_then three (behind first words) ≡ option_map (λ w. (first, w.0, w.1)) (option_and_then two words)
three_left None first = refl
three_left (Some words) first = three_by words first

pub three_is : (words more : Option (List Word)) (first : Word) (taken : Option (Word × Word)) → words ≡ behind first more → taken ≡ option_and_then two more → option_map (λ w. (first, w.0, w.1)) taken ≡ option_and_then three words
three_is words more first taken next is = ap (option_map (λ (w : Word × Word). (first, w.0, w.1))) is ∙ sym (three_left more first) ∙ sym (ap (option_and_then three) next)

pub four_left : (words : Option (List Word)) (first : Word) → option_and_then four (behind first words) ≡ option_map (λ w. (first, w.0, w.1, w.2)) (option_and_then three words)
four_left None first = refl
four_left (Some words) first = four_by words first

pub four_is : (words more : Option (List Word)) (first : Word) (taken : Option (Word × Word × Word)) → words ≡ behind first more → taken ≡ option_and_then three more → option_map (λ w. (first, w.0, w.1, w.2)) taken ≡ option_and_then four words
four_is words more first taken next is = ap (option_map (λ (w : Word × Word × Word). (first, w.0, w.1, w.2))) is ∙ sym (four_left more first) ∙ sym (ap (option_and_then four) next)

-- the verbs by the words behind them
abbrev pub frame_alone : (ℕ → Event) → Word → Option Event
frame_alone make frame = option_map make (frame_word frame)

on_frame_by : (make : ℕ → Event) (words : List Word) → read_on_frame make words ≡ option_and_then (frame_alone make) (one words)
on_frame_by make [] = refl
on_frame_by make (a ∷ []) = refl
on_frame_by make (a ∷ b ∷ words) = refl

pub on_frame_left : (make : ℕ → Event) (words : Option (List Word)) → option_and_then (read_on_frame make) words ≡ option_and_then (frame_alone make) (option_and_then one words)
on_frame_left make None = refl
on_frame_left make (Some words) = on_frame_by make words

-- a frame and a name
abbrev pub frame_and_name : (ℕ → List ℕ → Event) → Word × Word → Option Event
frame_and_name make pair = option_and_then (λ f. option_map (make f) (bare pair.1)) (frame_word pair.0)

pub named : (make : ℕ → List ℕ → Event) (frame name : Word) (f : ℕ) (text : Option (List ℕ)) → Some f ≡ frame_word frame → text ≡ bare name → option_map (make f) text ≡ frame_and_name make (frame, name)
named make frame name f text is-frame is-text = ap (option_map (make f)) is-text ∙ ap (option_and_then (λ f. option_map (make f) (bare name))) is-frame

with_name_by : (make : ℕ → List ℕ → Event) (words : List Word) → read_with_name make words ≡ option_and_then (frame_and_name make) (two words)
with_name_by make [] = refl
with_name_by make (a ∷ []) = refl
with_name_by make (a ∷ b ∷ []) = refl
with_name_by make (a ∷ b ∷ c ∷ words) = refl

pub with_name_left : (make : ℕ → List ℕ → Event) (words : Option (List Word)) → option_and_then (read_with_name make) words ≡ option_and_then (frame_and_name make) (option_and_then two words)
with_name_left make None = refl
with_name_left make (Some words) = with_name_by make words

-- a frame and a kind of input
abbrev pub frame_and_kind : Word × Word → Option Event
frame_and_kind pair = option_and_then (λ f. option_map (event.Input f) (keyword_in input_kinds pair.1)) (frame_word pair.0)

pub kind_is : (frame kind : Word) (f : ℕ) (found : Option InputKind) → Some f ≡ frame_word frame → found ≡ keyword_in input_kinds kind → option_map (event.Input f) found ≡ frame_and_kind (frame, kind)
kind_is frame kind f found is-frame is-kind = ap (option_map (event.Input f)) is-kind ∙ ap (option_and_then (λ f. option_map (event.Input f) (keyword_in input_kinds kind))) is-frame

input_by : (words : List Word) → read_input words ≡ option_and_then frame_and_kind (two words)
input_by [] = refl
input_by (a ∷ []) = refl
input_by (a ∷ b ∷ []) = refl
input_by (a ∷ b ∷ c ∷ words) = refl

pub input_left : (words : Option (List Word)) → option_and_then read_input words ≡ option_and_then frame_and_kind (option_and_then two words)
input_left None = refl
input_left (Some words) = input_by words

-- a status
abbrev pub drop_of : Word → Option Event
drop_of status = option_map event.DropStatus (status_word status)

drop_by : (words : List Word) → read_drop words ≡ option_and_then drop_of (one words)
drop_by [] = refl
drop_by (a ∷ []) = refl
drop_by (a ∷ b ∷ words) = refl

pub drop_left : (words : Option (List Word)) → option_and_then read_drop words ≡ option_and_then drop_of (option_and_then one words)
drop_left None = refl
drop_left (Some words) = drop_by words

-- a message that is delivered
abbrev pub deliver_of : Word → Option Event
deliver_of message = option_map event.Deliver (message_word message)

deliver_by : (words : List Word) → read_deliver words ≡ option_and_then deliver_of (one words)
deliver_by [] = refl
deliver_by (a ∷ []) = refl
deliver_by (a ∷ b ∷ words) = refl

pub deliver_left : (words : Option (List Word)) → option_and_then read_deliver words ≡ option_and_then deliver_of (option_and_then one words)
deliver_left None = refl
deliver_left (Some words) = deliver_by words

-- words behind `tick`
pub tick_is : (words : Option (List Word)) → words ≡ Some [] → Some event.Tick ≡ option_and_then read_tick words
tick_is words done = sym (ap (option_and_then read_tick) done)

pub tick_none : (words : Option (List Word)) → (words ≡ Some [] → ⊥) → None ≡ option_and_then read_tick words
tick_none None some = refl
tick_none (Some []) some = absurd (some refl)
tick_none (Some (word ∷ words)) some = refl

-- what is left is no list of words, where no next word is found and not all are taken off
pub stuck_here : (words : Option (List Word)) → (words ≡ None) ⊎ (words ≡ Some []) → (words ≡ Some [] → ⊥) → words ≡ None
stuck_here words (inl none) some = none
stuck_here words (inr empty) some = absurd (some empty)

pub stuck_behind : (words more : Option (List Word)) (first : Word) → words ≡ behind first more → (more ≡ None) ⊎ (more ≡ Some []) → (more ≡ Some [] → ⊥) → words ≡ None
stuck_behind words more first next none some = next ∙ ap (behind first) (stuck_here more none some)

pub stuck_behind_two : (words more rest : Option (List Word)) (first second : Word) → words ≡ behind first more → more ≡ behind second rest → (rest ≡ None) ⊎ (rest ≡ Some []) → (rest ≡ Some [] → ⊥) → words ≡ None
stuck_behind_two words more rest first second next after none some = next ∙ ap (behind first) (after ∙ ap (behind second) (stuck_here rest none some))

-- a life by its two words
for_span : (b : Bool) (span : Option ℕ) → (if b then option_map life.For span else None) ≡ option_map life.For (if b then span else None)
for_span true span = refl
for_span false span = refl

pub life_left : (words : Option (List Word)) (keyword : Word) → (words ≡ Some [] → ⊥) → option_and_then read_life (behind keyword words) ≡ option_and_then (λ ms. option_map life.For (span_for keyword ms)) (option_and_then one words)
life_left None keyword some = refl
life_left (Some []) keyword some = absurd (some refl)
life_left (Some (ms ∷ [])) keyword some = for_span (is_keyword (codes "for") keyword) (option_and_then span_of (bare ms))
life_left (Some (a ∷ b ∷ words)) keyword some = refl

pub life_is : (words more : Option (List Word)) (keyword : Word) (ms : Word) (span : Option ℕ) → words ≡ behind keyword more → (more ≡ Some [] → ⊥) → Some ms ≡ option_and_then one more → span ≡ span_for keyword ms
    → option_map life.For span ≡ option_and_then read_life words
life_is words more keyword ms span next some is is-span =
    ap (option_map life.For) is-span
    ∙ ap (option_and_then (λ ms. option_map life.For (span_for keyword ms))) is
    ∙ sym (life_left more keyword some) ∙ sym (ap (option_and_then read_life) next)

pub life_none : (words more : Option (List Word)) (keyword : Word) → words ≡ behind keyword more → (more ≡ Some [] → ⊥) → None ≡ option_and_then one more → None ≡ option_and_then read_life words
life_none words more keyword next some none =
    ap (option_and_then (λ ms. option_map life.For (span_for keyword ms))) none
    ∙ sym (life_left more keyword some) ∙ sym (ap (option_and_then read_life) next)

-- what a reader of words gives, where one, two or three are left
pub of_none : {A : Type 0} (f : List Word → Option A) (words : Option (List Word)) → words ≡ None → None ≡ option_and_then f words
of_none f words none = sym (ap (option_and_then f) none)

pub of_done : {A : Type 0} (f : List Word → Option A) (words : Option (List Word)) → words ≡ Some [] → f [] ≡ option_and_then f words
of_done f words done = sym (ap (option_and_then f) done)

pub of_one : {A : Type 0} (f : List Word → Option A) (words more : Option (List Word)) (a : Word) → words ≡ behind a more → more ≡ Some [] → f (a ∷ []) ≡ option_and_then f words
of_one f words more a next done = sym (ap (option_and_then f) (next ∙ ap (behind a) done))

pub of_two : {A : Type 0} (f : List Word → Option A) (words more rest : Option (List Word)) (a b : Word) → words ≡ behind a more → more ≡ behind b rest → rest ≡ Some [] → f (a ∷ b ∷ []) ≡ option_and_then f words
of_two f words more rest a b next after done = sym (ap (option_and_then f) (next ∙ ap (behind a) (after ∙ ap (behind b) done)))

pub of_three : {A : Type 0} (f : List Word → Option A) (words more rest last : Option (List Word)) (a b c : Word) → words ≡ behind a more → more ≡ behind b rest → rest ≡ behind c last → last ≡ Some [] → f (a ∷ b ∷ c ∷ []) ≡ option_and_then f words
of_three f words more rest last a b c next after third done = sym (ap (option_and_then f) (next ∙ ap (behind a) (after ∙ ap (behind b) (third ∙ ap (behind c) done))))

-- four words of a setting
abbrev pub setting_with : Word → Word → Word → Word → SettingWords
setting_with a b c d = record { second = Some a; state = b; span = Some (c, d) }

pub four_of_setting : (words : Option (List Word)) (a b c : Word) → (words ≡ Some [] → ⊥)
    → option_and_then setting_words (behind a (behind b (behind c words))) ≡ option_map (λ d. setting_with a b c d) (option_and_then one words)
four_of_setting None a b c some = refl
four_of_setting (Some []) a b c some = absurd (some refl)
four_of_setting (Some (d ∷ [])) a b c some = refl
four_of_setting (Some (d ∷ e ∷ words)) a b c some = refl

pub setting_of_four : (words more rest last : Option (List Word)) (a b c : Word) (fourth : Option Word) → words ≡ behind a more → more ≡ behind b rest → rest ≡ behind c last → (last ≡ Some [] → ⊥) → fourth ≡ option_and_then one last
    → option_map (λ d. setting_with a b c d) fourth ≡ option_and_then setting_words words
setting_of_four words more rest last a b c fourth next after third some is =
    ap (option_map (λ d. setting_with a b c d)) is ∙ sym (four_of_setting last a b c some)
    ∙ sym (ap (option_and_then setting_words) (next ∙ ap (behind a) (after ∙ ap (behind b) third)))

-- an attribute, by its three words
abbrev pub attr_of : Word × Word × Word → Option Event
attr_of w = option_and_then (λ f. option_map (λ n. event.Attr f n (text_unless (codes "none") w.2)) (keyword_in attribute_names w.1)) (frame_word w.0)

pub attr_is : (frame name value : Word) (f : ℕ) (found : Option AttrName) → Some f ≡ frame_word frame → found ≡ keyword_in attribute_names name → option_map (λ n. event.Attr f n (text_unless (codes "none") value)) found ≡ attr_of (frame, name, value)
attr_is frame name value f found is-frame is-name =
    ap (option_map (λ n. event.Attr f n (text_unless (codes "none") value))) is-name
    ∙ ap (option_and_then (λ f. option_map (λ n. event.Attr f n (text_unless (codes "none") value)) (keyword_in attribute_names name))) is-frame

attr_by : (words : List Word) → read_attr words ≡ option_and_then attr_of (three words)
attr_by [] = refl
attr_by (a ∷ []) = refl
attr_by (a ∷ b ∷ []) = refl
attr_by (a ∷ b ∷ c ∷ []) = refl
attr_by (a ∷ b ∷ c ∷ d ∷ words) = refl

pub attr_left : (words : Option (List Word)) → option_and_then read_attr words ≡ option_and_then attr_of (option_and_then three words)
attr_left None = refl
attr_left (Some words) = attr_by words

-- a message, by its four words
abbrev pub post_of : Word × Word × Word × Word → Option Event
post_of w = option_and_then (λ f. option_and_then (λ g. option_map (event.Post f g (text_unless (codes "*") w.2)) (bare w.3)) (frame_word w.1)) (frame_word w.0)

pub post_is : (sender target named capability : Word) (f g : ℕ) (found : Option (List ℕ)) → Some f ≡ frame_word sender → Some g ≡ frame_word target → found ≡ bare capability
    → option_map (event.Post f g (text_unless (codes "*") named)) found ≡ post_of (sender, target, named, capability)
post_is sender target named capability f g found is-sender is-target is-capability =
    ap (option_map (event.Post f g (text_unless (codes "*") named))) is-capability
    ∙ ap (option_and_then (λ g. option_map (event.Post f g (text_unless (codes "*") named)) (bare capability))) is-target
    ∙ ap (option_and_then (λ f. option_and_then (λ g. option_map (event.Post f g (text_unless (codes "*") named)) (bare capability)) (frame_word target))) is-sender

pub no_target : (sender target named capability : Word) (f : ℕ) → Some f ≡ frame_word sender → None ≡ frame_word target → None ≡ post_of (sender, target, named, capability)
no_target sender target named capability f is-sender none =
    ap (option_and_then (λ g. option_map (event.Post f g (text_unless (codes "*") named)) (bare capability))) none
    ∙ ap (option_and_then (λ f. option_and_then (λ g. option_map (event.Post f g (text_unless (codes "*") named)) (bare capability)) (frame_word target))) is-sender

post_by : (words : List Word) → read_post words ≡ option_and_then post_of (four words)
post_by [] = refl
post_by (a ∷ []) = refl
post_by (a ∷ b ∷ []) = refl
post_by (a ∷ b ∷ c ∷ []) = refl
post_by (a ∷ b ∷ c ∷ d ∷ []) = refl
post_by (a ∷ b ∷ c ∷ d ∷ e ∷ words) = refl

pub post_left : (words : Option (List Word)) → option_and_then read_post words ≡ option_and_then post_of (option_and_then four words)
post_left None = refl
post_left (Some words) = post_by words
