-- What the words of options give, one after another.
use Rattle.std.proofs.Common.{◌≡◌, ℕ, Bool, true, false, not, List, [], ◌∷◌, Option, Some, None, is_some, unwrap_or, option_map, refl, sym, ◌∙◌, ap, codes, bytes_eq, if◌then◌else◌, fold, Result, Ok, Err, inl, inr}
use Rattle.std.specs.Prelude.{IfOk, option_and_then, ◌⊎◌}
use Rattle.std.proofs.lemmas.Slice.Eq.{bytes_eq-Decides}
use Rattle.pe_lines.specs.Words.{Word}
use Rattle.pe_script.specs.Numerals.{bare}
use Rattle.pe_script.specs.Names.{is_keyword, keyword_in}
use Rattle.pe_script.specs.Verbs.{OptionName, Options, no_options, option_names, with_name, with_word, options, only_header, headers}
use Rattle.pe_script.specs.declared.options.OptionName.{OptionName as Name}
use Rattle.pe_script.specs.OptionSteps.{option_step, settled, options_from, options_left, if_taken, told_name, with_option}
use Rattle.pe_script.proofs.Takes.{behind}

-- a bare word that is a keyword
pub keyword-bare : (k : List ℕ) (w : Word) → is_keyword k w ≡ true → bare w ≡ Some k
keyword-bare k w h = by_quotes w.quoted h
  where
    by_quotes : (q : Bool) → unwrap_or (option_map (λ text. bytes_eq text k) (if q then None else Some w.text)) false ≡ true → (if q then None else Some w.text) ≡ Some k
    by_quotes true e = cc
    by_quotes false e = ap Some ((bytes_eq-Decides w.text k).0 e)

pub options-begin : (words : List Word) → options_from (Some no_options) words ≡ options words
unfolding options_from options
options-begin words = refl

pub options-end : (given : Options) → given.waiting ≡ None → options_from (Some given) [] ≡ Some given
unfolding options_from
options-end given e = by_waiting given.waiting e
  where
    by_waiting : (o : Option OptionName) → o ≡ None → (if is_some o then None else Some given) ≡ Some given
    by_waiting None e = refl
    by_waiting (Some name) e = cc

-- one word on
pub options-step : (so_far : Option Options) (word : Word) (words : List Word) → options_from so_far (word ∷ words) ≡ options_from (option_step so_far word) words
unfolding options_from
options-step so_far word words = refl

none-stays : (words : List Word) → fold option_step None words ≡ None
none-stays [] = refl
none-stays (word ∷ words) = none-stays words

-- one refused option refuses all
pub options-none : (words : List Word) → options_from None words ≡ None
unfolding options_from
options-none words = ap settled (none-stays words)

-- a name, where nothing waits for its text
pub options-name : (given : Options) (word : Word) (words : List Word) → given.waiting ≡ None → options_from (Some given) (word ∷ words) ≡ options_from (with_name word given) words
options-name given word words none = options-step (Some given) word words ∙ ap (λ o. options_from (with_word o word given) words) none

once : (f : Bool) (given : Options) → (if f then None else Some given) ≡ if_taken (not f) given
once true given = refl
once false given = refl

-- the two names without a text, where the code shows the options so far
fullscreen-on : (shown given : Options) (word : Word) (words : List Word) (flag taken : Bool) → shown ≡ given → shown.waiting ≡ None → is_keyword (codes "fullscreen") word ≡ true
    → taken ≡ not shown.fullscreen → flag ≡ true → options_from (Some given) (word ∷ words) ≡ options_from (if_taken taken (record shown { fullscreen = flag })) words
fullscreen-on shown given word words flag taken same none key is set =
    let named : with_name word shown ≡ (if shown.fullscreen then None else Some (record shown { fullscreen = true })) = rw (keyword-bare (codes "fullscreen") word key) refl in
    ap (λ o. options_from (Some o) (word ∷ words)) (sym same) ∙ options-name shown word words none
    ∙ ap (λ o. options_from o words) (named ∙ once shown.fullscreen (record shown { fullscreen = true }) ∙ ap (λ t. if_taken t (record shown { fullscreen = true })) (sym is) ∙ ap (λ (b : Bool). if_taken taken (record shown { fullscreen = b })) (sym set))

srcdoc-on : (shown given : Options) (word : Word) (words : List Word) (flag taken : Bool) → shown ≡ given → shown.waiting ≡ None → is_keyword (codes "srcdoc") word ≡ true
    → taken ≡ not shown.srcdoc → flag ≡ true → options_from (Some given) (word ∷ words) ≡ options_from (if_taken taken (record shown { srcdoc = flag })) words
srcdoc-on shown given word words flag taken same none key is set =
    let named : with_name word shown ≡ (if shown.srcdoc then None else Some (record shown { srcdoc = true })) = rw (keyword-bare (codes "srcdoc") word key) refl in
    ap (λ o. options_from (Some o) (word ∷ words)) (sym same) ∙ options-name shown word words none
    ∙ ap (λ o. options_from o words) (named ∙ once shown.srcdoc (record shown { srcdoc = true }) ∙ ap (λ t. if_taken t (record shown { srcdoc = true })) (sym is) ∙ ap (λ (b : Bool). if_taken taken (record shown { srcdoc = b })) (sym set))

-- a word that is neither of the two
other-name : (given : Options) (word : Word) → is_keyword (codes "fullscreen") word ≡ false → is_keyword (codes "srcdoc") word ≡ false
    → with_name word given ≡ option_map (λ name. record given { waiting = Some name }) (keyword_in option_names word)
other-name given word f s = by_tests (is_keyword (codes "fullscreen") word) (is_keyword (codes "srcdoc") word) f s
  where
    by_tests : (a b : Bool) → a ≡ false → b ≡ false
        → (if a then (if given.fullscreen then None else Some (record given { fullscreen = true })) else (if b then (if given.srcdoc then None else Some (record given { srcdoc = true })) else option_map (λ name. record given { waiting = Some name }) (keyword_in option_names word)))
        ≡ option_map (λ name. record given { waiting = Some name }) (keyword_in option_names word)
    by_tests false false x y = refl
    by_tests true b x y = cc
    by_tests false true x y = cc

-- an unknown name
unknown-on : (given : Options) (word : Word) (words : List Word) → given.waiting ≡ None → is_keyword (codes "fullscreen") word ≡ false → is_keyword (codes "srcdoc") word ≡ false
    → None ≡ keyword_in option_names word → options_from (Some given) (word ∷ words) ≡ options_from None words
unknown-on given word words none f s is =
    options-name given word words none ∙ ap (λ o. options_from o words) (other-name given word f s ∙ ap (option_map (λ (name : OptionName). record given { waiting = Some name })) (sym is))

-- a name without its text
missing-on : (given : Options) (word : Word) (words left : List Word) (name : OptionName) → given.waiting ≡ None → is_keyword (codes "fullscreen") word ≡ false → is_keyword (codes "srcdoc") word ≡ false
    → Some name ≡ keyword_in option_names word → words ≡ [] → options_from (Some given) (word ∷ words) ≡ options_from None left
unfolding options_from
missing-on given word words left name none f s is empty =
    options-name given word words none ∙ ap (λ o. options_from o words) (other-name given word f s ∙ ap (option_map (λ (name : OptionName). record given { waiting = Some name })) (sym is))
    ∙ ap (options_from (Some (record given { waiting = Some name }))) empty ∙ sym (options-none left)

-- a name and its text
text-on : (given new : Options) (word text : Word) (words left : List Word) (option : Name) (taken : Bool) → given.waiting ≡ None → is_keyword (codes "fullscreen") word ≡ false → is_keyword (codes "srcdoc") word ≡ false
    → Some (told_name option) ≡ keyword_in option_names word → words ≡ text ∷ left → with_option option text.text given ≡ if_taken taken new
    → options_from (Some given) (word ∷ words) ≡ options_from (if_taken taken new) left
text-on given new word text words left option taken none f s is next put =
    options-name given word words none ∙ ap (λ o. options_from o words) (other-name given word f s ∙ ap (option_map (λ (name : OptionName). record given { waiting = Some name })) (sym is))
    ∙ ap (options_from (Some (record given { waiting = Some (told_name option) }))) next
    ∙ options-step (Some (record given { waiting = Some (told_name option) })) text left
    ∙ ap (λ o. options_from o left) put

-- ---- the same where what is left may be no list of words

pub left-none : (words : Option (List Word)) → options_left None words ≡ None
left-none None = refl
left-none (Some words) = options-none words

pub left-begin : (words : Option (List Word)) → options_left (Some no_options) words ≡ option_and_then options words
left-begin None = refl
left-begin (Some words) = options-begin words

pub fullscreen-taken : (shown given : Options) (word : Word) (words : Option (List Word)) (flag taken : Bool) → shown ≡ given → shown.waiting ≡ None → is_keyword (codes "fullscreen") word ≡ true
    → taken ≡ not shown.fullscreen → flag ≡ true → options_left (Some given) (behind word words) ≡ options_left (if_taken taken (record shown { fullscreen = flag })) words
fullscreen-taken shown given word None flag taken same none key is set = refl
fullscreen-taken shown given word (Some words) flag taken same none key is set = fullscreen-on shown given word words flag taken same none key is set

pub srcdoc-taken : (shown given : Options) (word : Word) (words : Option (List Word)) (flag taken : Bool) → shown ≡ given → shown.waiting ≡ None → is_keyword (codes "srcdoc") word ≡ true
    → taken ≡ not shown.srcdoc → flag ≡ true → options_left (Some given) (behind word words) ≡ options_left (if_taken taken (record shown { srcdoc = flag })) words
srcdoc-taken shown given word None flag taken same none key is set = refl
srcdoc-taken shown given word (Some words) flag taken same none key is set = srcdoc-on shown given word words flag taken same none key is set

pub name-unknown : (given : Options) (word : Word) (words : Option (List Word)) → given.waiting ≡ None → is_keyword (codes "fullscreen") word ≡ false → is_keyword (codes "srcdoc") word ≡ false
    → None ≡ keyword_in option_names word → options_left (Some given) (behind word words) ≡ options_left None words
name-unknown given word None none f s is = refl
name-unknown given word (Some words) none f s is = unknown-on given word words none f s is

pub text-missing : (given : Options) (word : Word) (words left : Option (List Word)) (name : OptionName) → given.waiting ≡ None → is_keyword (codes "fullscreen") word ≡ false → is_keyword (codes "srcdoc") word ≡ false
    → Some name ≡ keyword_in option_names word → (words ≡ None) ⊎ (words ≡ Some []) → options_left (Some given) (behind word words) ≡ options_left None left
text-missing given word None left name none f s is empty = sym (left-none left)
text-missing given word (Some []) left name none f s is empty = missing-on given word [] [] name none f s is refl ∙ options-none [] ∙ sym (left-none left)
text-missing given word (Some (next ∷ words)) left name none f s is (inl empty) = cc
text-missing given word (Some (next ∷ words)) left name none f s is (inr empty) = cc

pub text-taken : (given new : Options) (word text : Word) (words left : Option (List Word)) (option : Name) (taken : Bool) → given.waiting ≡ None → is_keyword (codes "fullscreen") word ≡ false → is_keyword (codes "srcdoc") word ≡ false
    → Some (told_name option) ≡ keyword_in option_names word → words ≡ behind text left → with_option option text.text given ≡ if_taken taken new
    → options_left (Some given) (behind word words) ≡ options_left (if_taken taken new) left
text-taken given new word text words None option taken none f s is next put = ap (λ ws. options_left (Some given) (behind word ws)) next
text-taken given new word text words (Some left) option taken none f s is next put =
    ap (λ ws. options_left (Some given) (behind word ws)) next ∙ text-on given new word text (text ∷ left) left option taken none f s is refl put

-- the same where the reader answers, or memory wants
pub text-taken-ok : {E : Type 0} (given new : Options) (word text : Word) (words left : Option (List Word)) (option : Name) (t : List ℕ) (result : Result Bool E) → given.waiting ≡ None → is_keyword (codes "fullscreen") word ≡ false → is_keyword (codes "srcdoc") word ≡ false
    → Some (told_name option) ≡ keyword_in option_names word → words ≡ behind text left → t ≡ text.text → IfOk result (λ taken. with_option option t given ≡ if_taken taken new)
    → IfOk result (λ taken. options_left (Some given) (behind word words) ≡ options_left (if_taken taken new) left)
text-taken-ok given new word text words left option t (Ok taken) none f s is next same put =
    text-taken given new word text words left option taken none f s is next (ap (λ u. with_option option u given) (sym same) ∙ put)
text-taken-ok given new word text words left option t (Err e) none f s is next same put = tt

-- the options so far, where a name is refused, and in the end
pub options-refused : (given new : Options) (word : Word) (words before left : Option (List Word)) (taken : Bool) (all : Option Options) → options_left (Some given) before ≡ all → before ≡ behind word words
    → options_left (Some given) (behind word words) ≡ options_left (if_taken taken new) left → taken ≡ false → None ≡ all
options-refused given new word words before left taken all so_far next step refused =
    sym (left-none left) ∙ ap (λ (t : Bool). options_left (if_taken t new) left) (sym refused) ∙ sym step ∙ ap (options_left (Some given)) (sym next) ∙ so_far

pub options-faulty : (given : Options) (before : Option (List Word)) (all : Option Options) → options_left (Some given) before ≡ all → (before ≡ None) ⊎ (before ≡ Some []) → (before ≡ Some [] → ⊥) → None ≡ all
options-faulty given before all so_far (inl none) more = ap (options_left (Some given)) (sym none) ∙ so_far
options-faulty given before all so_far (inr empty) more = absurd (more empty)

pub options-all : (given : Options) (before : Option (List Word)) (all : Option Options) → given.waiting ≡ None → options_left (Some given) before ≡ all → before ≡ Some [] → Some given ≡ all
options-all given before all none so_far empty = sym (options-end given none) ∙ ap (options_left (Some given)) (sym empty) ∙ so_far

-- the header of the options that are left
pub headers_left : (words : Option (List Word)) → option_and_then only_header (option_and_then options words) ≡ option_and_then headers words
unfolding headers
headers_left None = refl
headers_left (Some words) = refl
