-- The steps of the reader of options.
-- This project's own.
-- What options the words give is said by `options`; these are facts of its reader.
use Rattle.std.specs.Prelude.{ℕ, Bool, true, false, List, Option, Some, None, is_some, option_and_then, fold, if◌then◌else◌}
use Rattle.pe_lines.specs.Words.{Word}
use Rattle.pe_script.specs.Verbs.{OptionName, At, Allow, Sandbox, Header, Options, with_word, with_text}
use Rattle.pe_script.specs.declared.options.OptionName.{OptionName as Name}
use Rattle.pe_script.specs.declared.options.OptionName.TheVariants as name

-- one more word
abbrev pub option_step : Option Options → Word → Option Options
option_step so_far word = option_and_then (λ given. with_word given.waiting word given) so_far

-- the options in the end, where none has no text
abbrev pub settled : Option Options → Option Options
settled so_far = option_and_then (λ given. if is_some given.waiting then None else Some given) so_far

-- the options where these were given and these words follow
unfoldable pub options_from : Option Options → List Word → Option Options
options_from so_far words = settled (fold option_step so_far words)

-- the same where the words that follow may be none that are in the grammar
abbrev pub options_left : Option Options → Option (List Word) → Option Options
options_left so_far words = option_and_then (options_from so_far) words

-- the options, unless one was refused
abbrev pub if_taken : Bool → Options → Option Options
if_taken true given = Some given
if_taken false given = None

-- the name of an option in the definitions
abbrev pub told_name : Name → OptionName
told_name name.At = At
told_name name.Allow = Allow
told_name name.Sandbox = Sandbox
told_name name.Header = Header

-- the text of an option, which nothing waits for any more
abbrev pub with_option : Name → List ℕ → Options → Option Options
with_option option text given = with_text (told_name option) text (record given { waiting = Some (told_name option) })
