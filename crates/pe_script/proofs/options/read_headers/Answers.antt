use Rattle.std.proofs.Common.{ap, ◌∙◌, option_and_then}
use Rattle.pe_script.specs.Verbs.{only_header}
use Rattle.pe_script.proofs.OptionWords.{headers_left}
use Rattle.pe_script.proofs.VerbWords.{gives_broken}
use Rattle.pe_script.proofs.options.read_headers.Goals as goal

pub returns-in_err-given : goal.returns-in_err-given
returns-in_err-given c =
    gives_broken _ _ _ c.from_residual.result c.from_residual.ensures.1 (λ none. ap (option_and_then only_header) none ∙ headers_left c.args.words.words) c.in_err-given.ensures

pub returns-in_default : goal.returns-in_default
returns-in_default c = c.in_default.ensures ∙ ap (option_and_then only_header) c.in_ok-given.ensures ∙ headers_left c.args.words.words

pub returns : goal.returns
returns c = c.in-Some.ensures ∙ ap (option_and_then only_header) c.in_ok-given.ensures ∙ headers_left c.args.words.words
