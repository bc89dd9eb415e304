use Rattle.std.proofs.Common.{refl, Some, sym, ap, ◌∙◌, option_and_then, option_map}
use Rattle.pe_events.specs.declared.event.Event.TheVariants as event
use Rattle.pe_script.specs.Verbs.{read_open}
use Rattle.pe_script.proofs.Takes.{nothing_of}
use Rattle.pe_script.proofs.VerbWords.{open_left, gives_broken}
use Rattle.pe_script.proofs.verbs.documents.read_open.Goals as goal

pub returns-in_default : goal.returns-in_default
returns-in_default c = nothing_of read_open c.args.words.words refl c.in_default.ensures.none

pub returns-in_err-header : goal.returns-in_err-header
returns-in_err-header c =
    let left = ap (option_and_then read_open) c.in-Some.ensures.word ∙ open_left c.in-Some.url _ in
    gives_broken _ _ _ c.from_residual.result c.from_residual.ensures.1 (λ none. ap (option_map (event.OpenPage c.in-Some.url.text)) none ∙ sym left) c.in_err-header.ensures

pub returns : goal.returns
returns c =
    let left = ap (option_and_then read_open) c.in-Some.ensures.word ∙ open_left c.in-Some.url _ in
    ap (λ t. Some (event.OpenPage t c.in_ok-header.header)) c.in-Ok.ensures ∙ ap (option_map (event.OpenPage c.in-Some.url.text)) c.in_ok-header.ensures ∙ sym left
