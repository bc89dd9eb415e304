use Rattle.std.proofs.Common.{refl, Some, sym, ap, ◌∙◌, option_and_then, option_map}
use Rattle.pe_events.specs.declared.event.Event.TheVariants as event
use Rattle.pe_script.specs.Verbs.{read_nav}
use Rattle.pe_script.proofs.Takes.{behind, nothing_of, nothing_behind}
use Rattle.pe_script.proofs.VerbWords.{nav_left, gives_broken, nav_none}
use Rattle.pe_script.proofs.verbs.documents.read_nav.Goals as goal

pub returns-in_default : goal.returns-in_default
returns-in_default c = nothing_of read_nav c.args.words.words refl c.in_default.ensures.none

pub returns-in_default-next : goal.returns-in_default-next
returns-in_default-next c = nothing_behind read_nav c.args.words.words _ c.in-Some.frame c.in-Some.ensures.word refl c.in_default-next.ensures.none

pub returns-in_default-object : goal.returns-in_default-object
returns-in_default-object c = nav_none c.args.words.words _ _ c.in-Some.frame c.in-Some-next.url c.in-Some.ensures.word c.in-Some-next.ensures.word c.in_default-object.ensures

pub returns-in_err-header : goal.returns-in_err-header
returns-in_err-header c =
    let left = ap (option_and_then read_nav) (c.in-Some.ensures.word ∙ ap (behind c.in-Some.frame) c.in-Some-next.ensures.word) ∙ nav_left c.in-Some.frame c.in-Some-next.url _ c.in-Some-object.frame c.in-Some-object.ensures in
    gives_broken _ _ _ c.from_residual.result c.from_residual.ensures.1 (λ none. ap (option_map (event.Navigate c.in-Some-object.frame c.in-Some-next.url.text)) none ∙ sym left) c.in_err-header.ensures

pub returns : goal.returns
returns c =
    let left = ap (option_and_then read_nav) (c.in-Some.ensures.word ∙ ap (behind c.in-Some.frame) c.in-Some-next.ensures.word) ∙ nav_left c.in-Some.frame c.in-Some-next.url _ c.in-Some-object.frame c.in-Some-object.ensures in
    ap (λ t. Some (event.Navigate c.in-Some-object.frame t c.in_ok-header.header)) c.in-Ok.ensures ∙ ap (option_map (event.Navigate c.in-Some-object.frame c.in-Some-next.url.text)) c.in_ok-header.ensures ∙ sym left
