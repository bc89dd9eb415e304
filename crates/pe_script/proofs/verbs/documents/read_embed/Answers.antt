use Rattle.std.proofs.Common.{refl, sym, ap, ◌∙◌, option_and_then}
use Rattle.pe_script.specs.Verbs.{read_embed, embedding}
use Rattle.pe_script.proofs.Takes.{behind, nothing_of, nothing_behind}
use Rattle.pe_script.proofs.VerbWords.{embed_left, gives_same, gives_broken, embed_none}
use Rattle.pe_script.proofs.verbs.documents.read_embed.Goals as goal

pub returns-in_default : goal.returns-in_default
returns-in_default c = nothing_of read_embed c.args.words.words refl c.in_default.ensures.none

pub returns-in_default-next : goal.returns-in_default-next
returns-in_default-next c = nothing_behind read_embed c.args.words.words _ c.in-Some.frame c.in-Some.ensures.word refl c.in_default-next.ensures.none

pub returns-in_default-object : goal.returns-in_default-object
returns-in_default-object c = embed_none c.args.words.words _ _ c.in-Some.frame c.in-Some-next.src c.in-Some.ensures.word c.in-Some-next.ensures.word c.in_default-object.ensures

pub returns-in_err-given : goal.returns-in_err-given
returns-in_err-given c =
    let left = ap (option_and_then read_embed) (c.in-Some.ensures.word ∙ ap (behind c.in-Some.frame) c.in-Some-next.ensures.word) ∙ embed_left c.in-Some.frame c.in-Some-next.src _ c.in-Some-object.parent c.in-Some-object.ensures in
    gives_broken _ _ _ c.from_residual.result c.from_residual.ensures.1 (λ none. ap (option_and_then (embedding c.in-Some-object.parent _)) none ∙ sym left) c.in_err-given.ensures

pub returns : goal.returns
returns c =
    let left = ap (option_and_then read_embed) (c.in-Some.ensures.word ∙ ap (behind c.in-Some.frame) c.in-Some-next.ensures.word) ∙ embed_left c.in-Some.frame c.in-Some-next.src _ c.in-Some-object.parent c.in-Some-object.ensures in
    gives_same _ _ c.embedding.result (ap (λ s. embedding c.in-Some-object.parent s c.in_ok-given.given) c.in-Ok.ensures ∙ ap (option_and_then (embedding c.in-Some-object.parent _)) c.in_ok-given.ensures ∙ sym left) c.embedding.ensures
