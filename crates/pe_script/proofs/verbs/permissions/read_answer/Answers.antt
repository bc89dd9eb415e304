use Rattle.std.proofs.Common.{refl, sym, ap, ◌∙◌, option_and_then}
use Rattle.pe_script.specs.Verbs.{read_answer}
use Rattle.pe_script.proofs.Takes.{behind, nothing_of, nothing_behind}
use Rattle.pe_script.proofs.VerbWords.{answer_left, gives_same, answer_none}
use Rattle.pe_script.proofs.verbs.permissions.read_answer.Goals as goal

pub returns-in_default : goal.returns-in_default
returns-in_default c = nothing_of read_answer c.args.words.words refl c.in_default.ensures.none

pub returns-in_default-next : goal.returns-in_default-next
returns-in_default-next c = nothing_behind read_answer c.args.words.words _ c.in-Some.prompt c.in-Some.ensures.word refl c.in_default-next.ensures.none

pub returns-in_default-object : goal.returns-in_default-object
returns-in_default-object c = answer_none c.args.words.words _ _ c.in-Some.prompt c.in-Some-next.word c.in-Some.ensures.word c.in-Some-next.ensures.word c.in_default-object.ensures

pub returns : goal.returns
returns c =
    let left = ap (option_and_then read_answer) (c.in-Some.ensures.word ∙ ap (behind c.in-Some.prompt) c.in-Some-next.ensures.word) ∙ answer_left c.in-Some.prompt c.in-Some-next.word _ c.in-Some-object.prompt c.in-Some-object.ensures in
    gives_same _ _ c.read_outcome.result (sym left) c.read_outcome.ensures
