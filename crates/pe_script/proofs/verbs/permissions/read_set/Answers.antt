use Rattle.std.proofs.Common.{refl, sym, ap, ◌∙◌, option_and_then}
use Rattle.pe_script.specs.Verbs.{read_set}
use Rattle.pe_script.proofs.Takes.{nothing_of}
use Rattle.pe_script.proofs.VerbWords.{set_left, gives_same, set_none}
use Rattle.pe_script.proofs.verbs.permissions.read_set.Goals as goal

pub returns-in_default : goal.returns-in_default
returns-in_default c = nothing_of read_set c.args.words.words refl c.in_default.ensures.none

pub returns-in_default-bare_text : goal.returns-in_default-bare_text
returns-in_default-bare_text c = set_none c.args.words.words _ c.in-Some.feature c.in-Some.ensures.word c.in_default-bare_text.ensures

pub returns : goal.returns
returns c =
    let left = ap (option_and_then read_set) c.in-Some.ensures.word ∙ set_left c.in-Some.feature _ c.in-Some-bare_text.feature c.in-Some-bare_text.ensures in
    gives_same _ _ c.read_setting.result (sym left) c.read_setting.ensures
