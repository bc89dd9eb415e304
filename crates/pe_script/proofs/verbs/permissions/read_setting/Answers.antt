use Rattle.std.proofs.Common.{refl, None, Some, ◌∙◌}
use Rattle.pe_script.specs.Verbs.{read_setting}
use Rattle.pe_script.proofs.Takes.{nothing_of}
use Rattle.pe_script.proofs.VerbWords.{setting_is, set_is, no_span, no_state}
use Rattle.pe_script.proofs.verbs.permissions.read_setting.Goals as goal

pub returns-in_default : goal.returns-in_default
returns-in_default c = nothing_of (read_setting c.args.feature) c.args.words.words refl c.in_default.ensures.none

pub returns-in_default-setting_words : goal.returns-in_default-setting_words
returns-in_default-setting_words c = setting_is c.args.feature c.args.words.words _ c.in-Some.first None c.in-Some.ensures.word c.in_default-setting_words.ensures

pub returns-in_default-span_given : goal.returns-in_default-span_given
returns-in_default-span_given c =
    no_span c.args.feature c.in-Some.first c.in-Some-setting_words.setting c.in_default-span_given.ensures
    ∙ setting_is c.args.feature c.args.words.words _ c.in-Some.first (Some c.in-Some-setting_words.setting) c.in-Some.ensures.word c.in-Some-setting_words.ensures

pub returns-in_default-state : goal.returns-in_default-state
returns-in_default-state c =
    no_state c.args.feature c.in-Some.first c.in-Some-setting_words.setting c.in_default-state.ensures
    ∙ setting_is c.args.feature c.args.words.words _ c.in-Some.first (Some c.in-Some-setting_words.setting) c.in-Some.ensures.word c.in-Some-setting_words.ensures

pub returns : goal.returns
returns c =
    set_is c.args.feature c.in-Some.first c.in-Some-setting_words.setting c.in-Some-span_given.span c.in-Some-state.state c.in-Ok-text_given.second c.in-Ok.first c.in-Some-span_given.ensures c.in-Some-state.ensures c.in-Ok.ensures c.in-Ok-text_given.ensures
    ∙ setting_is c.args.feature c.args.words.words _ c.in-Some.first (Some c.in-Some-setting_words.setting) c.in-Some.ensures.word c.in-Some-setting_words.ensures
