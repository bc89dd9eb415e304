use Rattle.std.proofs.Common.{refl, None, Some, ◌∙◌}
use Rattle.std.proofs.lemmas.Bool.{iff_false}
use Rattle.pe_script.specs.Taking.{setting_words}
use Rattle.pe_script.proofs.Takes.{nothing_of, of_none, of_one, of_two, of_three, stuck_behind, stuck_behind_two, setting_of_four}
use Rattle.pe_script.proofs.verbs.permissions.setting_words.Goals as goal

pub returns-in_err-first : goal.returns-in_err-first
returns-in_err-first c = c.from_residual.ensures ∙ nothing_of setting_words _ refl c.in_err-first.ensures.none

pub returns-then-is_done : goal.returns-then-is_done
returns-then-is_done c = of_one setting_words _ _ c.in_ok-first.first c.in_ok-first.ensures.word (c.is_done.ensures.0 c.if-is_done.true)

pub returns-in_err-second : goal.returns-in_err-second
returns-in_err-second c =
    c.from_residual-in_err-second.ensures
    ∙ of_none setting_words _ (stuck_behind _ _ c.in_ok-first.first c.in_ok-first.ensures.word c.in_err-second.ensures.none (iff_false c.is_done.ensures c.if-is_done.false))

pub returns-then-is_done-2 : goal.returns-then-is_done-2
returns-then-is_done-2 c = of_two setting_words _ _ _ c.in_ok-first.first c.in_ok-second.second c.in_ok-first.ensures.word c.in_ok-second.ensures.word (c.is_done-2.ensures.0 c.if-is_done-2.true)

pub returns-in_err-third : goal.returns-in_err-third
returns-in_err-third c =
    c.from_residual-in_err-third.ensures
    ∙ of_none setting_words _ (stuck_behind_two _ _ _ c.in_ok-first.first c.in_ok-second.second c.in_ok-first.ensures.word c.in_ok-second.ensures.word c.in_err-third.ensures.none (iff_false c.is_done-2.ensures c.if-is_done-2.false))

pub returns-then-is_done-3 : goal.returns-then-is_done-3
returns-then-is_done-3 c =
    of_three setting_words _ _ _ _ c.in_ok-first.first c.in_ok-second.second c.in_ok-third.third c.in_ok-first.ensures.word c.in_ok-second.ensures.word c.in_ok-third.ensures.word (c.is_done-3.ensures.0 c.if-is_done-3.true)

pub returns-in_err-fourth : goal.returns-in_err-fourth
returns-in_err-fourth c =
    c.from_residual-in_err-fourth.ensures
    ∙ setting_of_four _ _ _ _ c.in_ok-first.first c.in_ok-second.second c.in_ok-third.third None c.in_ok-first.ensures.word c.in_ok-second.ensures.word c.in_ok-third.ensures.word (iff_false c.is_done-3.ensures c.if-is_done-3.false) c.in_err-fourth.ensures

pub returns : goal.returns
returns c =
    setting_of_four _ _ _ _ c.in_ok-first.first c.in_ok-second.second c.in_ok-third.third (Some c.in_ok-fourth.fourth) c.in_ok-first.ensures.word c.in_ok-second.ensures.word c.in_ok-third.ensures.word
    (iff_false c.is_done-3.ensures c.if-is_done-3.false) c.in_ok-fourth.ensures
