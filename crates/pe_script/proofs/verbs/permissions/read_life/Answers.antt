use Rattle.std.proofs.Common.{None, Some, ◌∙◌}
use Rattle.std.proofs.lemmas.Bool.{iff_false}
use Rattle.pe_script.specs.Verbs.{read_life}
use Rattle.pe_script.proofs.Takes.{of_none, of_done, of_one, stuck_here, life_is, life_none}
use Rattle.pe_script.proofs.verbs.permissions.read_life.Goals as goal

pub returns-then-is_done : goal.returns-then-is_done
returns-then-is_done c = of_done read_life _ (c.is_done.ensures.0 c.if-is_done.true)

pub returns-in_err-keyword : goal.returns-in_err-keyword
returns-in_err-keyword c = c.from_residual.ensures ∙ of_none read_life _ (stuck_here _ c.in_err-keyword.ensures.none (iff_false c.is_done.ensures c.if-is_done.false))

pub returns-then-is_done-2 : goal.returns-then-is_done-2
returns-then-is_done-2 c = c.once.ensures ∙ of_one read_life _ _ c.in_ok-keyword.keyword c.in_ok-keyword.ensures.word (c.is_done-2.ensures.0 c.if-is_done-2.true)

pub returns-in_err-one : goal.returns-in_err-one
returns-in_err-one c = c.from_residual-in_err-one.ensures ∙ life_none _ _ c.in_ok-keyword.keyword c.in_ok-keyword.ensures.word (iff_false c.is_done-2.ensures c.if-is_done-2.false) c.in_err-one.ensures

pub returns-in_err-span : goal.returns-in_err-span
returns-in_err-span c =
    c.from_residual-in_err-span.ensures
    ∙ life_is _ _ c.in_ok-keyword.keyword c.in_ok-one.field-0 None c.in_ok-keyword.ensures.word (iff_false c.is_done-2.ensures c.if-is_done-2.false) c.in_ok-one.ensures c.in_err-span.ensures

pub returns : goal.returns
returns c = life_is _ _ c.in_ok-keyword.keyword c.in_ok-one.field-0 (Some c.in_ok-span.span) c.in_ok-keyword.ensures.word (iff_false c.is_done-2.ensures c.if-is_done-2.false) c.in_ok-one.ensures c.in_ok-span.ensures
