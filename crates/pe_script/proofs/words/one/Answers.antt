use Rattle.std.proofs.Common.{refl, ◌∙◌}
use Rattle.std.proofs.lemmas.Bool.{iff_false}
use Rattle.pe_script.specs.Taking.{one}
use Rattle.pe_script.proofs.Takes.{nothing_of, one_is, one_none}
use Rattle.pe_script.proofs.words.one.Goals as goal

pub returns-in_err-first : goal.returns-in_err-first
returns-in_err-first c = c.from_residual.ensures ∙ nothing_of one c.args.words.words refl c.in_err-first.ensures.none

pub returns-then-not-is_done : goal.returns-then-not-is_done
returns-then-not-is_done c = one_none c.args.words.words _ c.in_ok-first.first c.in_ok-first.ensures.word (iff_false c.is_done.ensures c.if-not-is_done.true)

pub returns : goal.returns
returns c = one_is c.args.words.words _ c.in_ok-first.first c.in_ok-first.ensures.word (c.is_done.ensures.0 c.if-not-is_done.false)
