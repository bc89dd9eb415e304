use Rattle.std.proofs.Common.{refl, None, Some, ◌∙◌}
use Rattle.pe_script.specs.Taking.{two}
use Rattle.pe_script.proofs.Takes.{nothing_of, two_is}
use Rattle.pe_script.proofs.words.two.Goals as goal

pub returns-in_err-first : goal.returns-in_err-first
returns-in_err-first c = c.from_residual.ensures ∙ nothing_of two c.args.words.words refl c.in_err-first.ensures.none

pub returns-in_err-second : goal.returns-in_err-second
returns-in_err-second c = c.from_residual-in_err-second.ensures ∙ two_is c.args.words.words _ c.in_ok-first.first None c.in_ok-first.ensures.word c.in_err-second.ensures

pub returns : goal.returns
returns c = two_is c.args.words.words _ c.in_ok-first.first (Some c.in_ok-second.second) c.in_ok-first.ensures.word c.in_ok-second.ensures
