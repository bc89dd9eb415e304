use Rattle.std.proofs.Common.{None, Some}
use Rattle.std.proofs.lemmas.Bool.{iff_false}
use Rattle.pe_script.specs.Verbs.{read_outcome}
use Rattle.pe_script.proofs.Takes.{of_done}
use Rattle.pe_script.proofs.VerbWords.{gives_same, outcome_is, outcome_none}
use Rattle.pe_script.proofs.verbs.permissions.read_outcome.Goals as goal

pub returns-then-is_done : goal.returns-then-is_done
returns-then-is_done c = gives_same _ _ c.outcome_alone.result (of_done (read_outcome c.args.prompt c.args.word.now) _ (c.is_done.ensures.0 c.if-is_done.true)) c.outcome_alone.ensures

pub returns-in_default : goal.returns-in_default
returns-in_default c = outcome_none c.args.prompt c.args.word.now c.args.words.words (iff_false c.is_done.ensures c.if-is_done.false) c.in_default.ensures

pub returns-in_default-read_life : goal.returns-in_default-read_life
returns-in_default-read_life c = outcome_is c.args.prompt c.args.word.now c.args.words.words c.in-Some.outcome None (iff_false c.is_done.ensures c.if-is_done.false) c.in-Some.ensures c.in_default-read_life.ensures

pub returns : goal.returns
returns c = outcome_is c.args.prompt c.args.word.now c.args.words.words c.in-Some.outcome (Some c.in-Some-read_life.life) (iff_false c.is_done.ensures c.if-is_done.false) c.in-Some.ensures c.in-Some-read_life.ensures
