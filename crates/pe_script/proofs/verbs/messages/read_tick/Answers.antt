use Rattle.std.proofs.lemmas.Bool.{iff_false}
use Rattle.pe_script.proofs.Takes.{tick_is, tick_none}
use Rattle.pe_script.proofs.verbs.messages.read_tick.Goals as goal

pub returns-then-not-is_done : goal.returns-then-not-is_done
returns-then-not-is_done c = tick_none c.args.words.words (iff_false c.is_done.ensures c.if-not-is_done.true)

pub returns : goal.returns
returns c = tick_is c.args.words.words (c.is_done.ensures.0 c.if-not-is_done.false)
