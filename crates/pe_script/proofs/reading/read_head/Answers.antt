use Rattle.pe_script.proofs.LineReadings.{no-first, no-second, no-time, no-verb, head-is}
use Rattle.pe_script.proofs.reading.read_head.Goals as goal

pub returns-in_err-first : goal.returns-in_err-first
returns-in_err-first c = rw c.from_residual.ensures (no-first _ c.in_err-first.ensures.none)

pub returns-in_err-second : goal.returns-in_err-second
returns-in_err-second c = rw c.from_residual-in_err-second.ensures (no-second _ _ c.in_ok-first.first c.in_ok-first.ensures.word c.in_err-second.ensures.none)

pub returns-in_err-time : goal.returns-in_err-time
returns-in_err-time c = rw c.from_residual-in_err-time.ensures (no-time _ _ c.in_ok-first.first c.in_ok-first.ensures.word c.in_err-time.ensures)

pub returns-in_err-verb : goal.returns-in_err-verb
returns-in_err-verb c = rw c.from_residual-in_err-verb.ensures (no-verb _ _ _ c.in_ok-first.first c.in_ok-second.second c.in_ok-first.ensures.word c.in_ok-second.ensures.word c.in_err-verb.ensures)

pub returns : goal.returns
returns c = head-is _ _ _ c.in_ok-first.first c.in_ok-second.second c.in_ok-time.time c.in_ok-verb.verb c.in_ok-first.ensures.word c.in_ok-second.ensures.word c.in_ok-time.ensures c.in_ok-verb.ensures
