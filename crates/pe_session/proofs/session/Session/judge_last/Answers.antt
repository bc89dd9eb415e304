use Rattle.std.proofs.Common.{[], refl, ap}
use Rattle.pe_lines.specs.Rests.{Rest}
use Rattle.pe_output.specs.OutputText.{readings}
use Rattle.pe_session.specs.Session.{history_after_lines}
use Rattle.pe_lines.specs.Lines.{ended_lines_or_too_long}
use Rattle.pe_session.proofs.Stretches.{next-none, last-taken, last-some, last-none}
use Rattle.pe_session.proofs.session.Session.judge_last.Goals as goal

pub returns-in_ok-refused-in-Some : goal.returns-in_ok-refused-in-Some
returns-in_ok-refused-in-Some c = record {
  ok = λ duration taken h.
      let same = ap (λ (r : Rest). r.bytes) c.finish.ensures in
      let t = last-taken c.finish.new.self c.next_line.follows.lender-at-none c.next_line.result c.in-Some.line (rw same h.none) c.in-Some.is c.next_line.follows.holds-at-none in
      let j = c.in_ok-refused-in-Some.ensures.ok duration (history_after_lines duration [] (readings (ended_lines_or_too_long taken))) h.stands in
      last-some duration _ _ taken _ _ _ _ _ _ _ _ (rw same h.cuts) t h.number j h.empty h.refused_is refl;
}

pub returns-in-None : goal.returns-in-None
returns-in-None c = record {
  ok = λ duration taken h.
      let same = ap (λ (r : Rest). r.bytes) c.finish.ensures in
      let ended = ap (λ (r : Rest). r.finished) c.finish.ensures in
      let n = next-none c.finish.new.self c.next_line.follows.lender-at-none c.next_line.result c.in-None.is c.next_line.follows.holds-at-none in
      last-none duration taken _ _ _ (rw same h.cuts) (n.at_end ended) h.empty h.refused_is;
}
