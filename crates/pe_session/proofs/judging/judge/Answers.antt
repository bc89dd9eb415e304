use Rattle.std.proofs.Common.{Err, IfOk, ap, sym, subst}
use Rattle.pe_lines.specs.Cutting.{line_of_cut}
use Rattle.pe_script.specs.Reading.{Reading}
use Rattle.pe_session.specs.Judging.{Judged}
use Rattle.pe_session.proofs.Judgings.{too-long-reading, silent-reading, refusal-reading, event-reading, judged-silent, refused-line, if-none, if-some}
use Rattle.pe_session.proofs.judging.judge.Goals as goal

pub returns-in-TooLong : goal.returns-in-TooLong
returns-in-TooLong c = record {
  ok = λ duration H h. refused-line c.put_refusal.result duration _ _ H _ _ _ _ h (too-long-reading c.args.line c.in-TooLong.is) c.put_refusal.ensures.text c.put_refusal.ensures.refused;
}

pub returns-in-Ok-Some : goal.returns-in-Ok-Some
returns-in-Ok-Some c = record {
  ok = λ duration H h.
      subst (λ (r : Reading). IfOk c.judge_event.result (λ refused. Judged duration c.judge_event.new.engine c.args.number H r c.args.out.now.items c.judge_event.new.out.items refused))
      (sym (event-reading c.args.line c.in-Bytes.line.now _ (ap line_of_cut c.in-Bytes.is) (if-some c.in-Ok-Some.field-0 c.in-Ok-Some.stamped _ c.in-Ok-Some.field-0-is c.in-Ok-Some.ensures.some)))
      (c.judge_event.ensures duration H h);
}

pub returns-in-Ok-None : goal.returns-in-Ok-None
returns-in-Ok-None c = record {
  ok = λ duration H h.
      judged-silent duration _ _ H _ _ h (silent-reading c.args.line c.in-Bytes.line.now (ap line_of_cut c.in-Bytes.is) (if-none c.in-Ok-None.field-0 _ c.in-Ok-None.field-0-is c.in-Ok-None.ensures.none));
}

pub returns-in-Err-BadByte : goal.returns-in-Err-BadByte
returns-in-Err-BadByte c = record {
  ok = λ duration H h.
      refused-line c.put_refusal-in-Err-BadByte.result duration _ _ H _ _ _ _ h
      (refusal-reading c.args.line c.in-Bytes.line.now _ (ap line_of_cut c.in-Bytes.is) (c.in-Err-BadByte.ensures.bad_byte (ap Err c.in-Err-BadByte.field-0-is)))
      c.put_refusal-in-Err-BadByte.ensures.text c.put_refusal-in-Err-BadByte.ensures.refused;
}

pub returns-in-Err-Syntax : goal.returns-in-Err-Syntax
returns-in-Err-Syntax c = record {
  ok = λ duration H h.
      refused-line c.put_refusal-in-Err-Syntax.result duration _ _ H _ _ _ _ h
      (refusal-reading c.args.line c.in-Bytes.line.now _ (ap line_of_cut c.in-Bytes.is) (c.in-Err-Syntax.ensures.syntax (ap Err c.in-Err-Syntax.field-0-is)))
      c.put_refusal-in-Err-Syntax.ensures.text c.put_refusal-in-Err-Syntax.ensures.refused;
}
