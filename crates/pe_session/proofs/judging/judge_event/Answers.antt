use Rattle.pe_engine.specs.Replying.{timed}
use Rattle.pe_session.proofs.Judgings.{judged-event}
use Rattle.pe_session.proofs.judging.judge_event.Goals as goal

pub returns : goal.returns
returns c = λ duration H h.
    let e = timed c.args.stamped.time c.args.stamped.event in
    rw c.is_refusal.ensures
    (judged-event duration c.args.engine.now c.reply.new.engine c.args.number H e c.in_ok-replies.replies c.args.out.now.items c.put_replies.new.out.items h
    (c.in_ok-replies.ensures.replied H h.engine_stands) c.in_ok-put_replies.ensures)
