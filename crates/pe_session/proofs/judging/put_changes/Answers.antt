use Rattle.std.proofs.Common.{◌∙◌, sym}
use Rattle.pe_session.proofs.Changing.{changes-more, changes-all}
use Rattle.pe_session.proofs.judging.put_changes.Goals as goal

pub loop-change-preserved : goal.loop-change-preserved
loop-change-preserved c =
    let l = c.loop-change in
    changes-more c.args.changes.now l.out.items c.put_change.new.out.items l.change-index c.change-item.result c.loop-change-test.true c.change-item.is (c.in_ok-put_change.ensures.appended) ∙ l.invariant

pub returns : goal.returns
returns c = sym (changes-all c.args.changes.now c.loop-change.out.items c.loop-change.change-index c.loop-change-test.false) ∙ c.loop-change.invariant
