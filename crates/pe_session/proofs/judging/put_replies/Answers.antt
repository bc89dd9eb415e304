use Rattle.std.proofs.Common.{List, ◌++◌, ◌∙◌, ap, subst, ◌≡◌}
use Rattle.std.specs.Prelude.{OnOk}
use Rattle.pe_events.specs.declared.answer.Change.{Change}
use Rattle.pe_output.specs.OutputText.{changes_text}
use Rattle.pe_session.proofs.Changing.{replies-put}
use Rattle.pe_session.proofs.judging.put_replies.Goals as goal

pub returns : goal.returns
returns c =
    replies-put c.put_changes-2.result c.args.number c.args.replies.now c.args.out.now.items c.put_changes.new.out.items c.put_answer.new.out.items c.put_changes-2.new.out.items
    (c.in_ok-put_changes.ensures ∙ ap (λ (cs : List Change). c.args.out.now.items ++ changes_text cs) c.deref.ensures.value)
    c.in_ok-put_answer.ensures.appended
    (subst (λ (cs : List Change). OnOk c.put_changes-2.result (c.put_changes-2.new.out.items ≡ c.put_answer.new.out.items ++ changes_text cs)) c.deref-2.ensures.value c.put_changes-2.ensures)
