use Rattle.pe_allowlist.proofs.PairLaws.{put_found, put_new, put_found_once, put_new_once}
use Rattle.pe_allowlist.proofs.pairs.put_list.Goals as goal

pub returns-in-Some-clause-put : goal.returns-in-Some-clause-put
returns-in-Some-clause-put c = λ f. put_found c.args.rows.now.items c.args.feature f c.args.list c.in-Some.place (rw c.deref.ensures.value at c.in-Some.ensures)

pub returns-in_ok-push-in-None-clause-put : goal.returns-in_ok-push-in-None-clause-put
returns-in_ok-push-in-None-clause-put c = λ f.
    rw ((c.in_ok-push-in-None.ensures).items) (put_new c.args.rows.now.items c.args.feature f c.args.list (rw c.deref.ensures.value at c.in-None.ensures))

pub returns-in-Some-clause-once : goal.returns-in-Some-clause-once
returns-in-Some-clause-once c = put_found_once c.args.rows.now.items c.args.feature c.args.list c.in-Some.place (rw c.deref.ensures.value at c.in-Some.ensures)

pub returns-in_ok-push-in-None-clause-once : goal.returns-in_ok-push-in-None-clause-once
returns-in_ok-push-in-None-clause-once c = λ once.
    rw ((c.in_ok-push-in-None.ensures).items) (put_new_once c.args.rows.now.items c.args.feature c.args.list (rw c.deref.ensures.value at c.in-None.ensures) once)
