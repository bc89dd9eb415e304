use Rattle.std.proofs.Common.{rules}
use Rattle.std.proofs.lemmas.List.Sorted.{answers_always}
use Rattle.pe_events.specs.declared.answer.Change.{Change}
use Rattle.pe_changes.specs.Parts.{is_silent}
use Rattle.pe_changes.proofs.Before.{before-is, none-ends, lasting-store}
use Rattle.pe_changes.proofs.Governing.{silent-blocked}
use Rattle.pe_changes.proofs.Order.{weak-sorted}
use Rattle.pe_changes.proofs.Ordered.{comes_before, comes-order}
use Rattle.pe_changes.proofs.lapsing.lapse.Goals as goal

pub returns-clause-changes : goal.returns-clause-changes
returns-clause-changes g c T later is stand governed =
    let silent = is_silent g.D.Numbered.doc_no g.D.Governed.blocks_feature c.args.frames.now.entries in
    let sorted = c.sort_unstable_by_key.ensures.sorted (λ (x : Change). (x.time, x.status)) (answers_always _ _ _ (λ f a r q k. search rules)) in
    before-is c.history_laws.ensures T c.args.to later silent c.args.statuses.now c.args.store.now c.gather_lapses.new.store.entries c.in_ok-changes.changes.items c.sort_unstable_by_key.new.self.items
    is stand (silent-blocked T g.D.Numbered.doc_no g.D.Governed.blocks_feature c.args.frames.now.entries c.args.statuses.now.live governed) c.in_ok-changes.ensures.list c.sort_unstable_by_key.ensures.permutation
    (weak-sorted comes_before comes-order _ sorted)

pub returns-clause-stands : goal.returns-clause-stands
returns-clause-stands g c T later is =
    lasting-store T c.args.to later c.args.store.now c.gather_lapses.new.store c.in_ok-changes.ensures.list.left c.in_ok-changes.ensures.dismissals is

pub returns-clause-lapsed : goal.returns-clause-lapsed
returns-clause-lapsed g c = record { found = c.in_ok-changes.ensures.list.left; dismissals = c.in_ok-changes.ensures.dismissals; fewer = c.in_ok-changes.ensures.fewer }

pub returns-in_err-changes-clause-idle : goal.returns-in_err-changes-clause-idle
returns-in_err-changes-clause-idle g c = λ T is. c.gather_lapses.ensures.idle (none-ends T c.args.to c.args.store.now is)

pub returns-clause-idle : goal.returns-clause-idle
returns-clause-idle g c = λ T is. c.gather_lapses.ensures.idle (none-ends T c.args.to c.args.store.now is)
