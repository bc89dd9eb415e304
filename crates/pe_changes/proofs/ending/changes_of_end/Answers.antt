use Rattle.std.proofs.Common.{rules, ◌∷◌, arith}
use Rattle.std.proofs.lemmas.List.Sorted.{answers_always}
use Rattle.pe_events.specs.declared.answer.Change.{Change}
use Rattle.pe_rules.specs.Replies.{replied}
use Rattle.pe_changes.specs.Parts.{is_silent}
use Rattle.pe_changes.proofs.Costs.{under-most}
use Rattle.pe_changes.proofs.End.{ended-is}
use Rattle.pe_changes.proofs.Governing.{silent-blocked}
use Rattle.pe_changes.proofs.Order.{weak-sorted}
use Rattle.pe_changes.proofs.Ordered.{comes_before, comes-order}
use Rattle.pe_changes.proofs.ending.changes_of_end.Goals as goal

pub returns-clause-changes : goal.returns-clause-changes
returns-clause-changes g c duration H s f doc old regular end shown is stand governed apart listed =
    let silent = is_silent g.D.Numbered.doc_no g.D.Governed.blocks_feature c.args.frames.now.entries in
    let sorted = c.sort_unstable_by_key.ensures.sorted (λ (x : Change). (x.time, x.status)) (answers_always _ _ _ (λ f a r q k. search rules)) in
    ended-is c.history_laws.ensures c.same_pairs_are_one.ensures duration H s c.args.now f doc old silent c.args.statuses.now c.args.ended.now c.in_ok-changes.changes.items c.sort_unstable_by_key.new.self.items
    regular end shown is stand (silent-blocked (s ∷ replied duration H) g.D.Numbered.doc_no g.D.Governed.blocks_feature c.args.frames.now.entries c.args.statuses.now.live governed) apart listed c.in_ok-changes.ensures.list
    c.sort_unstable_by_key.ensures.permutation (weak-sorted comes_before comes-order _ sorted)

pub returns-clause-cost : goal.returns-clause-cost
returns-clause-cost g c apart =
    let most = under-most c.same_pairs_are_one.ensures c.args.statuses.now.live c.args.ended.now apart in
    let cost = c.in_ok-changes.ensures.cost in
    omega (arith, most, cost)
