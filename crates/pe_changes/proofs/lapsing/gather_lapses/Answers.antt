use Rattle.std.proofs.Common.{◌≤◌, ℕ, inl, None, refl, sym, ◌∙◌, ap, subst, arith}
use Rattle.pe_store.specs.declared.key.Life.TheVariants as life
use Rattle.pe_store.specs.Due.{IsDue}
use Rattle.pe_changes.specs.Parts.{is_silent}
use Rattle.pe_changes.proofs.Costs.{is_without, count-most, taken-more}
use Rattle.pe_changes.proofs.Lapses.{lapses-none, lapses-more, lapses-all, none-ended, fewer-more}
use Rattle.pe_changes.proofs.lapsing.gather_lapses.Goals as goal

pub loop-moment-init : goal.loop-moment-init
loop-moment-init g c =
    let silent = is_silent g.D.Numbered.doc_no g.D.Governed.blocks_feature c.args.frames.now.entries in
    (rw c.new-changes.ensures.items (lapses-none c.args.to silent c.args.statuses.now.live c.args.store.now.entries), refl, omega arith, inl refl, λ none. (refl, refl))

pub loop-moment-preserved : goal.loop-moment-preserved
loop-moment-preserved g c =
    let silent = is_silent g.D.Numbered.doc_no g.D.Governed.blocks_feature c.args.frames.now.entries in
    let was = c.loop-moment.invariant.2 in
    let more = taken-more c.same_pairs_are_one.ensures c.args.statuses.now.live c.loop-moment.store.entries c.take_due.new.self.entries c.in-Some.entry c.in-Some.ensures.own c.in-Some.ensures.found in
    let cost = c.in_ok-append_ended.ensures.cost in
    let fewer = c.in-Some.ensures.fewer in
    let le : c.of.result ≤ c.args.to = omega (arith, c.of.ensures, c.in-Some.ensures.due.1.1, c.get.ensures.value) in (
      lapses-more c.same_pairs_are_one.ensures c.args.to silent c.args.statuses.now.live c.args.store.now.entries c.loop-moment.store.entries c.take_due.new.self.entries c.in-Some.entry c.of.result
          c.loop-moment.changes.items c.append_ended.new.changes.items le c.in-Some.ensures.own (c.in-Some.ensures.ends ∙ ap life.Until (sym c.of.ensures)) c.in-Some.ensures.found
          c.in_ok-append_ended.ensures.list c.loop-moment.invariant.0,
      c.in-Some.ensures.dismissals ∙ c.loop-moment.invariant.1,
      omega (arith, was, more, cost, fewer),
      fewer-more c.args.store.now c.loop-moment.store c.take_due.new.self c.loop-moment.invariant.3 fewer,
      λ none. absurd (none-ended c.args.to c.args.store.now c.loop-moment.store c.in-Some.entry c.of.result none (c.loop-moment.invariant.4 none).0 c.in-Some.ensures.own (c.in-Some.ensures.ends ∙ ap life.Until (sym c.of.ensures)) le),
    )

pub returns-in_err-append_ended-clause-idle : goal.returns-in_err-append_ended-clause-idle
returns-in_err-append_ended-clause-idle g c = λ none.
    let le : c.of.result ≤ c.args.to = omega (arith, c.of.ensures, c.in-Some.ensures.due.1.1, c.get.ensures.value) in
    absurd (none-ended c.args.to c.args.store.now c.loop-moment.store c.in-Some.entry c.of.result none (c.loop-moment.invariant.4 none).0 c.in-Some.ensures.own (c.in-Some.ensures.ends ∙ ap life.Until (sym c.of.ensures)) le)

pub returns-clause-list : goal.returns-clause-list
returns-clause-list g c =
    let silent = is_silent g.D.Numbered.doc_no g.D.Governed.blocks_feature c.args.frames.now.entries in
    let due = subst (λ (n : ℕ). IsDue c.loop-moment.store.entries n None) c.get.ensures.value c.in_default.ensures.none in
    rw c.in_default.ensures.unchanged (lapses-all c.args.to silent c.args.statuses.now.live c.args.store.now.entries c.loop-moment.store.entries c.loop-moment.changes.items due c.loop-moment.invariant.0)

pub returns-clause-cost : goal.returns-clause-cost
returns-clause-cost g c =
    let was = c.loop-moment.invariant.2 in
    let most = count-most (is_without c.loop-moment.store.entries) c.args.statuses.now.live in
    rw c.in_default.ensures.unchanged (omega (arith, was, most))

pub returns-clause-fewer : goal.returns-clause-fewer
returns-clause-fewer g c = rw c.in_default.ensures.unchanged c.loop-moment.invariant.3

pub returns-clause-idle : goal.returns-clause-idle
returns-clause-idle g c = λ none. (c.loop-moment.invariant.4 none).1
