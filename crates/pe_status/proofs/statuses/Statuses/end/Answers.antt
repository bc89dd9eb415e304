use Rattle.std.proofs.Common.{◌∙◌, sym, ap, List}
use Rattle.pe_status.specs.declared.giving.Given.{Given}
use Rattle.pe_status.specs.Kept.{live_rows, pair_given}
use Rattle.pe_status.specs.Places.{value_at}
use Rattle.pe_status.proofs.Seen.{true-fault, false-fault, unknown-fault, none-ends, status-none, row-group-fits, row-owns, ended-index, ended-live}
use Rattle.pe_status.proofs.LookUps.{ended-found, ended-count}
use Rattle.pe_status.proofs.statuses.Statuses.end.Goals.{then-end, else-end}
use Rattle.pe_status.proofs.statuses.Statuses.end.Goals as goal

pub returns-in_default-clause-live : goal.returns-in_default-clause-live
returns-in_default-clause-live c = none-ends c.self.inside.given.items c.self.inside.index c.self.invariant c.args.self.now c.self.view_is c.args.no (status-none c.self.inside.given.items c.self.inside.index c.self.invariant c.args.self.now c.self.view_is c.args.no (sym (c.pair_given.ensures ∙ ap (λ (gs : List Given). pair_given gs c.args.no) c.deref.ensures.value) ∙ c.in_default.is))

pub returns-in_default-clause-fault : goal.returns-in_default-clause-fault
returns-in_default-clause-fault c = unknown-fault c.self.inside.given.items c.self.inside.index c.self.invariant c.args.self.now c.self.view_is c.args.no (sym (c.pair_given.ensures ∙ ap (λ (gs : List Given). pair_given gs c.args.no) c.deref.ensures.value) ∙ c.in_default.is)

pub end-requires-clause-group : goal.end-requires-clause-group
end-requires-clause-group c = row-group-fits c.self.inside.given.items c.self.inside.index c.self.invariant c.in-Some.group c.args.no

pub end-requires-clause-own : goal.end-requires-clause-own
end-requires-clause-own c = row-owns c.self.inside.given.items c.self.inside.index c.self.invariant c.in-Some.group c.args.no

pub invariant_of-self : goal.invariant_of-self
invariant_of-self c =
    ended-index c.same_pairs_are_one.ensures c.self.inside.given.items c.self.inside.index c.end.new.index c.self.invariant c.in-Some.group c.args.no c.end.ensures.without c.end.ensures.same

pub returns-clause-live : goal.returns-clause-live
returns-clause-live c =
    ended-live c.same_pairs_are_one.ensures c.self.inside.given.items c.self.inside.index c.end.new.index c.self.invariant c.args.self.now c.self.view_is c.in-Some.group c.args.no
    (sym (c.pair_given.ensures ∙ ap (λ (gs : List Given). pair_given gs c.args.no) c.deref.ensures.value) ∙ c.in-Some.is) c.end.ensures.without c.end.ensures.same

pub returns-clause-fault : goal.returns-clause-fault
returns-clause-fault c = elim c.if-end.branch [
  | then-end w ↦ w.result-is ∙ true-fault c.self.inside.given.items c.self.inside.index c.self.invariant c.args.self.now c.self.view_is c.args.no c.in-Some.group (sym (c.pair_given.ensures ∙ ap (λ (gs : List Given). pair_given gs c.args.no) c.deref.ensures.value) ∙ c.in-Some.is) (sym c.end.ensures.found ∙ w.if-end.true)
  | else-end w ↦ w.result-is ∙ false-fault c.self.inside.given.items c.self.inside.index c.self.invariant c.args.self.now c.self.view_is c.args.no c.in-Some.group (sym (c.pair_given.ensures ∙ ap (λ (gs : List Given). pair_given gs c.args.no) c.deref.ensures.value) ∙ c.in-Some.is) (sym c.end.ensures.found ∙ w.if-end.false)
]

pub returns-in_default-clause-found : goal.returns-in_default-clause-found
returns-in_default-clause-found c =
    ended-found c.self.inside.given.items c.self.inside.index c.self.invariant c.args.self.now c.self.view_is c.args.no c.args.self.now.live (returns-in_default-clause-live c)

pub returns-in_default-clause-count : goal.returns-in_default-clause-count
returns-in_default-clause-count c =
    ended-count c.self.inside.given.items c.self.inside.index c.self.invariant c.args.self.now c.self.view_is c.args.no c.args.self.now.live (returns-in_default-clause-live c)

pub returns-clause-found : goal.returns-clause-found
returns-clause-found c =
    ended-found c.self.inside.given.items c.self.inside.index c.self.invariant c.args.self.now c.self.view_is c.args.no (live_rows (value_at c.end.new.index.rows) c.self.inside.given.items) (returns-clause-live c)

pub returns-clause-count : goal.returns-clause-count
returns-clause-count c =
    ended-count c.self.inside.given.items c.self.inside.index c.self.invariant c.args.self.now c.self.view_is c.args.no (live_rows (value_at c.end.new.index.rows) c.self.inside.given.items) (returns-clause-live c)
