use Rattle.std.proofs.Common.{◌∙◌, sym, ap, ℕ, List, Some}
use Rattle.pe_status.specs.declared.giving.Given.{Given}
use Rattle.pe_status.specs.Kept.{pair_given}
use Rattle.pe_status.specs.Places.{value_at}
use Rattle.std.specs.Option.{option_copied}
use Rattle.pe_status.proofs.Seen.{order, unknown-fault, closed-fault, no-fault, status-found}
use Rattle.pe_status.proofs.statuses.Statuses.find.Goals as goal

pub returns-in_default-clause-order : goal.returns-in_default-clause-order
returns-in_default-clause-order c = order c.self.inside.given.items c.self.inside.index c.self.invariant c.args.self.now c.self.view_is

pub returns-in-Some-get-clause-order : goal.returns-in-Some-get-clause-order
returns-in-Some-get-clause-order c = order c.self.inside.given.items c.self.inside.index c.self.invariant c.args.self.now c.self.view_is

pub returns-in-None-clause-order : goal.returns-in-None-clause-order
returns-in-None-clause-order c = order c.self.inside.given.items c.self.inside.index c.self.invariant c.args.self.now c.self.view_is

pub returns-in_default-clause-fault : goal.returns-in_default-clause-fault
returns-in_default-clause-fault c = unknown-fault c.self.inside.given.items c.self.inside.index c.self.invariant c.args.self.now c.self.view_is c.args.no (sym (c.pair_given.ensures ∙ ap (λ (m : ℕ). pair_given c.deref.result.now m) c.get.ensures.value ∙ ap (λ (gs : List Given). pair_given gs c.args.no) c.deref.ensures.value) ∙ c.in_default.is)

pub returns-in-Some-get-clause-found : goal.returns-in-Some-get-clause-found
unfolding value_at
returns-in-Some-get-clause-found c =
    status-found c.self.inside.given.items c.self.inside.index c.self.invariant c.args.self.now c.self.view_is c.args.no c.in-Some.group (Some c.in-Some-get.row.now) (sym (c.pair_given.ensures ∙ ap (λ (m : ℕ). pair_given c.deref.result.now m) c.get.ensures.value ∙ ap (λ (gs : List Given). pair_given gs c.args.no) c.deref.ensures.value) ∙ c.in-Some.is)
    (ap (value_at c.self.inside.index.rows c.in-Some.group) (sym c.get-2.ensures.value) ∙ sym c.get-3.ensures.value ∙ ap option_copied c.in-Some-get.is)

pub returns-in-Some-get-clause-fault : goal.returns-in-Some-get-clause-fault
unfolding value_at
returns-in-Some-get-clause-fault c =
    no-fault c.self.inside.given.items c.self.inside.index c.self.invariant c.args.self.now c.self.view_is c.args.no c.in-Some.group c.in-Some-get.row.now (sym (c.pair_given.ensures ∙ ap (λ (m : ℕ). pair_given c.deref.result.now m) c.get.ensures.value ∙ ap (λ (gs : List Given). pair_given gs c.args.no) c.deref.ensures.value) ∙ c.in-Some.is)
    (ap (value_at c.self.inside.index.rows c.in-Some.group) (sym c.get-2.ensures.value) ∙ sym c.get-3.ensures.value ∙ ap option_copied c.in-Some-get.is)

pub returns-in-None-clause-fault : goal.returns-in-None-clause-fault
unfolding value_at
returns-in-None-clause-fault c =
    closed-fault c.self.inside.given.items c.self.inside.index c.self.invariant c.args.self.now c.self.view_is c.args.no c.in-Some.group (sym (c.pair_given.ensures ∙ ap (λ (m : ℕ). pair_given c.deref.result.now m) c.get.ensures.value ∙ ap (λ (gs : List Given). pair_given gs c.args.no) c.deref.ensures.value) ∙ c.in-Some.is)
    (ap (value_at c.self.inside.index.rows c.in-Some.group) (sym c.get-2.ensures.value) ∙ sym c.get-3.ensures.value ∙ ap option_copied c.in-None.is)
