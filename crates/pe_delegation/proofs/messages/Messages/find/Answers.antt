use Rattle.std.proofs.Common.{Some, sym, ap, subst, ◌∙◌}
use Rattle.pe_counts.specs.Counts.{count_of}
use Rattle.pe_delegation.specs.Posted.{message_of, deliver_fault, IsInOrder}
use Rattle.pe_delegation.specs.Kept.{IsPlaceOf}
use Rattle.pe_delegation.proofs.Keeping as kept
use Rattle.pe_delegation.proofs.messages.Messages.find.Goals as goal

pub returns-in_default-clause-order : goal.returns-in_default-clause-order
returns-in_default-clause-order c = subst (λ s. IsInOrder s.waiting) c.self.view_is (kept.order c.self.inside.given.items c.self.inside.slots.items (count_of c.self.inside.pages) c.self.invariant)

pub returns-in-Some-get-clause-order : goal.returns-in-Some-get-clause-order
returns-in-Some-get-clause-order c = subst (λ s. IsInOrder s.waiting) c.self.view_is (kept.order c.self.inside.given.items c.self.inside.slots.items (count_of c.self.inside.pages) c.self.invariant)

pub returns-in-None-clause-order : goal.returns-in-None-clause-order
returns-in-None-clause-order c = subst (λ s. IsInOrder s.waiting) c.self.view_is (kept.order c.self.inside.given.items c.self.inside.slots.items (count_of c.self.inside.pages) c.self.invariant)

pub returns-in-Some-get-clause-found : goal.returns-in-Some-get-clause-found
returns-in-Some-get-clause-found c =
    ap (λ s. message_of s.waiting c.args.message) (sym c.self.view_is)
    ∙ kept.found c.self.inside.given.items c.self.inside.slots.items (count_of c.self.inside.pages) c.self.invariant c.args.message c.in-Some.place c.index.result.now (subst (λ ns. IsPlaceOf ns c.args.message (Some c.in-Some.place)) c.deref.ensures.value c.in-Some.ensures) c.index.ensures ∙ sym c.in-Some-get.ensures

pub returns-in-Some-get-clause-fault : goal.returns-in-Some-get-clause-fault
returns-in-Some-get-clause-fault c =
    kept.fault-none c.self.inside.given.items c.self.inside.slots.items (count_of c.self.inside.pages) c.self.invariant c.args.message c.in-Some.place c.index.result.now c.in-Some-get.found.now (subst (λ ns. IsPlaceOf ns c.args.message (Some c.in-Some.place)) c.deref.ensures.value c.in-Some.ensures) c.index.ensures (sym c.in-Some-get.ensures)
    ∙ ap (λ s. deliver_fault s c.args.message) c.self.view_is

pub returns-in-None-clause-fault : goal.returns-in-None-clause-fault
returns-in-None-clause-fault c =
    kept.fault-settled c.self.inside.given.items c.self.inside.slots.items (count_of c.self.inside.pages) c.self.invariant c.args.message c.in-Some.place c.index.result.now (subst (λ ns. IsPlaceOf ns c.args.message (Some c.in-Some.place)) c.deref.ensures.value c.in-Some.ensures) c.index.ensures (sym c.in-None.ensures)
    ∙ ap (λ s. deliver_fault s c.args.message) c.self.view_is
