use Rattle.std.proofs.Common.{cond, Some, None, nat_eq, sym, ap, subst, ◌∙◌}
use Rattle.std.specs.Prelude.{option_map}
use Rattle.pe_counts.specs.Counts.{count_of}
use Rattle.pe_delegation.specs.Posted.{message_of, deliver_fault, without, delivery_of}
use Rattle.pe_delegation.specs.Kept.{IsPlaceOf}
use Rattle.pe_delegation.proofs.Keeping as kept
use Rattle.pe_delegation.proofs.messages.Messages.deliver.Goals as goal

pub returns-in_default-get-clause-fault : goal.returns-in_default-get-clause-fault
returns-in_default-get-clause-fault g c =
    kept.fault-settled c.self.inside.given.items c.self.inside.slots.items (count_of c.self.inside.pages) c.self.invariant c.args.message c.in-Some.place c.index.result.now (subst (λ ns. IsPlaceOf ns c.args.message (Some c.in-Some.place)) c.deref.ensures.value c.in-Some.ensures) c.index.ensures (sym c.in_default-get.ensures)
    ∙ ap (λ s. deliver_fault s c.args.message) c.self.view_is

pub invariant_of-self : goal.invariant_of-self
invariant_of-self g c =
    kept.settled-kept c.self.inside.given.items c.self.inside.slots.items (count_of c.self.inside.pages) c.self.invariant c.args.message c.in-Some.place c.settle_at.new.slots.items (count_of c.take.new.self) c.in-Some-get.found.now
    (subst (λ ns. IsPlaceOf ns c.args.message (Some c.in-Some.place)) c.deref.ensures.value c.in-Some.ensures) c.settle_at.ensures
    (kept.found c.self.inside.given.items c.self.inside.slots.items (count_of c.self.inside.pages) c.self.invariant c.args.message c.in-Some.place c.index.result.now (subst (λ ns. IsPlaceOf ns c.args.message (Some c.in-Some.place)) c.deref.ensures.value c.in-Some.ensures) c.index.ensures ∙ sym c.in-Some-get.ensures) c.take.ensures

pub returns-clause-delivery : goal.returns-clause-delivery
returns-clause-delivery g c =
    ap Some c.delivery_of-delivery.ensures.value
    ∙ sym (ap (option_map (delivery_of g.D.Numbered.doc_no g.D.Addressed.origin_of c.args.frames.now.entries))
    (ap (λ s. message_of s.waiting c.args.message) (sym c.self.view_is)
    ∙ kept.found c.self.inside.given.items c.self.inside.slots.items (count_of c.self.inside.pages) c.self.invariant c.args.message c.in-Some.place c.index.result.now (subst (λ ns. IsPlaceOf ns c.args.message (Some c.in-Some.place)) c.deref.ensures.value c.in-Some.ensures) c.index.ensures ∙ sym c.in-Some-get.ensures))

pub returns-clause-waiting : goal.returns-clause-waiting
returns-clause-waiting g c =
    kept.settled-waiting c.self.inside.given.items c.self.inside.slots.items (count_of c.self.inside.pages) c.self.invariant c.args.message c.in-Some.place c.settle_at.new.slots.items (subst (λ ns. IsPlaceOf ns c.args.message (Some c.in-Some.place)) c.deref.ensures.value c.in-Some.ensures) c.settle_at.ensures
    ∙ ap (λ s. without c.args.message s.waiting) c.self.view_is

pub returns-clause-found : goal.returns-clause-found
returns-clause-found g c = λ k.
    kept.settled-found c.self.inside.given.items c.self.inside.slots.items (count_of c.self.inside.pages) c.self.invariant c.args.message c.in-Some.place c.settle_at.new.slots.items (subst (λ ns. IsPlaceOf ns c.args.message (Some c.in-Some.place)) c.deref.ensures.value c.in-Some.ensures) c.settle_at.ensures k
    ∙ ap (λ s. cond (nat_eq c.args.message k) None (message_of s.waiting k)) c.self.view_is

pub returns-clause-fault : goal.returns-clause-fault
returns-clause-fault g c =
    kept.fault-none c.self.inside.given.items c.self.inside.slots.items (count_of c.self.inside.pages) c.self.invariant c.args.message c.in-Some.place c.index.result.now c.in-Some-get.found.now (subst (λ ns. IsPlaceOf ns c.args.message (Some c.in-Some.place)) c.deref.ensures.value c.in-Some.ensures) c.index.ensures (sym c.in-Some-get.ensures)
    ∙ ap (λ s. deliver_fault s c.args.message) c.self.view_is
