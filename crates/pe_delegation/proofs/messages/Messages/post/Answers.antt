use Rattle.std.proofs.Common.{◌≡◌, ℕ, ◌<◌, ◌++◌, ◌∷◌, [], true, ◌||◌, cond, Some, nat_eq, sym, ap, subst, ◌∙◌, arith, ◌≤◌, Bool, false, IsTrue, true≢false}
use Rattle.pe_base.specs.declared.limits.TheConstants.{MESSAGE_LIMIT}
use Rattle.pe_counts.specs.Counts.{count_of}
use Rattle.pe_delegation.specs.Posted.{message, message_of, was_given}
use Rattle.pe_delegation.proofs.Keeping as kept
use Rattle.pe_delegation.proofs.messages.Messages.post.Goals as goal

-- a page that is not full has room
room : {count : ℕ} → count ≤ MESSAGE_LIMIT → (full : Bool) → (IsTrue full → count ≡ MESSAGE_LIMIT) × (count ≡ MESSAGE_LIMIT → IsTrue full) → full ≡ false → count < MESSAGE_LIMIT
room {count} few full is not = let other = (λ (e : count ≡ MESSAGE_LIMIT). true≢false (sym (is.1 e) ∙ not)) in omega (arith, few, other)

pub invariant_of-self-2 : goal.invariant_of-self-2
invariant_of-self-2 c =
    kept.posted-kept c.self.inside.given.items c.self.inside.slots.items (count_of c.self.inside.pages) c.self.invariant c.args.no (message c.args.page c.args.target c.args.origin c.args.capability)
    (subst (λ s. (k : ℕ) → was_given s.given k ≡ true → k < c.args.no) (sym c.self.view_is) c.requires) c.push_reserved.new.self.items c.push_reserved-2.new.self.items
    (c.push_reserved.ensures.items ∙ ap (λ ns. ns ++ c.args.no ∷ []) c.reserve.ensures.items)
    (c.push_reserved-2.ensures.items ∙ ap (λ os. os ++ c.in-Ok.slot ∷ []) c.reserve-else-is_err.ensures.items ∙ ap (λ o. c.self.inside.slots.items ++ o ∷ []) c.in-Ok.ensures)
    (count_of c.add.new.self) (let few = c.self.invariant.few c.args.page in room few c.is_full.result c.is_full.ensures c.if-is_full.false) c.in-Ok-add.ensures.ok

pub returns-clause-waiting : goal.returns-clause-waiting
returns-clause-waiting c =
    kept.posted-waiting c.self.inside.given.items c.self.inside.slots.items (count_of c.self.inside.pages) c.self.invariant c.args.no (message c.args.page c.args.target c.args.origin c.args.capability)
    (subst (λ s. (k : ℕ) → was_given s.given k ≡ true → k < c.args.no) (sym c.self.view_is) c.requires) c.push_reserved.new.self.items c.push_reserved-2.new.self.items
    (c.push_reserved.ensures.items ∙ ap (λ ns. ns ++ c.args.no ∷ []) c.reserve.ensures.items)
    (c.push_reserved-2.ensures.items ∙ ap (λ os. os ++ c.in-Ok.slot ∷ []) c.reserve-else-is_err.ensures.items ∙ ap (λ o. c.self.inside.slots.items ++ o ∷ []) c.in-Ok.ensures)
    ∙ ap (λ s. s.waiting ++ (c.args.no, message c.args.page c.args.target c.args.origin c.args.capability) ∷ []) c.self.view_is

pub returns-clause-found : goal.returns-clause-found
returns-clause-found c = λ k.
    kept.posted-found c.self.inside.given.items c.self.inside.slots.items (count_of c.self.inside.pages) c.self.invariant c.args.no (message c.args.page c.args.target c.args.origin c.args.capability)
    (subst (λ s. (k : ℕ) → was_given s.given k ≡ true → k < c.args.no) (sym c.self.view_is) c.requires) c.push_reserved.new.self.items c.push_reserved-2.new.self.items
    (c.push_reserved.ensures.items ∙ ap (λ ns. ns ++ c.args.no ∷ []) c.reserve.ensures.items)
    (c.push_reserved-2.ensures.items ∙ ap (λ os. os ++ c.in-Ok.slot ∷ []) c.reserve-else-is_err.ensures.items ∙ ap (λ o. c.self.inside.slots.items ++ o ∷ []) c.in-Ok.ensures) k
    ∙ ap (λ s. cond (nat_eq c.args.no k) (Some (message c.args.page c.args.target c.args.origin c.args.capability)) (message_of s.waiting k)) c.self.view_is

pub returns-clause-known : goal.returns-clause-known
returns-clause-known c = λ k.
    kept.posted-known c.self.inside.given.items c.self.inside.slots.items (count_of c.self.inside.pages) c.self.invariant c.args.no (message c.args.page c.args.target c.args.origin c.args.capability)
    (subst (λ s. (k : ℕ) → was_given s.given k ≡ true → k < c.args.no) (sym c.self.view_is) c.requires) c.push_reserved.new.self.items c.push_reserved-2.new.self.items
    (c.push_reserved.ensures.items ∙ ap (λ ns. ns ++ c.args.no ∷ []) c.reserve.ensures.items)
    (c.push_reserved-2.ensures.items ∙ ap (λ os. os ++ c.in-Ok.slot ∷ []) c.reserve-else-is_err.ensures.items ∙ ap (λ o. c.self.inside.slots.items ++ o ∷ []) c.in-Ok.ensures) k
    ∙ ap (λ s. nat_eq c.args.no k || was_given s.given k) c.self.view_is
