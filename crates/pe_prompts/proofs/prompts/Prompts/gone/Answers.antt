use Rattle.std.proofs.Common.{◌≡◌, ap, subst, sym, ◌∙◌, nat_eq}
use Rattle.pe_prompts.specs.Lists.{listed, Each}
use Rattle.pe_prompts.specs.Pending.{all_left, left_by}
use Rattle.pe_prompts.specs.Queues.{pending}
use Rattle.pe_prompts.specs.Kept.{queue_of, IsKept}
use Rattle.pe_prompts.proofs.Pending.{all_left-left_by}
use Rattle.pe_prompts.proofs.Kept.{Each-kept_left, Each-to_leave}
use Rattle.pe_prompts.proofs.prompts.Prompts.gone.Goals as goal

pub invariant_of-self : goal.invariant_of-self
invariant_of-self c = λ p.
    let places : c.deref.result.now ≡ listed c.self.inside.documents c.args.doc = c.deref.ensures.value ∙ c.take-places.ensures.list ∙ ap (listed c.self.inside.documents) c.get.ensures.value in
    let kept = Each-kept_left c.self.inside.given (listed c.self.inside.documents) p c.args.doc (listed c.take-places.new.lists)
    (λ n f. c.take-places.ensures.others n (ap (λ m. nat_eq m n) c.get.ensures.value ∙ f)) (queue_of c.self.inside.pages p) (c.self.invariant p) in
    subst (Each (IsKept c.self.inside.given (listed c.take-places.new.lists) p))
    (sym (c.drop_all.ensures p ∙ ap (λ l. all_left c.args.doc l p (queue_of c.self.inside.pages p)) places
    ∙ all_left-left_by c.args.doc (listed c.self.inside.documents c.args.doc) p (queue_of c.self.inside.pages p)
    (Each-to_leave c.self.inside.given (listed c.self.inside.documents) p c.args.doc (queue_of c.self.inside.pages p) (c.self.invariant p)))) kept

pub returns-clause-pending : goal.returns-clause-pending
returns-clause-pending c = λ p.
    let places : c.deref.result.now ≡ listed c.self.inside.documents c.args.doc = c.deref.ensures.value ∙ c.take-places.ensures.list ∙ ap (listed c.self.inside.documents) c.get.ensures.value in
    c.drop_all.ensures p ∙ ap (λ l. all_left c.args.doc l p (queue_of c.self.inside.pages p)) places
    ∙ all_left-left_by c.args.doc (listed c.self.inside.documents c.args.doc) p (queue_of c.self.inside.pages p)
    (Each-to_leave c.self.inside.given (listed c.self.inside.documents) p c.args.doc (queue_of c.self.inside.pages p) (c.self.invariant p))
    ∙ ap (λ q. left_by c.args.doc (pending q p)) c.self.view_is
