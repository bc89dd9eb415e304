use Rattle.std.proofs.Common.{refl, ap, subst, nat_eq, unwrap_or, []}
use Rattle.std.specs.Map.{lookup}
use Rattle.pe_prompts.specs.Lists.{listed, IsIn}
use Rattle.pe_prompts.specs.Kept.{queue_of}
use Rattle.pe_prompts.proofs.Items.{put-stays, put-stands, put-kept}
use Rattle.pe_prompts.proofs.Kept.{AreKept-then, AreKept-joined}
use Rattle.pe_prompts.proofs.prompts.Prompts.join.Goals as goal

pub invariant_of-self : goal.invariant_of-self
invariant_of-self c = AreKept-then c.self.inside.given (listed c.self.inside.documents) (queue_of c.self.inside.pages) c.self.invariant c.self.inside.given (listed c.put.new.lists)
    (put-kept (listed c.self.inside.documents) (listed c.put.new.lists) c.get-doc.result c.in_err-put.ensures.err c.in_err-put.ensures.others)
    (queue_of c.self.inside.pages) (λ k. refl) (λ p. refl)

pub invariant_of-self-in_err-join_in : goal.invariant_of-self-in_err-join_in
invariant_of-self-in_err-join_in c = AreKept-then c.self.inside.given (listed c.self.inside.documents) (queue_of c.self.inside.pages) c.self.invariant c.self.inside.given (listed c.put.new.lists)
    (put-stays (listed c.self.inside.documents) (listed c.put.new.lists) c.get-doc.result (c.args.page, c.args.number) c.in_ok-put.ensures.here c.in_ok-put.ensures.others)
    (queue_of c.join_in.new.pages) (λ k. refl) (λ p. ap (λ es. unwrap_or (lookup (nat_eq p) es) []) c.in_err-join_in.ensures.err)

pub invariant_of-self-2 : goal.invariant_of-self-2
invariant_of-self-2 c = AreKept-joined c.self.inside.given (listed c.self.inside.documents) (queue_of c.self.inside.pages) c.self.invariant c.self.inside.given (listed c.put.new.lists)
    (put-stays (listed c.self.inside.documents) (listed c.put.new.lists) c.get-doc.result (c.args.page, c.args.number) c.in_ok-put.ensures.here c.in_ok-put.ensures.others)
    (queue_of c.join_in.new.pages) c.args.page c.args.number c.args.asker
    (subst (λ n. IsIn (listed c.put.new.lists n) (c.args.page, c.args.number)) c.get-doc.ensures.value
    (put-stands (listed c.self.inside.documents) (listed c.put.new.lists) c.get-doc.result (c.args.page, c.args.number) c.in_ok-put.ensures.here c.in_ok-put.ensures.others))
    (λ k. refl) c.in_ok-join_in.ensures.ok
