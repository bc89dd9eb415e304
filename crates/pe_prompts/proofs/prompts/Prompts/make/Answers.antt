use Rattle.std.proofs.Common.{◌≡◌, [], ◌∷◌, ◌++◌, Some, false, cond, IsSome, refl, ap, subst, ◌∙◌, nat_eq, unwrap_or}
use Rattle.std.specs.Map.{lookup}
use Rattle.indexmap.specs.IndexMap.{get}
use Rattle.pe_prompts.specs.Lists.{listed, IsIn}
use Rattle.pe_prompts.specs.Queues.{given_of, at_page}
use Rattle.pe_prompts.specs.Kept.{queue_of}
use Rattle.pe_prompts.proofs.Items.{put-stays, put-stands, put-kept}
use Rattle.pe_prompts.proofs.Kept.{AreKept-then, AreKept-made, above-pending}
use Rattle.pe_prompts.proofs.prompts.Prompts.make.Goals as goal

pub invariant_of-self : goal.invariant_of-self
invariant_of-self c = AreKept-then c.self.inside.given (listed c.self.inside.documents) (queue_of c.self.inside.pages) c.self.invariant c.self.inside.given (listed c.put.new.lists)
    (put-kept (listed c.self.inside.documents) (listed c.put.new.lists) c.get-doc.result c.in_err-put.ensures.err c.in_err-put.ensures.others)
    (queue_of c.self.inside.pages) (λ k. refl) (λ p. refl)

pub invariant_of-self-in_err-reserve : goal.invariant_of-self-in_err-reserve
invariant_of-self-in_err-reserve c = AreKept-then c.self.inside.given (listed c.self.inside.documents) (queue_of c.self.inside.pages) c.self.invariant c.reserve.new.self (listed c.put.new.lists)
    (put-stays (listed c.self.inside.documents) (listed c.put.new.lists) c.get-doc.result (c.args.page, c.args.number) c.in_ok-put.ensures.here c.in_ok-put.ensures.others)
    (queue_of c.self.inside.pages) (λ k. ap (lookup (nat_eq k)) c.in_err-reserve.ensures.entries) (λ p. refl)

pub push_in-requires-clause-above : goal.push_in-requires-clause-above
push_in-requires-clause-above c = above-pending c.self.inside.given (listed c.self.inside.documents) (queue_of c.self.inside.pages) c.self.invariant c.args.number
    (λ k some. c.requires.above k (subst (λ q. IsSome (given_of q k)) c.self.view_is some)) c.in_ok-prompt.prompt.page

pub invariant_of-self-in_err-push_in : goal.invariant_of-self-in_err-push_in
invariant_of-self-in_err-push_in c = AreKept-then c.self.inside.given (listed c.self.inside.documents) (queue_of c.self.inside.pages) c.self.invariant c.reserve.new.self (listed c.put.new.lists)
    (put-stays (listed c.self.inside.documents) (listed c.put.new.lists) c.get-doc.result (c.args.page, c.args.number) c.in_ok-put.ensures.here c.in_ok-put.ensures.others)
    (queue_of c.push_in.new.pages) (λ k. ap (lookup (nat_eq k)) c.in_ok-reserve.ensures.entries) (λ p. ap (λ es. unwrap_or (lookup (nat_eq p) es) []) c.in_err-push_in.ensures.err)

pub invariant_of-self-2 : goal.invariant_of-self-2
invariant_of-self-2 c =
    let own : c.in_ok-prompt.prompt.page ≡ c.args.page = ap (λ p. p.page) c.in_ok-prompt.ensures in
    AreKept-made c.self.inside.given (listed c.self.inside.documents) (queue_of c.self.inside.pages) c.self.invariant c.insert.new.self (listed c.put.new.lists)
    (put-stays (listed c.self.inside.documents) (listed c.put.new.lists) c.get-doc.result (c.args.page, c.args.number) c.in_ok-put.ensures.here c.in_ok-put.ensures.others)
    (queue_of c.push_in.new.pages) c.args.page c.args.number c.in_ok-prompt.prompt c.args.asker own (ap (λ p. p.waiting) c.in_ok-prompt.ensures)
    (subst (λ n. IsIn (listed c.put.new.lists n) (c.args.page, c.args.number)) c.get-doc.ensures.value
    (put-stands (listed c.self.inside.documents) (listed c.put.new.lists) c.get-doc.result (c.args.page, c.args.number) c.in_ok-put.ensures.here c.in_ok-put.ensures.others))
    (λ k some. c.requires.above k (subst (λ q. IsSome (given_of q k)) c.self.view_is some))
    (λ k. c.in_ok-insert.ensures.updates.0 k ∙ ap (λ n. cond (nat_eq n k) (Some (record { page = c.args.page; settled = false })) (get nat_eq c.reserve.new.self k)) c.get.ensures.value
    ∙ ap (λ es. cond (nat_eq c.args.number k) (Some (record { page = c.args.page; settled = false })) (lookup (nat_eq k) es)) c.in_ok-reserve.ensures.entries)
    (λ p. c.in_ok-push_in.ensures.ok p ∙ ap (λ q. at_page q (queue_of c.self.inside.pages q ++ (c.args.number, c.in_ok-prompt.prompt) ∷ []) (queue_of c.self.inside.pages) p) own)
