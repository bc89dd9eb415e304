use Rattle.std.proofs.Common.{Some, false, [], sym, ap, ◌∙◌, unwrap_or}
use Rattle.pe_prompts.specs.Lists.{listed}
use Rattle.pe_prompts.specs.Pending.{prompt_in}
use Rattle.pe_prompts.specs.Queues.{given_of}
use Rattle.pe_prompts.specs.Kept.{queue_of}
use Rattle.pe_prompts.proofs.Kept.{kept_of}
use Rattle.pe_prompts.proofs.prompts.Prompts.shown.Goals as goal

pub returns-clause-page : goal.returns-clause-page
returns-clause-page c =
    let kept = kept_of c.self.inside.given (listed c.self.inside.documents) c.get-3.result c.args.prompt (queue_of c.self.inside.pages c.get-3.result) c.in-Some-get-2.asked.now (c.self.invariant c.get-3.result)
    (ap (λ o. prompt_in c.args.prompt (unwrap_or o [])) (sym c.in-Some-get.ensures.value) ∙ sym c.in-Some-get-2.ensures) in
    ap (λ q. given_of q c.args.prompt) (sym c.self.view_is) ∙ kept.open_yet ∙ ap (λ n. Some (record { page = n; settled = false })) (sym kept.own_page)
