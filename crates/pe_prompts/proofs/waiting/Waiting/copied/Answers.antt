use Rattle.std.proofs.Common.{◌++◌, ap, sym, ◌∙◌, take, add-one}
use Rattle.std.specs.Prelude.{option_to_list}
use Rattle.pe_prompts.specs.Requests.{somes}
use Rattle.pe_prompts.proofs.Requests.{somes-take}
use Rattle.pe_prompts.proofs.waiting.Waiting.copied.Goals as goal

pub loop-request-preserved : goal.loop-request-preserved
loop-request-preserved c =
    c.in_ok-put_request.ensures
    ∙ ap (λ l. l ++ option_to_list c.request-item.result) c.loop-request.invariant
    ∙ ap (λ x. somes (take c.loop-request.request-index c.deref-request-items.result.now) ++ option_to_list x) c.request-item.is
    ∙ sym (somes-take c.deref-request-items.result.now c.loop-request.request-index c.request-item.result c.loop-request-test.true)
    ∙ ap (λ n. somes (take n c.deref-request-items.result.now)) (sym (add-one c.loop-request.request-index))
