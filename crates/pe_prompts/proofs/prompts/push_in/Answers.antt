use Rattle.std.proofs.Common.{sym, ◌∙◌, ap, nat_eq}
use Rattle.std.specs.Map.{set_value}
use Rattle.std.proofs.lemmas.Map.Steps.{set_value_same}
use Rattle.pe_prompts.proofs.Items.{on_err}
use Rattle.pe_prompts.proofs.prompts.push_in.Goals as goal

pub returns-in-Some-clause-err : goal.returns-in-Some-clause-err
returns-in-Some-clause-err c =
    on_err c.push.result (λ same.
    (c.get_mut.follows.holds c.push.new.self).0
    ∙ ap (set_value (nat_eq c.get.result) c.args.pages.now.entries) same
    ∙ set_value_same (nat_eq c.get.result) c.args.pages.now.entries c.in-Some.queue.now (sym c.in-Some.ensures.value)) c.push.ensures.err
