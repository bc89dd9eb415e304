use Rattle.std.proofs.Common.{ap, sym, ◌∙◌, nat_eq}
use Rattle.std.specs.Map.{set_value, lookup}
use Rattle.std.proofs.lemmas.Map.Steps.{set_value_same}
use Rattle.pe_prompts.proofs.Items.{on_ok, on_err}
use Rattle.pe_prompts.proofs.Pending.{set_value-joined, joined-absent, same_test}
use Rattle.pe_prompts.proofs.queue.join_in.Goals as goal

pub returns-in-Some-clause-ok : goal.returns-in-Some-clause-ok
returns-in-Some-clause-ok c =
    on_ok c.push.result (λ same.
    (c.get_mut.follows.holds (record c.in-Some.prompt.now { waiting = c.push.new.self })).0
    ∙ ap (λ t. set_value t c.args.prompts.now.entries (record c.in-Some.prompt.now { waiting = c.push.new.self })) (same_test c.args.number)
    ∙ ap (λ w. set_value (nat_eq c.args.number) c.args.prompts.now.entries (record c.in-Some.prompt.now { waiting = w })) same
    ∙ set_value-joined c.args.number c.args.asker c.args.prompts.now.entries c.in-Some.prompt.now (ap (λ t. lookup t c.args.prompts.now.entries) (sym (same_test c.args.number)) ∙ sym c.in-Some.ensures.value)) c.push.ensures.ok

pub returns-in-Some-clause-err : goal.returns-in-Some-clause-err
returns-in-Some-clause-err c =
    on_err c.push.result (λ same.
    (c.get_mut.follows.holds (record c.in-Some.prompt.now { waiting = c.push.new.self })).0
    ∙ ap (λ t. set_value t c.args.prompts.now.entries (record c.in-Some.prompt.now { waiting = c.push.new.self })) (same_test c.args.number)
    ∙ ap (λ w. set_value (nat_eq c.args.number) c.args.prompts.now.entries (record c.in-Some.prompt.now { waiting = w })) same
    ∙ set_value_same (nat_eq c.args.number) c.args.prompts.now.entries c.in-Some.prompt.now (ap (λ t. lookup t c.args.prompts.now.entries) (sym (same_test c.args.number)) ∙ sym c.in-Some.ensures.value)) c.push.ensures.err

pub returns-in-None-clause-ok : goal.returns-in-None-clause-ok
returns-in-None-clause-ok c =
    ap (λ m. m.entries) c.get_mut.follows.holds-at-none
    ∙ sym (joined-absent c.args.number c.args.asker c.args.prompts.now.entries (ap (λ t. lookup t c.args.prompts.now.entries) (sym (same_test c.args.number)) ∙ sym c.in-None.ensures.value))
