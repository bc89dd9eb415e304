use Rattle.std.proofs.Common.{refl, ap, sym, ◌∙◌, nat_eq, true≢false}
use Rattle.std.specs.Map.{set_value, lookup, remove_entry}
use Rattle.pe_prompts.proofs.Pending.{same_test, AreApart-ordered, left-kept, left-emptied, left-absent}
use Rattle.pe_prompts.specs.Indexed.{pairs_in}
use Rattle.pe_prompts.proofs.Indexed.{pairs-written}
use Rattle.pe_prompts.proofs.queue.drop_in.Goals as goal

pub returns-in-Some-clause-kept : goal.returns-in-Some-clause-kept
returns-in-Some-clause-kept c = λ no_more.
    (c.get_mut.follows.holds (record c.in-Some.prompt.now { waiting = c.drop_of.new.self })).0
    ∙ ap (λ t. set_value t c.args.prompts.now.entries (record c.in-Some.prompt.now { waiting = c.drop_of.new.self })) (same_test c.args.number)
    ∙ left-kept c.args.number c.args.doc c.args.prompts.now.entries c.in-Some.prompt.now c.drop_of.new.self (AreApart-ordered c.args.prompts.now.entries c.in-Some.ensures.ordered)
    (ap (λ t. lookup t c.args.prompts.now.entries) (sym (same_test c.args.number)) ∙ sym c.in-Some.ensures.value) c.drop_of.ensures
    (λ e. true≢false (sym (c.is_empty.ensures.1 e) ∙ no_more))

pub returns-in-Some-clause-emptied : goal.returns-in-Some-clause-emptied
returns-in-Some-clause-emptied c = λ none.
    ap (remove_entry (nat_eq c.args.number)) ((c.get_mut.follows.holds (record c.in-Some.prompt.now { waiting = c.drop_of.new.self })).0
    ∙ ap (λ t. set_value t c.args.prompts.now.entries (record c.in-Some.prompt.now { waiting = c.drop_of.new.self })) (same_test c.args.number))
    ∙ left-emptied c.args.number c.args.doc c.args.prompts.now.entries c.in-Some.prompt.now c.drop_of.new.self (AreApart-ordered c.args.prompts.now.entries c.in-Some.ensures.ordered)
    (ap (λ t. lookup t c.args.prompts.now.entries) (sym (same_test c.args.number)) ∙ sym c.in-Some.ensures.value) c.drop_of.ensures
    (c.is_empty.ensures.0 none)

pub returns-in-None-clause-kept : goal.returns-in-None-clause-kept
returns-in-None-clause-kept c = λ no_more.
    ap (λ m. m.entries) c.get_mut.follows.holds-at-none
    ∙ sym (left-absent c.args.number c.args.doc c.args.prompts.now.entries (ap (λ t. lookup t c.args.prompts.now.entries) (sym (same_test c.args.number)) ∙ sym c.in-None.ensures.value))

pub returns-in-Some-clause-pairs : goal.returns-in-Some-clause-pairs
returns-in-Some-clause-pairs c =
    ap pairs_in ((c.get_mut.follows.holds (record c.in-Some.prompt.now { waiting = c.drop_of.new.self })).0
    ∙ ap (λ t. set_value t c.args.prompts.now.entries (record c.in-Some.prompt.now { waiting = c.drop_of.new.self })) (same_test c.args.number))
    ∙ pairs-written c.args.number c.args.prompts.now.entries c.in-Some.prompt.now (record c.in-Some.prompt.now { waiting = c.drop_of.new.self })
    (ap (λ t. lookup t c.args.prompts.now.entries) (sym (same_test c.args.number)) ∙ sym c.in-Some.ensures.value) refl
