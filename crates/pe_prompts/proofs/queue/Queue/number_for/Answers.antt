use Rattle.std.proofs.Common.{Some, ap, sym, ◌∙◌}
use Rattle.pe_prompts.specs.Pending.{number_for}
use Rattle.pe_prompts.proofs.Indexed.{index-found}
use Rattle.pe_prompts.proofs.queue.Queue.number_for.Goals as goal

pub returns-in-Some : goal.returns-in-Some
returns-in-Some c =
    ap (λ n. Some n) c.numbered.ensures ∙ sym c.in-Some.is ∙ c.number.ensures
    ∙ index-found c.self.inside.prompts.entries c.self.inside.pairs c.self.invariant.1 (c.args.feature, c.args.key.now)
    ∙ ap (number_for (c.args.feature, c.args.key.now)) c.self.view_is

pub returns-in-None : goal.returns-in-None
returns-in-None c =
    sym c.in-None.is ∙ c.number.ensures ∙ index-found c.self.inside.prompts.entries c.self.inside.pairs c.self.invariant.1 (c.args.feature, c.args.key.now)
    ∙ ap (number_for (c.args.feature, c.args.key.now)) c.self.view_is
