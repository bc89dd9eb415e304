use Rattle.pe_prompts.proofs.Pending.{insert-last}
use Rattle.std.proofs.Common.{◌∙◌}
use Rattle.pe_prompts.proofs.queue.put.Goals as goal

pub returns-in-Ok-clause-ok : goal.returns-in-Ok-clause-ok
returns-in-Ok-clause-ok c = c.in-Ok.ensures.entries ∙ insert-last c.args.prompts.now.entries c.args.number c.args.prompt c.requires
