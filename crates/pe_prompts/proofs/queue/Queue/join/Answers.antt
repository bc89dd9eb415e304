use Rattle.std.proofs.Common.{ap, ◌∙◌, arith, length}
use Rattle.pe_prompts.specs.Indexed.{pairs_in}
use Rattle.pe_prompts.proofs.Items.{on_ok, on_err, either_way}
use Rattle.pe_prompts.proofs.Pending.{length-joined}
use Rattle.pe_prompts.proofs.Indexed.{pairs-joined, index-stays}
use Rattle.pe_prompts.proofs.queue.Queue.join.Goals as goal

pub invariant_of-self : goal.invariant_of-self
invariant_of-self c = either_way c.join_in.result
    (on_ok c.join_in.result (λ e. (
      let few = c.self.invariant.0 in omega (arith, ap length e, length-joined c.args.number c.args.asker c.self.inside.prompts.entries, few),
      index-stays c.self.inside.prompts.entries c.join_in.new.prompts.entries c.self.inside.pairs (ap pairs_in e ∙ pairs-joined c.args.number c.args.asker c.self.inside.prompts.entries) c.self.invariant.1,
    )) c.join_in.ensures.ok)
    (on_err c.join_in.result (λ e. (
      let few = c.self.invariant.0 in omega (arith, ap length e, few),
      index-stays c.self.inside.prompts.entries c.join_in.new.prompts.entries c.self.inside.pairs (ap pairs_in e) c.self.invariant.1,
    )) c.join_in.ensures.err)
