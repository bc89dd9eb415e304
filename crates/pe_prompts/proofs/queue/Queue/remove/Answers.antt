use Rattle.std.proofs.Common.{length, ap, subst, sym, ◌∙◌, arith}
use Rattle.pe_prompts.specs.Pending.{Pending}
use Rattle.pe_prompts.specs.Indexed.{pairs_in, IsIndex}
use Rattle.pe_prompts.proofs.Pending.{length-remove_entry, remove_entry-absent}
use Rattle.pe_prompts.proofs.Indexed.{index-removed, index-stays}
use Rattle.pe_prompts.proofs.queue.Queue.remove.Goals as goal

pub invariant_of-self : goal.invariant_of-self
invariant_of-self c = (
  let is = ap length c.take.ensures.rest in
      let fewer = length-remove_entry c.args.number c.self.inside.prompts.entries in
      let few = c.self.invariant.0 in
      omega (arith, is, fewer, few),
  index-stays c.self.inside.prompts.entries c.take.new.prompts.entries c.self.inside.pairs
      (ap pairs_in (c.take.ensures.rest ∙ remove_entry-absent c.args.number c.self.inside.prompts.entries (sym c.take.ensures.prompt ∙ c.in_default.is))) c.self.invariant.1,
)

pub invariant_of-self-2 : goal.invariant_of-self-2
invariant_of-self-2 c = (
  let is = ap length c.take.ensures.rest in
      let fewer = length-remove_entry c.args.number c.self.inside.prompts.entries in
      let few = c.self.invariant.0 in
      omega (arith, is, fewer, few),
  subst (λ (ps : Pending). IsIndex ps c.remove.new.self) (sym c.take.ensures.rest)
      (index-removed c.same_pairs_are_one.ensures c.self.inside.prompts.entries c.args.number c.in-Some.prompt c.self.inside.pairs c.remove.new.self c.self.invariant.1
      (sym c.take.ensures.prompt ∙ c.in-Some.is) c.remove.ensures),
)
