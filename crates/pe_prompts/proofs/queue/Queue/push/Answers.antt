use Rattle.std.proofs.Common.{◌<◌, [], ◌∷◌, None, length, ap, subst, sym, ◌∙◌, arith}
use Rattle.pe_base.specs.declared.limits.TheConstants.{PENDING_LIMIT}
use Rattle.pe_store.specs.Numbers.{IsChangedFor}
use Rattle.pe_prompts.specs.Pending.{Pending, pair_of, number_for}
use Rattle.pe_prompts.specs.declared.queue.Prompt.{Prompt}
use Rattle.pe_prompts.specs.Indexed.{pairs_in, IsIndex}
use Rattle.std.proofs.lemmas.List.{length-append}
use Rattle.pe_prompts.proofs.Indexed.{index-push, index-undone, index-stays}
use Rattle.pe_prompts.proofs.queue.Queue.push.Goals as goal

pub invariant_of-self-in_default : goal.invariant_of-self-in_default
invariant_of-self-in_default c = (
  let is = ap length c.in_default.ensures.ok in
      let more = length-append c.self.inside.prompts.entries ((c.args.number, c.args.prompt) ∷ []) in
      let room = subst (λ (ps : Pending). length ps < PENDING_LIMIT) (sym c.self.view_is) c.requires.room in
      omega (arith, is, more, room),
  subst (λ (ps : Pending). IsIndex ps c.note.new.pairs) (sym c.in_default.ensures.ok)
      (index-push c.same_pairs_are_one.ensures c.self.inside.prompts.entries c.args.number c.args.prompt c.self.inside.pairs c.note.new.pairs c.self.invariant.1
      (ap (number_for (pair_of c.args.prompt)) c.self.view_is ∙ c.requires.alone) c.note.ensures.low c.note.ensures.high c.in_ok-note.ensures.ok),
)

pub invariant_of-self-2 : goal.invariant_of-self-2
invariant_of-self-2 c = (
  let is = ap length c.in-Err.ensures.err in
      let few = c.self.invariant.0 in
      omega (arith, is, few),
  index-stays c.self.inside.prompts.entries c.put.new.prompts.entries c.remove.new.self (ap pairs_in c.in-Err.ensures.err)
      (index-undone c.same_pairs_are_one.ensures c.self.inside.prompts.entries (pair_of c.args.prompt) c.args.number c.self.inside.pairs c.note.new.pairs c.remove.new.self c.self.invariant.1
      (ap (number_for (pair_of c.args.prompt)) c.self.view_is ∙ c.requires.alone) c.in_ok-note.ensures.ok
      (subst (λ (p : Prompt). IsChangedFor (pair_of p) None c.note.new.pairs c.remove.new.self) c.in-Err.ensures.back c.remove.ensures)),
)
