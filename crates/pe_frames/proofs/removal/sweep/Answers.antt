use Rattle.std.proofs.Common.{rules}
use Rattle.std.proofs.lemmas.Fn.{filter_same}
use Rattle.pe_frames.proofs.Removed.{Sweeps-filter, IsSwept-filter}
use Rattle.pe_frames.proofs.removal.sweep.Goals as goal

pub returns-then-dead-len-clause-sweeps : goal.returns-then-dead-len-clause-sweeps
returns-then-dead-len-clause-sweeps g c = Sweeps-filter c.args.rows.now c.args.order.now.items c.retain.new.self.items (filter_same _ _ _ (λ x b f' k. search rules) _ _ c.retain.ensures.filtered)

pub returns-then-dead-len-clause-swept : goal.returns-then-dead-len-clause-swept
returns-then-dead-len-clause-swept g c = IsSwept-filter c.args.rows.now c.args.order.now.items c.retain.new.self.items (filter_same _ _ _ (λ x b f' k. search rules) _ _ c.retain.ensures.filtered)
