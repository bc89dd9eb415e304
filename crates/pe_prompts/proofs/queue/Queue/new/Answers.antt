use Rattle.std.proofs.Common.{arith}
use Rattle.pe_prompts.proofs.Indexed.{index-none}
use Rattle.pe_prompts.proofs.queue.Queue.new.Goals as goal

pub invariant_of-result : goal.invariant_of-result
invariant_of-result c = (let none = c.new.ensures.len in omega (arith, none), index-none c.new.result.entries c.new-2.result c.new.ensures.empty c.new-2.ensures)
