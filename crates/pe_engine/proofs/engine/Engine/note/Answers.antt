use Rattle.std.proofs.Common.{◌<◌, length, sym, subst, arith}
use Rattle.pe_engine.specs.StandsFor.{EngineValue}
use Rattle.pe_engine.proofs.Numbers.{noted-invariant, given-before}
use Rattle.pe_engine.proofs.engine.Engine.note.Goals as goal

pub invariant_of-self-2 : goal.invariant_of-self-2
invariant_of-self-2 c =
    noted-invariant c.self.inside.made.items c.push.new.self.items c.args.made c.self.inside.frames.made c.self.inside.statuses.given c.self.inside.prompts c.self.inside.messages.given c.in_ok-push.ensures.items
    (subst (λ (v : EngineValue). length v.made < 1000000) (sym c.self.view_is) c.requires) (let within = c.self.invariant.1 in omega arith) c.self.invariant.2 c.self.invariant.3 (given-before _ _ c.self.invariant.4)
