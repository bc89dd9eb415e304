use Rattle.std.proofs.Common.{[], ◌∷◌, ◌++◌, length, ◌∙◌, ap, arith}
use Rattle.pe_engine.specs.declared.engine.Made.TheVariants as made
use Rattle.pe_engine.specs.StandsFor.{EngineValue}
use Rattle.pe_engine.proofs.Numbers.{noted-invariant, given-before}
use Rattle.pe_engine.proofs.engine.Engine.add_child.Goals as goal

pub invariant_of-self-2 : goal.invariant_of-self-2
invariant_of-self-2 c =
    let old = c.self.inside.made.items in
    let counted = ap (λ (v : EngineValue). length v.made) c.self.view_is in
    noted-invariant old c.push_reserved.new.self.items (made.Frame c.in-Ok.h) c.embed.new.self.made c.self.inside.statuses.given c.self.inside.prompts c.self.inside.messages.given (c.push_reserved.ensures.items ∙ ap (λ ms. ms ++ made.Frame c.in-Ok.h ∷ []) c.reserve.ensures.items)
    (omega (arith, counted, c.requires.number, c.requires.few)) (omega (arith, c.in-Ok.ensures.made, c.self.invariant.1)) c.self.invariant.2 c.self.invariant.3 (given-before _ _ c.self.invariant.4)
