use Rattle.std.proofs.Common.{[], ◌∷◌, ◌++◌, ◌+◌, length, ◌∙◌, ap, arith}
use Rattle.pe_engine.specs.declared.engine.Made.TheVariants as made
use Rattle.pe_engine.specs.StandsFor.{EngineValue}
use Rattle.pe_engine.proofs.Numbers.{noted-invariant, given-more}
use Rattle.pe_engine.proofs.engine.Engine.add_message.Goals as goal

pub invariant_of-self-2 : goal.invariant_of-self-2
invariant_of-self-2 c =
    let old = c.self.inside.made.items in
    let counted = ap (λ (v : EngineValue). length v.made) c.self.view_is in
    noted-invariant old c.push_reserved.new.self.items made.Message c.self.inside.frames.made c.self.inside.statuses.given c.self.inside.prompts c.post.new.self.given
    (c.push_reserved.ensures.items ∙ ap (λ ms. ms ++ made.Message ∷ []) c.in_ok-reserve.ensures.items)
    (omega (arith, counted, c.requires.number, c.requires.few)) (omega (arith, c.self.invariant.1)) c.self.invariant.2 c.self.invariant.3
    (given-more (length old + 1) c.of-no.result c.self.inside.messages.given c.post.new.self.given (omega (arith, c.of-no.ensures, counted, c.requires.number)) c.in-Ok.ensures.known c.self.invariant.4)
