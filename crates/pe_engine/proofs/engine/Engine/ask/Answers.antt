use Rattle.std.proofs.Common.{◌≡◌, [], ◌∷◌, ◌++◌, ◌+◌, length, length-append, ◌∙◌, ap, arith}
use Rattle.pe_engine.specs.StandsFor.{EngineValue}
use Rattle.pe_engine.proofs.Numbers.{noted-invariant, given-before}
use Rattle.pe_engine.proofs.engine.Engine.ask.Goals as goal

pub invariant_of-self-2 : goal.invariant_of-self-2
invariant_of-self-2 c =
    let old = c.self.inside.made.items in
    let new = c.push_reserved.new.self.items in
    let counted = ap (λ (v : EngineValue). length v.made) c.self.view_is in
    let items : new ≡ old ++ c.made_by_asked.result ∷ [] = c.push_reserved.ensures.items ∙ ap (λ ms. ms ++ c.made_by_asked.result ∷ []) c.in_ok-reserve.ensures.items in
    let grown : length new ≡ length old + 1 = ap length items ∙ length-append old (c.made_by_asked.result ∷ []) in
    let noted = noted-invariant old new c.made_by_asked.result c.self.inside.frames.made c.self.inside.statuses.given c.self.inside.prompts c.self.inside.messages.given items
    (omega (arith, counted, c.requires.few)) (omega (arith, c.self.invariant.1)) c.self.invariant.2 c.self.invariant.3 (given-before _ _ c.self.invariant.4) in (
      noted.0,
      noted.1,
      noted.2,
      c.engine_laws.ensures.prompts.below_told c.args.number (length new + 1) _ _ _ c.in-Ok.asked c.self.inside.prompts c.request.new.self c.in-Ok.ensures.told c.in-Ok.ensures.kept
          (omega (arith, grown, counted, c.requires.number)) (λ k given. (let below = c.self.invariant.3 k given in omega (arith, below, counted, c.requires.number))),
      noted.4,
    )
