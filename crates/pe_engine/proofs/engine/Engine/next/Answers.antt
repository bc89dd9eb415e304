use Rattle.std.proofs.Common.{◌≡◌, length, ap, arith}
use Rattle.pe_engine.specs.StandsFor.{EngineValue}
use Rattle.pe_engine.proofs.CommonCauses.{next-limit, next-back, next-none}
use Rattle.pe_engine.proofs.engine.Engine.next.Goals as goal

pub returns-then-count-clause-cause : goal.returns-then-count-clause-cause
returns-then-count-clause-cause c = λ H s.
    let made : length c.self.inside.made.items ≡ length c.args.self.now.made = ap (λ (v : EngineValue). length v.made) c.self.view_is in
    next-limit c.args.self.now H c.args.now s (omega (arith, made, c.len-count.ensures, c.if-count.true))

pub returns-then-get-clause-cause : goal.returns-then-get-clause-cause
returns-then-get-clause-cause c = λ H s.
    let made : length c.self.inside.made.items ≡ length c.args.self.now.made = ap (λ (v : EngineValue). length v.made) c.self.view_is in
    let clock : c.self.inside.clock ≡ c.args.self.now.clock = ap (λ (v : EngineValue). v.clock) c.self.view_is in
    next-back c.args.self.now H c.args.now s (omega (arith, made, c.len-count.ensures, c.if-count.false)) (omega (arith, clock, c.get.ensures.value, c.get-2.ensures.value, c.if-get.true))

pub returns-clause-none : goal.returns-clause-none
returns-clause-none c = λ H s.
    let made : length c.self.inside.made.items ≡ length c.args.self.now.made = ap (λ (v : EngineValue). length v.made) c.self.view_is in
    let clock : c.self.inside.clock ≡ c.args.self.now.clock = ap (λ (v : EngineValue). v.clock) c.self.view_is in
    next-none c.args.self.now H c.args.now s (omega (arith, made, c.len-count.ensures, c.if-count.false)) (omega (arith, clock, c.get.ensures.value, c.get-2.ensures.value, c.if-get.false))
