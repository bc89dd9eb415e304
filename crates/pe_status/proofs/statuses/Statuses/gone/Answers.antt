use Rattle.std.proofs.Common.{◌∙◌, sym, subst, List, Option, ℕ, length, ◌<◌}
use Rattle.pe_status.specs.declared.registered.Registered.{Registered}
use Rattle.pe_status.specs.Kept.{IsOneOf}
use Rattle.pe_status.proofs.Going.{shorter, gone-step, gone-done}
use Rattle.pe_status.proofs.LookUps.{unless-step, unless-done}
use Rattle.pe_status.proofs.statuses.Statuses.gone.Goals as goal

pub loop-no-smaller : goal.loop-no-smaller
loop-no-smaller c =
    subst (λ (rs : List Registered). length rs < length c.loop-no.self.live) (sym c.end.ensures.live)
    (shorter c.args.doc c.in-Some.no c.loop-no.self.live (subst (λ (o : Option ℕ). IsOneOf c.loop-no.self.live c.args.doc o) c.in-Some.is c.first_of.ensures.one))

pub loop-no-preserved : goal.loop-no-preserved
loop-no-preserved c = (
  c.end.ensures.given ∙ c.loop-no.invariant.0,
  gone-step c.args.doc c.in-Some.no c.loop-no.self.live c.end.new.self.live c.first_of.ensures.order
      (subst (λ (o : Option ℕ). IsOneOf c.loop-no.self.live c.args.doc o) c.in-Some.is c.first_of.ensures.one) c.end.ensures.live
      ∙ c.loop-no.invariant.1,
  λ m. unless-step c.args.doc c.in-Some.no c.loop-no.self.live c.end.new.self.live
      (subst (λ (o : Option ℕ). IsOneOf c.loop-no.self.live c.args.doc o) c.in-Some.is c.first_of.ensures.one) c.end.ensures.found m
      ∙ c.loop-no.invariant.2 m,
)

pub returns-clause-live : goal.returns-clause-live
returns-clause-live c =
    gone-done c.args.doc c.loop-no.self.live c.first_of.ensures.order (subst (λ (o : Option ℕ). IsOneOf c.loop-no.self.live c.args.doc o) c.in_default.is c.first_of.ensures.one) ∙ c.loop-no.invariant.1

pub returns-clause-found : goal.returns-clause-found
returns-clause-found c m =
    unless-done c.args.doc c.loop-no.self.live (subst (λ (o : Option ℕ). IsOneOf c.loop-no.self.live c.args.doc o) c.in_default.is c.first_of.ensures.one) m ∙ c.loop-no.invariant.2 m
