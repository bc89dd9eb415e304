use Rattle.pe_status.proofs.Grouped.{first-none, first-some}
use Rattle.std.proofs.Common.{◌∙◌, ap, ◌+◌, ℕ}
use Rattle.pe_status.specs.Places.{place}
use Rattle.pe_status.proofs.index.first_of.Goals as goal

pub returns-in-Some : goal.returns-in-Some
returns-in-Some c =
    first-some c.args.owned.now c.args.doc c.group_from.result.start c.group_from.result.end
    (c.group_from.ensures.start ∙ ap (λ (d : ℕ). place d 0) (c.from.ensures ∙ c.get.ensures.value))
    (c.group_from.ensures.end ∙ ap (λ (d : ℕ). place (d + 1) 0) (c.from.ensures ∙ c.get.ensures.value))
    c.range-places.result (c.range-places.ensures.between tt) c.in-Some.place.now c.next.new.self c.in-Some.ensures.steps

pub returns-in-None : goal.returns-in-None
returns-in-None c =
    first-none c.args.owned.now c.args.doc c.group_from.result.start c.group_from.result.end
    (c.group_from.ensures.start ∙ ap (λ (d : ℕ). place d 0) (c.from.ensures ∙ c.get.ensures.value))
    (c.group_from.ensures.end ∙ ap (λ (d : ℕ). place (d + 1) 0) (c.from.ensures ∙ c.get.ensures.value))
    c.range-places.result (c.range-places.ensures.between tt) c.in-None.ensures.steps.0
