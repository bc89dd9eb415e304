use Rattle.std.proofs.Common.{ℕ, ◌+◌, ap, ◌∙◌}
use Rattle.pe_prompts.specs.Places.{place}
use Rattle.pe_prompts.proofs.Noted.{first-none, first-some}
use Rattle.pe_prompts.proofs.place.first_of.Goals as goal

pub returns-in-Some : goal.returns-in-Some
returns-in-Some c =
    first-some c.args.places.now c.args.doc (place c.from-doc.result 0) (place (c.from-doc.result + 1) 0)
    (ap (λ (d : ℕ). place d 0) (c.from-doc.ensures ∙ c.get.ensures.value))
    (ap (λ (d : ℕ). place (d + 1) 0) (c.from-doc.ensures ∙ c.get.ensures.value))
    c.range-own.result (c.range-own.ensures.between tt) c.in-Some.place.now c.next.new.self c.in-Some.ensures.steps

pub returns-in-None : goal.returns-in-None
returns-in-None c =
    first-none c.args.places.now c.args.doc (place c.from-doc.result 0) (place (c.from-doc.result + 1) 0)
    (ap (λ (d : ℕ). place d 0) (c.from-doc.ensures ∙ c.get.ensures.value))
    (ap (λ (d : ℕ). place (d + 1) 0) (c.from-doc.ensures ∙ c.get.ensures.value))
    c.range-own.result (c.range-own.ensures.between tt) c.in-None.ensures.steps.0
