use Rattle.std.proofs.Common.{◌∙◌, ap}
use Rattle.pe_store.specs.Numbers.{KeyNumbers, number_in}
use Rattle.pe_store.proofs.NumberChanges.{number-is, number-none}
use Rattle.pe_store.proofs.numbers.Group.number.Goals as goal

pub returns-then-is_empty : goal.returns-then-is_empty
returns-then-is_empty c = number-none c.self.inside.map.entries c.args.self.now c.args.key.now c.self.view_is (c.is_empty.ensures.0 c.if-is_empty.true)

pub returns : goal.returns
returns c =
    c.copied.ensures
    ∙ (c.get.ensures.value ∙ (number-is c.same_pairs_are_one.ensures c.args.key.now c.self.inside.map.entries ∙ ap (λ (es : KeyNumbers). number_in es c.args.key.now) c.self.view_is))
