use Rattle.std.proofs.Common.{◌∙◌, ap, List}
use Rattle.pe_store.specs.Numbers.{KeyNumbers, number_of}
use Rattle.pe_store.proofs.NumberChanges.{number-for}
use Rattle.pe_store.proofs.numbers.PairNumbers.number.Goals as goal

pub returns : goal.returns
returns c =
    c.number_at.ensures
    ∙ (number-for c.args.feature c.args.key.now c.index.result c.self.inside.groups c.index.ensures.number
    ∙ ap (λ (lists : List KeyNumbers). number_of lists (c.args.feature, c.args.key.now)) c.self.view_is)
