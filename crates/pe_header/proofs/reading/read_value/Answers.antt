use Rattle.pe_header.proofs.HeaderLaws.{nothing-declared}
use Rattle.pe_header.proofs.reading.read_value.Goals as goal

pub returns-then-not-branch : goal.returns-then-not-branch
returns-then-not-branch c = λ own.
    nothing-declared own c.args.value.now c.in-Item.bare _ c.in_ok-put_bare-in-Item.field-0 c.in-Item.is (c.empty-list.ensures own) (c.in_ok-put_bare-in-Item.ensures.known own) c.if-not-branch.true
