use Rattle.std.proofs.Common.{◌∙◌, sym}
use Rattle.pe_store.proofs.rows.Rows.get.Goals as goal

pub returns-in-Some : goal.returns-in-Some
returns-in-Some c = record { value = c.at.ensures.value ∙ c.in-Some.ensures.some.row ∙ sym c.in-Some.ensures.some.own }

pub returns-in-None : goal.returns-in-None
returns-in-None c = record { value = sym c.in-None.ensures.none }
