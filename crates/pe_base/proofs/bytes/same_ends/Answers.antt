use Rattle.std.proofs.Common.{sym, ◌∙◌}
use Rattle.pe_base.proofs.Ends.{given, first-tells}
use Rattle.pe_base.proofs.bytes.same_ends.Goals as goal

pub returns-then-eq : goal.returns-then-eq
returns-then-eq g c =
    let first = given c.first_chunk.result c.unwrap-first.result _ _ c.unwrap-first.ensures c.first_chunk.ensures.cases in
    let last = given c.last_chunk.result c.unwrap-last.result _ _ c.unwrap-last.ensures c.last_chunk.ensures.cases in
    let last_too = given c.last_chunk-2.result c.unwrap.result _ _ c.unwrap.ensures c.last_chunk-2.ensures.cases in
    let first_too = given c.first_chunk-then-eq.result c.unwrap-then-eq.result _ _ c.unwrap-then-eq.ensures c.first_chunk-then-eq.ensures.cases in
    c.eq-then-eq.ensures ∙ first-tells g.row.N c.args.a.now c.args.b.now _ _ _ _ c.requires.long c.requires.covered c.requires.same first.same first_too.same last.1.same last_too.1.same (sym c.eq.ensures ∙ c.if-eq.true)
