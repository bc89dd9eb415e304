use Rattle.std.proofs.Common.{sym, ◌∙◌}
use Rattle.pe_allowlist.specs.Lists.{lists_of}
use Rattle.pe_allowlist.proofs.PieceLaws.{on-ok, piece-put}
use Rattle.pe_allowlist.proofs.reading.put_piece.Goals as goal

pub returns-clause-put : goal.returns-clause-put
returns-clause-put c =
    on-ok c.put_list.result
    (λ put f. piece-put c.args.embedder.now c.args.declared.now c.args.piece.now c.in_ok-words.words.items c.in-Some.words.now c.in-Some.name.now c.in-Some-controlled.feature f c.in_ok-list.list
    (lists_of c.args.rows.now.items f) (lists_of c.put_list.new.rows.items f)
    c.in_ok-words.ensures (sym c.deref.ensures.value ∙ c.in-Some.ensures.cases.0) c.in-Some-controlled.ensures c.in_ok-list.ensures (put f))
    c.put_list.ensures.put
