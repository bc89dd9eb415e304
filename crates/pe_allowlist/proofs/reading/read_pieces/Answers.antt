use Rattle.std.proofs.Common.{[], sym, ◌∙◌}
use Rattle.pe_allowlist.specs.Lists.{lists_of}
use Rattle.pe_allowlist.proofs.PieceLaws.{pieces-next, no-pieces}
use Rattle.pe_allowlist.proofs.reading.read_pieces.Goals as goal

pub loop-piece-preserved : goal.loop-piece-preserved
loop-piece-preserved c = record {
  read = λ f.
      pieces-next c.args.embedder.now c.args.declared.now f c.deref-piece-items.result.now c.loop-piece.piece-index (record { ref_ptr = (0, 0); now = [] }) (lists_of c.loop-piece.rows.items f) (lists_of c.put_piece.new.rows.items f)
      c.loop-piece-test.true (c.loop-piece.invariant.read f) (c.in_ok-put_piece.ensures.put f);
  once = c.in_ok-put_piece.ensures.once c.loop-piece.invariant.once;
}

pub returns-then-is_empty-clause-read : goal.returns-then-is_empty-clause-read
unfolding lists_of
returns-then-is_empty-clause-read c = λ f. rw c.new-rows.ensures.items (sym (no-pieces c.args.embedder.now c.args.declared.now f c.args.text.now (sym c.is_empty.ensures ∙ c.if-is_empty.true)))
