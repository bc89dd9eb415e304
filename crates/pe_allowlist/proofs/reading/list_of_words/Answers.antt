use Rattle.std.proofs.Common.{[]}
use Rattle.pe_allowlist.specs.Allowlists.{empty_list}
use Rattle.pe_allowlist.specs.ContainerPolicy.{with_word}
use Rattle.pe_allowlist.proofs.PieceLaws.{fold-next}
use Rattle.pe_allowlist.proofs.reading.list_of_words.Goals as goal

pub loop-word-preserved : goal.loop-word-preserved
loop-word-preserved c =
    fold-next (with_word c.args.embedder.now c.args.declared.now) empty_list c.args.words.now c.loop-word.word-index (record { ref_ptr = (0, 0); now = [] }) c.loop-word.list c.put_word.new.list
    c.loop-word-test.true c.loop-word.invariant c.in_ok-put_word.ensures
