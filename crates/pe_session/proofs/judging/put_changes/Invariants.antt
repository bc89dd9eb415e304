use Rattle.std.proofs.Common.{◌≡◌, ◌++◌, drop}
use Rattle.pe_output.specs.OutputText.{changes_text}
use Rattle.pe_session.proofs.judging.put_changes.Given as goal

abbrev pub invariant-loop-change : goal.invariant-loop-change
invariant-loop-change l = l.out.items ++ changes_text (drop l.change-index l.changes) ≡ l.initial.out.items ++ changes_text l.changes
