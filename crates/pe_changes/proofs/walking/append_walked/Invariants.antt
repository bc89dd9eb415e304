use Rattle.std.proofs.Common.{◌≡◌, ◌+◌, ◌++◌, flat_map, length}
use Rattle.pe_changes.specs.Gathered.{change_to}
use Rattle.pe_changes.specs.Parts.{is_silent}
use Rattle.pe_changes.proofs.walking.append_walked.Given as goal

abbrev pub invariant-loop-status : goal.invariant-loop-status
invariant-loop-status g l =
    (l.changes.items ++ flat_map (change_to (is_silent g.D.Numbered.doc_no g.D.Governed.blocks_feature l.frames.entries) l.time l.after) l.rest
    ≡ l.fn.changes.items ++ flat_map (change_to (is_silent g.D.Numbered.doc_no g.D.Governed.blocks_feature l.frames.entries) l.time l.after) l.fn.walk)
    × (l.steps + length l.rest ≡ l.fn.steps + length l.fn.walk)

abbrev pub decreases-loop-status : goal.decreases-loop-status
decreases-loop-status g l = length l.rest
