use Rattle.std.proofs.Common.{◌≡◌, ◌+◌, take, length}
use Rattle.pe_base.specs.declared.state.State.TheVariants as state
use Rattle.pe_changes.specs.Gathered.{changes_under, statuses_under}
use Rattle.pe_changes.specs.Parts.{is_silent}
use Rattle.pe_changes.proofs.ending.gather_ended.Given as goal

abbrev pub invariant-loop-feature : goal.invariant-loop-feature
invariant-loop-feature g l =
    (l.changes.items ≡ changes_under (is_silent g.D.Numbered.doc_no g.D.Governed.blocks_feature l.frames.entries) l.now state.Prompt l.statuses.live (take l.feature-index l.ended))
    × (l.steps ≡ l.fn.steps + l.feature-index + length (statuses_under l.statuses.live (take l.feature-index l.ended)))
