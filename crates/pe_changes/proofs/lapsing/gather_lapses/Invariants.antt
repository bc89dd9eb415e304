use Rattle.std.proofs.Common.{◌≡◌, ◌⊎◌, ◌<◌, ◌≤◌, ◌+◌, length}
use Rattle.pe_changes.specs.Bags.{count}
use Rattle.pe_changes.specs.Gathered.{NoneEnds, AreSomeLapses}
use Rattle.pe_changes.specs.Parts.{is_silent}
use Rattle.pe_changes.proofs.Costs.{is_without}
use Rattle.pe_changes.proofs.lapsing.gather_lapses.Given as goal

abbrev pub invariant-loop-moment : goal.invariant-loop-moment
invariant-loop-moment g l =
    AreSomeLapses l.to (is_silent g.D.Numbered.doc_no g.D.Governed.blocks_feature l.frames.entries) l.statuses.live l.fn.store.entries l.store.entries l.changes.items
    × (l.store.dismissals ≡ l.fn.store.dismissals)
    × (l.steps + length l.store.entries + count (is_without l.fn.store.entries) l.statuses.live ≤ l.fn.steps + length l.fn.store.entries + count (is_without l.store.entries) l.statuses.live)
    × ((l.store ≡ l.fn.store) ⊎ (length l.store.entries < length l.fn.store.entries))
    × (NoneEnds l.to l.fn.store.entries → (l.store ≡ l.fn.store) × (l.steps ≡ l.fn.steps))

abbrev pub decreases-loop-moment : goal.decreases-loop-moment
decreases-loop-moment g l = length l.store.entries
