use Rattle.std.proofs.Common.{◌≡◌, ℕ, length}
use Rattle.pe_status.specs.Registry.{without_document, status_of, unless_of}
use Rattle.pe_status.proofs.statuses.Statuses.gone.Given as goal

abbrev pub invariant-loop-no : goal.invariant-loop-no
invariant-loop-no l =
    (l.self.given ≡ l.initial.self.given)
    × (without_document l.doc l.self.live ≡ without_document l.doc l.initial.self.live)
    × ((m : ℕ) → unless_of l.doc (status_of l.self.live m) ≡ unless_of l.doc (status_of l.initial.self.live m))

abbrev pub decreases-loop-no : goal.decreases-loop-no
decreases-loop-no l = length l.self.live
