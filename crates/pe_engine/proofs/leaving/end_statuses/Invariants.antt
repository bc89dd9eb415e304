use Rattle.std.proofs.Common.{◌≡◌, drop}
use Rattle.pe_engine.specs.Leaving.{numbers_of, without_documents}
use Rattle.pe_engine.proofs.leaving.end_statuses.Given as goal

abbrev pub invariant-loop-row : goal.invariant-loop-row
invariant-loop-row l =
    (without_documents (numbers_of (drop l.row-index l.gone)) l.statuses.live ≡ without_documents (numbers_of l.gone) l.initial.statuses.live) × (l.statuses.given ≡ l.initial.statuses.given)
