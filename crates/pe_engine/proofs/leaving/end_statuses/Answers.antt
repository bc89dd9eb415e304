use Rattle.std.proofs.Common.{◌∙◌, sym, ap, List, drop, ◌+◌}
use Rattle.pe_status.specs.declared.registered.Registered.{Registered}
use Rattle.pe_status.specs.Registry.{without_document}
use Rattle.pe_engine.specs.declared.row.Row.{Row}
use Rattle.pe_engine.specs.Leaving.{numbers_of, without_documents}
use Rattle.pe_engine.proofs.Gone.{left-more, left-all}
use Rattle.pe_engine.proofs.leaving.end_statuses.Goals as goal

pub loop-row-preserved : goal.loop-row-preserved
loop-row-preserved c =
    let l = c.loop-row in (
      ap (λ (rs : List Registered). without_documents (numbers_of (drop (l.row-index + 1) c.args.gone.now)) rs) (c.gone.ensures.live ∙ ap (λ (x : Row). without_document x.doc l.statuses.live) c.get.ensures)
          ∙ sym (left-more c.args.gone.now l.statuses.live l.row-index c.row-item.result c.loop-row-test.true c.row-item.is)
          ∙ l.invariant.0,
      c.gone.ensures.given ∙ l.invariant.1,
    )

pub returns-clause-live : goal.returns-clause-live
returns-clause-live c =
    let l = c.loop-row in
    sym (left-all c.args.gone.now l.statuses.live l.row-index c.loop-row-test.false) ∙ l.invariant.0
