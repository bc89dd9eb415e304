use Rattle.std.proofs.Common.{◌∙◌, sym, ap, drop, ◌+◌}
use Rattle.pe_prompts.specs.Pending.{Pending, left_by}
use Rattle.pe_prompts.specs.Queues.{pending}
use Rattle.pe_requests.specs.PromptSteps.{left_by_all}
use Rattle.pe_engine.specs.declared.row.Row.{Row}
use Rattle.pe_engine.specs.Leaving.{numbers_of}
use Rattle.pe_engine.proofs.Gone.{dropped-more, dropped-all}
use Rattle.pe_engine.proofs.leaving.drop_requests.Goals as goal

pub loop-row-preserved : goal.loop-row-preserved
loop-row-preserved c =
    let l = c.loop-row in (
      c.gone.ensures.given ∙ l.invariant.0,
      λ page. ap (λ (ps : Pending). left_by_all (numbers_of (drop (l.row-index + 1) c.args.gone.now)) ps) (c.gone.ensures.pending page ∙ ap (λ (x : Row). left_by x.doc (pending l.prompts page)) c.get.ensures)
          ∙ sym (dropped-more c.args.gone.now _ l.row-index c.row-item.result c.loop-row-test.true c.row-item.is)
          ∙ l.invariant.1 page,
    )

pub returns-clause-pending : goal.returns-clause-pending
returns-clause-pending c =
    let l = c.loop-row in
    λ page. sym (dropped-all c.args.gone.now _ l.row-index c.loop-row-test.false) ∙ l.invariant.1 page
