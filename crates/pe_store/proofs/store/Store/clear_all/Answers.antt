use Rattle.std.proofs.Common.{◌∙◌, sym, ap, List, drop, ◌+◌}
use Rattle.pe_store.specs.declared.entry.Entry.{Entry}
use Rattle.pe_store.specs.Entries.{without_all}
use Rattle.pe_store.proofs.PageEntries.{taken-more, taken-all}
use Rattle.pe_store.proofs.store.Store.clear_all.Goals as goal

pub loop-feature-preserved : goal.loop-feature-preserved
loop-feature-preserved c =
    let l = c.loop-feature in (
      ap (λ (es : List Entry). without_all (drop (l.feature-index + 1) c.args.pairs.now) es) c.clear.ensures.list
          ∙ sym (taken-more c.args.pairs.now l.self.entries l.feature-index c.loop-feature-item.result c.loop-feature-test.true c.loop-feature-item.is)
          ∙ l.invariant.0,
      c.clear.ensures.dismissals ∙ l.invariant.1,
    )

pub returns-clause-list : goal.returns-clause-list
returns-clause-list c =
    let l = c.loop-feature in
    sym (taken-all c.args.pairs.now l.self.entries l.feature-index c.loop-feature-test.false) ∙ l.invariant.0
