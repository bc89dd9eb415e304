use Rattle.std.proofs.Common.{◌≡◌, ◌+◌, ◌<◌, ◌∙◌, true, ◌&&◌, sym, ap, subst, cond, Some, arith}
use Rattle.std.specs.Map.{values_of}
use Rattle.pe_base.specs.declared.limits.TheConstants.{EMBARGO_DISMISSALS}
use Rattle.pe_store.specs.Entries.{StoreValue, dismissals_of, counts_over, counts, completes_embargo}
use Rattle.pe_store.specs.Pairs.{Pair, is_same_pair}
use Rattle.pe_store.proofs.Results.{when-ok}
use Rattle.pe_store.proofs.Dismissals.{below-changed, counted-more, counted-as, not-yet}
use Rattle.pe_store.proofs.store.Store.dismissed.Goals as goal

pub invariant_of-self-2 : goal.invariant_of-self-2
invariant_of-self-2 c =
    let changed = when-ok c.put.result (sym c.is_err.ensures.value ∙ c.if-is_err.false) c.put.ensures.ok in (
      c.self.invariant.0,
      below-changed (c.args.feature, c.args.key) (Some c.from.result) c.self.inside.dismissals c.put.new.self (omega (arith, c.from.ensures, c.if-count-ge-EMBARGO_DISMISSALS.false)) changed c.self.invariant.1,
    )

pub returns-clause-dismissals : goal.returns-clause-dismissals
returns-clause-dismissals c =
    let q : Pair = (c.args.feature, c.args.key) in
    let old : StoreValue = record { entries = values_of c.self.inside.rows; dismissals = c.self.inside.dismissals } in
    let new : StoreValue = record { entries = values_of c.self.inside.rows; dismissals = c.put.new.self } in
    let changed = when-ok c.put.result (sym c.is_err.ensures.value ∙ c.if-is_err.false) c.put.ensures.ok in
    let count : c.dismissals-count.result ≡ dismissals_of old q = c.dismissals-count.ensures.count ∙ ap (λ (v : StoreValue). dismissals_of v q) (sym c.self.view_is) in
    let is-counted : counts old q ≡ true = ap counts_over (sym c.get.ensures.value) ∙ sym c.counts_over.ensures ∙ c.if-not-counts_over.false in
    let low : dismissals_of old q + 1 < EMBARGO_DISMISSALS = omega (arith, count, c.if-count-ge-EMBARGO_DISMISSALS.false) in
    let counted = counted-more q old new c.from.result (omega (arith, count, c.from.ensures)) changed in
    subst
    (λ (v : StoreValue).
    (pair : Pair) → dismissals_of new pair ≡ cond (counts v q && is_same_pair q pair) (cond (completes_embargo v q) 0 (dismissals_of v pair + 1)) (dismissals_of v pair))
    c.self.view_is
    (counted-as c.same_pairs_are_one.ensures q old new (counts old q) (completes_embargo old q) is-counted (not-yet (dismissals_of old q) (counts old q) low) counted)
