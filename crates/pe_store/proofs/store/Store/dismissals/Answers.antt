use Rattle.std.proofs.Common.{◌<◌, ◌∙◌, ap, ℕ, Option, Fits, w32, arith}
use Rattle.std.specs.Option.{unwrap_or}
use Rattle.pe_base.specs.declared.limits.TheConstants.{EMBARGO_DISMISSALS}
use Rattle.pe_store.specs.Entries.{StoreValue, dismissals_of, AreBelowEmbargo}
use Rattle.pe_store.specs.Numbers.{number_of}
use Rattle.pe_store.proofs.store.Store.dismissals.Goals as goal

fits-below : (n : ℕ) → n < EMBARGO_DISMISSALS → Fits w32 n
fits-below n few = omega arith

pub overflow_cast-result : goal.overflow_cast-result
unfolding AreBelowEmbargo
overflow_cast-result c =
    let few : c.unwrap_or.result < EMBARGO_DISMISSALS = rw (c.unwrap_or.ensures, c.number.ensures) (c.self.invariant.1 (c.args.feature, c.args.key.now)) in
    fits-below c.unwrap_or.result few

pub returns-clause-count : goal.returns-clause-count
unfolding dismissals_of
returns-clause-count c =
    c.unwrap_or.ensures ∙ ap (λ (o : Option ℕ). unwrap_or o 0) c.number.ensures ∙ ap (λ (v : StoreValue). unwrap_or (number_of v.dismissals (c.args.feature, c.args.key.now)) 0) c.self.view_is

pub returns-clause-few : goal.returns-clause-few
unfolding AreBelowEmbargo
returns-clause-few c = rw (c.unwrap_or.ensures, c.number.ensures) (c.self.invariant.1 (c.args.feature, c.args.key.now))
