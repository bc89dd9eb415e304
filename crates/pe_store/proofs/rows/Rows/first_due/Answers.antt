use Rattle.std.proofs.Common.{◌≡◌, ◌<◌, List, [], ◌∷◌, length, None, refl, sym, subst, arith, true≢false}
use Rattle.std.specs.Map.{values_of}
use Rattle.pe_store.specs.Due.{IsDue, IsFirstEnd}
use Rattle.pe_store.specs.Places.{PlacedEntries, has_ending}
use Rattle.pe_store.proofs.DueFirst.{no-end, first-end, not-due}
use Rattle.pe_store.proofs.Results.{if-none}
use Rattle.pe_store.proofs.rows.Rows.first_due.Goals as goal

empty : {X : Type 0} (xs : List X) → (0 < length xs → ⊥) → xs ≡ []
empty [] h = refl
empty (x ∷ xs) h = absurd (h (omega arith))

pub returns-clause-some : goal.returns-clause-some
unfolding has_ending
returns-clause-some c =
    let first = c.in_ok-first.field-0.now in
    subst (λ (rows : PlacedEntries). IsFirstEnd rows first) c.self.view_is
    (first-end c.self.inside.map.entries c.self.inside.endings.moments.keys c.self.invariant.ordered c.self.invariant.timed first c.in_ok-first.ensures.member c.in_ok-first.ensures.least)

pub returns-then-first-upto-clause-none : goal.returns-then-first-upto-clause-none
unfolding has_ending
returns-then-first-upto-clause-none c =
    let rows = c.self.inside.map.entries in
    let first = c.in_ok-first.field-0.now in
    subst (λ (rs : PlacedEntries). IsDue (values_of rs) c.args.upto None) c.self.view_is
    (not-due rows first c.args.upto (first-end rows c.self.inside.endings.moments.keys c.self.invariant.ordered c.self.invariant.timed first c.in_ok-first.ensures.member c.in_ok-first.ensures.least) c.if-first-upto.true)

pub returns-in_err-first-clause-none : goal.returns-in_err-first-clause-none
returns-in_err-first-clause-none c =
    if-none c.from_residual.result
    (subst (λ (rs : PlacedEntries). IsDue (values_of rs) c.args.upto None) c.self.view_is
    (no-end c.self.inside.map.entries c.self.inside.endings.moments.keys c.self.invariant.ordered c.self.invariant.timed c.args.upto
    (empty c.self.inside.endings.moments.keys (λ lt. true≢false (sym (c.in_err-first.ensures.variant.1 lt))))))
