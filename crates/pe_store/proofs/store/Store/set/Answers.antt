use Rattle.std.proofs.Common.{◌≡◌, ℕ, ◌+◌, ◌<◌, ◌≤◌, ◌∙◌, Bool, true, false, not, sym, ap, cond, List, length, Option, Some, None, is_some, MatchOption, IfSome, IfNone, arith}
use Rattle.std.specs.Map.{values_of}
use Rattle.pe_base.specs.declared.limits.TheConstants.{STORE_LIMIT}
use Rattle.pe_store.specs.declared.entry.Entry.{Entry}
use Rattle.pe_store.specs.declared.place.Place.{Place}
use Rattle.pe_store.specs.Entries.{StoreValue, dismissals_of, entry_of, stored}
use Rattle.pe_store.specs.Pairs.{Pair, is_same_pair}
use Rattle.pe_store.specs.Places.{PlacedEntries, HasRow}
use Rattle.pe_store.proofs.Lists.{found-put, counts-anew}
use Rattle.pe_store.proofs.Dismissals.{below-changed}
use Rattle.pe_store.proofs.Results.{when-ok}
use Rattle.pe_store.proofs.store.Store.set.Goals as goal
use Rattle.pe_store.proofs.store.Store.set.Goals.{else-is_none-via-then-is_none+else-len-eq-STORE_LIMIT, else-is_none-via-else-is_none}

is-place : (rows : PlacedEntries) (q : Pair) (o : Option Place) → IfNone o (entry_of (values_of rows) q ≡ None) → IfSome o (λ p. HasRow rows p q)
    → MatchOption o (entry_of (values_of rows) q ≡ None) (λ p. HasRow rows p q)
is-place rows q None none some = none
is-place rows q (Some p) none some = some

one-more : (there : Bool) (old new limit : ℕ) → new ≡ cond there old (old + 1) → old < limit → new ≤ limit
one-more true old new limit h lt = omega arith
one-more false old new limit h lt = omega arith

as-many : (there : Bool) (old new limit : ℕ) → there ≡ true → new ≡ cond there old (old + 1) → old ≤ limit → new ≤ limit
as-many true old new limit is h le = omega arith
as-many false old new limit is h le = absurd cc

pub put-requires : goal.put-requires
put-requires c = record {
  place =
      is-place c.self.inside.rows (c.args.feature, c.args.key) c.place_of-place.result c.place_of-place.ensures.none c.place_of-place.ensures.some;
}

pub invariant_of-self-2 : goal.invariant_of-self-2
invariant_of-self-2 c =
    let rows = c.self.inside.rows in
    let len = when-ok c.put.result (sym c.is_err.ensures.value ∙ c.if-is_err.false) c.put.ensures.len in
    let le : length c.put.new.self ≤ STORE_LIMIT =
    elim c.else-is_none.branch [
      | else-is_none-via-then-is_none+else-len-eq-STORE_LIMIT w ↦
          one-more (is_some c.place_of-place.result) (length rows) (length c.put.new.self) STORE_LIMIT len (omega (arith, c.self.invariant.0, w.len.ensures, w.if-len-eq-STORE_LIMIT.false))
      | else-is_none-via-else-is_none w ↦
          as-many (is_some c.place_of-place.result) (length rows) (length c.put.new.self) STORE_LIMIT (c.is_none.ensures ∙ ap not w.if-is_none.false) len c.self.invariant.0
    ] in
    (le, below-changed (c.args.feature, c.args.key) None c.self.inside.dismissals c.remove.new.self (omega arith) c.remove.ensures c.self.invariant.1)

pub returns-clause-found : goal.returns-clause-found
returns-clause-found c pair =
    let q : Pair = (c.args.feature, c.args.key) in
    let n : Entry = stored q c.args.state c.args.life in
    let list = when-ok c.put.result (sym c.is_err.ensures.value ∙ c.if-is_err.false) c.put.ensures.list in
    ap (λ (es : List Entry). entry_of es pair) list
    ∙ found-put c.same_pairs_are_one.ensures n pair (values_of c.self.inside.rows)
    ∙ ap (λ (v : StoreValue). cond (is_same_pair q pair) (Some n) (entry_of v.entries pair)) c.self.view_is

pub returns-clause-dismissals : goal.returns-clause-dismissals
returns-clause-dismissals c pair =
    let q : Pair = (c.args.feature, c.args.key) in
    let old : StoreValue = record { entries = values_of c.self.inside.rows; dismissals = c.self.inside.dismissals } in
    let new : StoreValue = record { entries = values_of c.put.new.self; dismissals = c.remove.new.self } in
    counts-anew q old new c.remove.ensures pair ∙ ap (λ (v : StoreValue). cond (is_same_pair q pair) 0 (dismissals_of v pair)) c.self.view_is
