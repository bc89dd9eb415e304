use Rattle.pe_status.proofs.Grouped.{no-row}
use Rattle.std.proofs.Common.{◌≡◌, ◌∙◌, ap, true, not, Bool, is_some, Option, Some, None, true≢false}
use Rattle.std.specs.Option.{MatchOption}
use Rattle.pe_status.proofs.index.is_unused.Goals as goal

empty : {A : Type 0} (P : Type 0) (Q : A → Type 0) (r : Option A) (b : Bool) → is_some r ≡ not b → b ≡ true → MatchOption r P Q → P
empty P Q None b e t h = h
empty P Q (Some x) b e t h = absurd (true≢false (e ∙ ap not t))

pub returns : goal.returns
returns c unused =
    no-row c.args.rows.now c.args.group c.group_from.result.start c.group_from.result.end c.group_from.ensures.start c.group_from.ensures.end
    c.range.result (c.range.ensures.between tt) (empty _ _ c.next.result c.is_none.result c.is_none.ensures unused c.next.ensures.steps).0
