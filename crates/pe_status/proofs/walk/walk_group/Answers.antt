use Rattle.std.proofs.Common.{◌∙◌, ap, sym, ℕ, Option}
use Rattle.std.specs.declared.ops.Range.{Range}
use Rattle.pe_status.specs.declared.place.Place.{Place}
use Rattle.pe_status.specs.Kept.{values_from, first_no}
use Rattle.pe_status.specs.Places.{place}
use Rattle.pe_status.proofs.Grouped.{group-values, none-values}
use Rattle.pe_status.proofs.walk.walk_group.Goals.{in-Some, in-None}
use Rattle.pe_status.proofs.walk.walk_group.Goals as goal

pub returns-clause-value : goal.returns-clause-value
returns-clause-value c = elim c.match-group.branch [
  | in-Some w ↦
      group-values c.args.rows.now w.in-Some.group (first_no c.args.after) c.match-group.places.start c.match-group.places.end
      (ap (λ (r : Range Place). r.start) w.places-is ∙ w.group_from-places.ensures.start ∙ ap (place w.in-Some.group) w.first_no.ensures.value)
      (ap (λ (r : Range Place). r.end) w.places-is ∙ w.group_from-places.ensures.end) c.range.result (c.range.ensures.between tt)
      ∙ ap (λ (o : Option ℕ). values_from c.args.rows.now o (first_no c.args.after)) (sym w.in-Some.is)
  | in-None w ↦
      none-values c.args.rows.now (first_no c.args.after) c.match-group.places.start c.match-group.places.end
      (ap (λ (r : Range Place). r.start) w.places-is) (ap (λ (r : Range Place). r.end) w.places-is) c.range.result (c.range.ensures.between tt)
      ∙ ap (λ (o : Option ℕ). values_from c.args.rows.now o (first_no c.args.after)) (sym w.in-None.is)
]
