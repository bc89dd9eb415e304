use Rattle.std.proofs.Common.{◌∙◌, ap, ℕ, Option}
use Rattle.pe_status.specs.Registry.{Registry, later_under}
use Rattle.pe_status.specs.Kept.{values_from, first_no}
use Rattle.pe_store.specs.Numbers.{number_of}
use Rattle.pe_status.specs.Places.{is_taken}
use Rattle.pe_counts.specs.Counts.{count_of}
use Rattle.pe_status.proofs.Seen.{order, group-fits}
use Rattle.pe_status.proofs.Walking.{walked}
use Rattle.pe_status.proofs.statuses.Statuses.walk.Goals as goal

pub walk_group-requires : goal.walk_group-requires
walk_group-requires g c = group-fits c.self.inside.given.items c.self.inside.index c.self.invariant (c.args.feature, c.args.key.now) c.number.result c.number.ensures

pub returns-clause-value : goal.returns-clause-value
returns-clause-value g c =
    c.walk_group.ensures.value ∙ ap (λ (o : Option ℕ). values_from c.self.inside.index.rows o (first_no c.args.after)) c.number.ensures
    ∙ walked c.same_pairs_are_one.ensures c.self.inside.given.items c.self.inside.index.rows c.walk_group.ensures.order (number_of c.self.inside.index.pairs) (is_taken c.self.inside.index.owned) (count_of c.self.inside.index.pages) c.self.invariant
    (c.args.feature, c.args.key.now) c.args.after
    ∙ ap (λ (s : Registry). later_under (c.args.feature, c.args.key.now) c.args.after s.live) c.self.view_is

pub returns-clause-order : goal.returns-clause-order
returns-clause-order g c = order c.self.inside.given.items c.self.inside.index c.self.invariant c.args.self.now c.self.view_is
