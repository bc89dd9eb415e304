use Rattle.std.proofs.Common.{Some, refl, sym, ◌∙◌}
use Rattle.pe_frames.specs.Forest.{entry_of}
use Rattle.pe_frames.specs.Kept.{position_of}
use Rattle.pe_frames.proofs.Standings.{some-unless, stands-at}
use Rattle.pe_frames.proofs.Under.{tree-seen, handles-live}
use Rattle.pe_frames.proofs.Climbing.{within-of, within-dead, follows-first, follows-past}
use Rattle.pe_frames.proofs.frames.Frames.preorder_following.Goals as goal

pub row-row-requires : goal.row-row-requires
row-row-requires g c =
    let es = c.args.self.now.entries in
    let tree = tree-seen c.self.inside.rows c.self.inside.order.items c.self.inside.pages c.self.invariant.forest c.args.self.now c.self.view_is in
    let within = within-of es c.args.root c.args.at (handles-live es tree c.args.root c.args.at c.requires.under) in
    some-unless (entry_of es c.args.at) (within-dead es c.args.root c.args.at within)

pub past-requires : goal.past-requires
past-requires g c =
    let es = c.args.self.now.entries in
    let tree = tree-seen c.self.inside.rows c.self.inside.order.items c.self.inside.pages c.self.invariant.forest c.args.self.now c.self.view_is in
    record {
      under = within-of es c.args.root c.args.at (handles-live es tree c.args.root c.args.at c.requires.under);
      row = c.row-row.ensures;
    }

pub returns-then-is_some : goal.returns-then-is_some
returns-then-is_some g c =
    let es = c.args.self.now.entries in
    let place = position_of c.row-row.result.now in
    let tree = tree-seen c.self.inside.rows c.self.inside.order.items c.self.inside.pages c.self.invariant.forest c.args.self.now c.self.view_is in
    let within = within-of es c.args.root c.args.at (handles-live es tree c.args.root c.args.at c.requires.under) in
    let at = stands-at es c.args.at (Some place) place refl (sym c.row-row.ensures) in
    record { value = follows-first es tree c.args.root c.args.at place within at (sym c.is_some.ensures ∙ c.if-is_some.true) }

pub returns : goal.returns
returns g c =
    let es = c.args.self.now.entries in
    let place = position_of c.row-row.result.now in
    let tree = tree-seen c.self.inside.rows c.self.inside.order.items c.self.inside.pages c.self.invariant.forest c.args.self.now c.self.view_is in
    let within = within-of es c.args.root c.args.at (handles-live es tree c.args.root c.args.at c.requires.under) in
    let at = stands-at es c.args.at (Some place) place refl (sym c.row-row.ensures) in
    record { value = follows-past es tree c.args.root c.args.at place within at (sym c.is_some.ensures ∙ c.if-is_some.false) c.past.result c.past.ensures }
