use Rattle.std.proofs.Common.{ap, ◌∙◌, sym}
use Rattle.std.specs.Option.{option_map, option_copied}
use Rattle.pe_frames.specs.Forest.{node_of}
use Rattle.pe_frames.proofs.Nodes.{found-live}
use Rattle.pe_frames.proofs.frames.Frames.find.Goals as goal

pub returns-in_err-row-clause-value : goal.returns-in_err-row-clause-value
returns-in_err-row-clause-value g c =
    ap option_copied c.from_residual.ensures
    ∙ ap (option_map (λ r. r.node)) (sym (ap option_copied c.in_err-row.was) ∙ c.get.ensures)
    ∙ found-live c.self.inside.rows c.self.inside.order.items c.args.h c.self.invariant.forest.listed c.self.invariant.forest.nodes
    ∙ ap (λ f. node_of f.entries c.args.h) c.self.view_is

pub returns-clause-value : goal.returns-clause-value
returns-clause-value g c =
    ap (option_map (λ r. r.node)) (sym (ap option_copied c.in_ok-row.was) ∙ c.get.ensures)
    ∙ found-live c.self.inside.rows c.self.inside.order.items c.args.h c.self.invariant.forest.listed c.self.invariant.forest.nodes
    ∙ ap (λ f. node_of f.entries c.args.h) c.self.view_is

pub returns-clause-depth : goal.returns-clause-depth
returns-clause-depth g c =
    c.self.invariant.forest.shallow c.args.h c.in_ok-row.row.now.node (ap (option_map (λ r. r.node)) (sym (sym (ap option_copied c.in_ok-row.was) ∙ c.get.ensures)))
