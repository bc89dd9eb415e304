use Rattle.std.proofs.Common.{ap, ◌∙◌, sym}
use Rattle.std.specs.Option.{option_map, option_copied}
use Rattle.pe_frames.specs.Forest.{entry_of}
use Rattle.pe_frames.specs.Kept.{position_of, standing_in}
use Rattle.pe_frames.proofs.Standings.{standing-live}
use Rattle.pe_frames.proofs.frames.Frames.standing.Goals as goal

pub returns-in_err-row-clause-value : goal.returns-in_err-row-clause-value
returns-in_err-row-clause-value g c =
    c.from_residual.ensures
    ∙ ap (option_map position_of) (sym (ap option_copied c.in_err-row.was) ∙ c.get.ensures)
    ∙ standing-live c.self.inside.rows c.self.inside.order.items c.self.inside.pages c.self.invariant.forest c.args.h
    ∙ ap (λ f. option_map (standing_in f.entries c.args.h) (entry_of f.entries c.args.h)) c.self.view_is

pub returns-clause-value : goal.returns-clause-value
returns-clause-value g c =
    ap (option_map position_of) (sym (ap option_copied c.in_ok-row.was) ∙ c.get.ensures)
    ∙ standing-live c.self.inside.rows c.self.inside.order.items c.self.inside.pages c.self.invariant.forest c.args.h
    ∙ ap (λ f. option_map (standing_in f.entries c.args.h) (entry_of f.entries c.args.h)) c.self.view_is
