use Rattle.std.proofs.Common.{ap, ◌∙◌, sym}
use Rattle.std.specs.Option.{option_map, option_copied}
use Rattle.pe_frames.specs.Forest.{entry_of}
use Rattle.pe_frames.specs.Kept.{position_of, standing_in}
use Rattle.pe_frames.proofs.Standings.{lent, standing-live}
use Rattle.pe_frames.proofs.frames.Frames.row.Goals as goal

pub unwrap-requires : goal.unwrap-requires
unwrap-requires g c =
    lent c.get.result (entry_of c.args.self.now.entries c.args.h) position_of (standing_in c.args.self.now.entries c.args.h) c.requires
    (ap (option_map position_of) c.get.ensures
    ∙ standing-live c.self.inside.rows c.self.inside.order.items c.self.inside.pages c.self.invariant.forest c.args.h
    ∙ ap (λ f. option_map (standing_in f.entries c.args.h) (entry_of f.entries c.args.h)) c.self.view_is)

pub returns : goal.returns
returns g c =
    sym (ap (option_map position_of) (sym (ap option_copied c.unwrap.ensures) ∙ c.get.ensures)
    ∙ standing-live c.self.inside.rows c.self.inside.order.items c.self.inside.pages c.self.invariant.forest c.args.h
    ∙ ap (λ f. option_map (standing_in f.entries c.args.h) (entry_of f.entries c.args.h)) c.self.view_is)
