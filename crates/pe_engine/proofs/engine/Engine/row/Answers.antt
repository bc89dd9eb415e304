use Rattle.std.proofs.Common.{sym, ◌∙◌, ap}
use Rattle.std.specs.Option.{option_copied}
use Rattle.pe_frames.specs.Forest.{node_of}
use Rattle.pe_engine.specs.StandsFor.{EngineValue}
use Rattle.pe_engine.proofs.CommonCauses.{shown-at}
use Rattle.pe_engine.proofs.engine.Engine.row.Goals as goal

pub returns-clause-shown : goal.returns-clause-shown
returns-clause-shown g c = λ H f s at. rw c.get.ensures (
    shown-at c.args.self.now H f c.args.h c.unwrap.result.now s at
    (ap (λ (v : EngineValue). node_of v.frames.entries c.args.h) (sym c.self.view_is) ∙ sym c.node.ensures.value ∙ ap option_copied c.unwrap.ensures))
