use Rattle.std.proofs.Common.{Some, None, option_and_then, sym, ◌∙◌, ap}
use Rattle.std.specs.Option.{option_copied}
use Rattle.pe_frames.specs.Forest.{entry_of, node_of, parent_of}
use Rattle.pe_engine.specs.StandsFor.{EngineValue}
use Rattle.pe_engine.proofs.CommonCauses.{some-of}
use Rattle.pe_engine.proofs.Navigated.{no-embedder, some-embedder, no-node, parent-is}
use Rattle.pe_engine.proofs.engine.Engine.embedder.Goals as goal

pub returns-in_default : goal.returns-in_default
returns-in_default g c = λ H f s at live.
    let e = c.args.self.now in
    let (y, found) = some-of (entry_of e.frames.entries c.args.h) live in
    no-embedder c.engine_laws.ensures.history e H f c.args.h y s at found
    (parent-is (entry_of e.frames.entries c.args.h) y None (ap (λ (v : EngineValue). option_and_then parent_of (entry_of v.frames.entries c.args.h)) (sym c.self.view_is) ∙ sym c.parent.ensures ∙ c.in_default.is) found)

pub returns-in_default-node : goal.returns-in_default-node
returns-in_default-node g c = λ H f s at live.
    let e = c.args.self.now in
    let (y, found) = some-of (entry_of e.frames.entries c.args.h) live in
    no-node c.engine_laws.ensures.history e H f c.args.h c.in-Some.parent y s at found
    (parent-is (entry_of e.frames.entries c.args.h) y (Some c.in-Some.parent) (ap (λ (v : EngineValue). option_and_then parent_of (entry_of v.frames.entries c.args.h)) (sym c.self.view_is) ∙ sym c.parent.ensures ∙ c.in-Some.is) found)
    (ap (λ (v : EngineValue). node_of v.frames.entries c.in-Some.parent) (sym c.self.view_is) ∙ sym c.node.ensures.value ∙ ap option_copied c.in_default-node.is)

pub returns : goal.returns
returns g c = λ H f s at live.
    let e = c.args.self.now in
    let (y, found) = some-of (entry_of e.frames.entries c.args.h) live in
    rw c.get.ensures (some-embedder c.engine_laws.ensures.history e H f c.args.h c.in-Some.parent y c.in-Some-node.node.now s at found
    (parent-is (entry_of e.frames.entries c.args.h) y (Some c.in-Some.parent) (ap (λ (v : EngineValue). option_and_then parent_of (entry_of v.frames.entries c.args.h)) (sym c.self.view_is) ∙ sym c.parent.ensures ∙ c.in-Some.is) found)
    (ap (λ (v : EngineValue). node_of v.frames.entries c.in-Some.parent) (sym c.self.view_is) ∙ sym c.node.ensures.value ∙ ap option_copied c.in-Some-node.is))
