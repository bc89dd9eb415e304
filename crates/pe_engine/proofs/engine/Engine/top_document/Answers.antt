use Rattle.std.proofs.Common.{◌≡◌, Some, sym, ◌∙◌, ap}
use Rattle.std.specs.Option.{option_copied}
use Rattle.pe_frames.specs.Forest.{entry_of, node_in, node_of}
use Rattle.pe_engine.specs.Objects.{handle_at}
use Rattle.pe_engine.specs.StandsFor.{EngineValue}
use Rattle.pe_engine.proofs.CommonCauses.{shown-at}
use Rattle.pe_engine.proofs.Stored.{unmade-shows-none, closed-shows-none, unmapped-none}
use Rattle.pe_engine.proofs.engine.Engine.top_document.Goals as goal

pub returns-in_err-h : goal.returns-in_err-h
returns-in_err-h g c = λ H s.
    let e = c.args.self.now in
    c.from_residual.ensures ∙ sym (unmade-shows-none c.engine_laws.ensures.history e H c.args.page s (ap (handle_at e.made) (sym c.get.ensures.value) ∙ sym c.handle.ensures ∙ c.in_err-h.was))

pub returns-in_err-node : goal.returns-in_err-node
returns-in_err-node g c = λ H s.
    let e = c.args.self.now in
    let h = c.in_ok-h.h in
    let at = ap (handle_at e.made) (sym c.get.ensures.value) ∙ sym c.handle.ensures ∙ c.in_ok-h.was in
    let gone = ap (λ (v : EngineValue). entry_of v.frames.entries h) (sym c.self.view_is) ∙ unmapped-none node_in (entry_of c.self.inside.frames.entries h) (sym c.node.ensures.value ∙ ap option_copied c.in_err-node.was) in
    c.from_residual-in_err-node.ensures ∙ sym (closed-shows-none c.engine_laws.ensures.history e H c.args.page h s at gone)

pub returns : goal.returns
returns g c = λ H s.
    let e = c.args.self.now in
    let h = c.in_ok-h.h in
    let at = ap (handle_at e.made) (sym c.get.ensures.value) ∙ sym c.handle.ensures ∙ c.in_ok-h.was in
    let node = ap (λ (v : EngineValue). node_of v.frames.entries h) (sym c.self.view_is) ∙ sym c.in_ok-node.ensures.value in
    rw c.get-2.ensures (sym ((shown-at e H c.args.page h c.in_ok-node.node.now s at node).document))
