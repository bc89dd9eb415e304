use Rattle.std.proofs.Common.{◌≡◌, Some, sym, ◌∙◌, ap}
use Rattle.std.specs.Option.{option_copied}
use Rattle.pe_frames.specs.declared.node.Node.{Node}
use Rattle.pe_frames.specs.Forest.{entry_of, node_of}
use Rattle.pe_engine.specs.declared.row.Row.{Row}
use Rattle.pe_engine.specs.StandsFor.{EngineValue}
use Rattle.pe_engine.proofs.CommonCauses.{some-of}
use Rattle.pe_engine.proofs.Queried.{page-found, top-found, top-live}
use Rattle.pe_engine.proofs.engine.Engine.page_of.Goals as goal

pub unwrap-requires : goal.unwrap-requires
unwrap-requires g c =
    let (x, found) = some-of (entry_of c.args.self.now.frames.entries c.args.h) c.requires.live in
    let es = c.self.inside.frames.entries in
    let here = ap (λ (v : EngineValue). entry_of v.frames.entries c.args.h) c.self.view_is ∙ found in
    let same = top-found es c.args.h c.unwrap-top.result x c.top.result here c.top.ensures c.unwrap-top.ensures in
    top-live es c.args.h c.unwrap-top.result x c.node.result here same (c.is_counted_in_tree_order.ensures.top c.args.h) c.node.ensures.value

pub returns : goal.returns
returns g c = λ H f s at.
    let e = c.args.self.now in
    let (x, found) = some-of (entry_of e.frames.entries c.args.h) c.requires.live in
    let here = ap (λ (v : EngineValue). entry_of v.frames.entries c.args.h) c.self.view_is ∙ found in
    let same = top-found c.self.inside.frames.entries c.args.h c.unwrap-top.result x c.top.result here c.top.ensures c.unwrap-top.ensures in
    let (m, there, paged) = page-found c.engine_laws.ensures.history e H f c.args.h x s at found in
    let z : Some c.unwrap.result.now ≡ Some m =
    sym (ap option_copied c.unwrap.ensures) ∙ c.node.ensures.value ∙ ap (λ (v : EngineValue). node_of v.frames.entries c.unwrap-top.result) c.self.view_is ∙ ap (node_of e.frames.entries) same ∙ there in
    let one : m ≡ c.unwrap.result.now = cc in
    paged ∙ ap (λ (n : Node Row). Some n.frame) one
