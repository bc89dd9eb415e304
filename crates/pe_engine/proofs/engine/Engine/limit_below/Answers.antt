use Rattle.std.proofs.Common.{◌≤◌, ◌<◌, option_map, sym, ◌∙◌, ap, arith}
use Rattle.std.proofs.lemmas.Bool.Decides.{nat_tests}
use Rattle.std.specs.Option.{option_copied}
use Rattle.pe_frames.specs.Forest.{entry_of, node_of, page_size, top_of}
use Rattle.pe_rules.specs.Causes.{count_in_page, live_frames}
use Rattle.pe_rules.specs.Embedders.{depth}
use Rattle.pe_rules.specs.Replies.{replied}
use Rattle.pe_engine.specs.StandsFor.{EngineValue}
use Rattle.pe_engine.proofs.CommonCauses.{some-of}
use Rattle.pe_engine.proofs.VerbAnswers.{limit-depth, limit-frames, limit-none, limits-at, node-depth, size-found}
use Rattle.pe_engine.proofs.engine.Engine.limit_below.Goals as goal

pub returns-then-unwrap-ge-DEPTH_LIMIT : goal.returns-then-unwrap-ge-DEPTH_LIMIT
returns-then-unwrap-ge-DEPTH_LIMIT g c = λ H f s at.
    let e = c.args.self.now in
    let T = replied e.duration H in
    let (x, found) = some-of (entry_of e.frames.entries c.args.h) c.requires.live in
    let (deep, sized) = limits-at e H f c.args.h x s at found in
    let told = node-depth (entry_of e.frames.entries c.args.h) c.unwrap.result.now x (ap (λ (v : EngineValue). node_of v.frames.entries c.args.h) (sym c.self.view_is) ∙ sym c.node.ensures.value ∙ ap option_copied c.unwrap.ensures) found in
    let many : 64 ≤ c.unwrap.result.now.depth = c.if-unwrap-ge-DEPTH_LIMIT.true in
    limit-depth (depth T f) (count_in_page T f (live_frames T)) (grind (arith, nat_tests))

pub returns-then-unwrap-ge-FRAME_LIMIT : goal.returns-then-unwrap-ge-FRAME_LIMIT
returns-then-unwrap-ge-FRAME_LIMIT g c = λ H f s at.
    let e = c.args.self.now in
    let T = replied e.duration H in
    let (x, found) = some-of (entry_of e.frames.entries c.args.h) c.requires.live in
    let (deep, sized) = limits-at e H f c.args.h x s at found in
    let told = node-depth (entry_of e.frames.entries c.args.h) c.unwrap.result.now x (ap (λ (v : EngineValue). node_of v.frames.entries c.args.h) (sym c.self.view_is) ∙ sym c.node.ensures.value ∙ ap option_copied c.unwrap.ensures) found in
    let few : c.unwrap.result.now.depth < 64 = c.if-unwrap-ge-DEPTH_LIMIT.false in
    let size = size-found e.frames.entries c.args.h x c.unwrap-2.result found (ap (λ (v : EngineValue). option_map (λ y. page_size v.frames.entries (top_of y)) (entry_of v.frames.entries c.args.h)) (sym c.self.view_is) ∙ sym c.page_size.ensures.value ∙ c.unwrap-2.ensures) in
    let many : 256 ≤ c.unwrap-2.result = c.if-unwrap-ge-FRAME_LIMIT.true in
    limit-frames (depth T f) (count_in_page T f (live_frames T)) (grind (arith, nat_tests)) (grind (arith, nat_tests))

pub returns : goal.returns
returns g c = λ H f s at.
    let e = c.args.self.now in
    let T = replied e.duration H in
    let (x, found) = some-of (entry_of e.frames.entries c.args.h) c.requires.live in
    let (deep, sized) = limits-at e H f c.args.h x s at found in
    let told = node-depth (entry_of e.frames.entries c.args.h) c.unwrap.result.now x (ap (λ (v : EngineValue). node_of v.frames.entries c.args.h) (sym c.self.view_is) ∙ sym c.node.ensures.value ∙ ap option_copied c.unwrap.ensures) found in
    let few : c.unwrap.result.now.depth < 64 = c.if-unwrap-ge-DEPTH_LIMIT.false in
    let size = size-found e.frames.entries c.args.h x c.unwrap-2.result found (ap (λ (v : EngineValue). option_map (λ y. page_size v.frames.entries (top_of y)) (entry_of v.frames.entries c.args.h)) (sym c.self.view_is) ∙ sym c.page_size.ensures.value ∙ c.unwrap-2.ensures) in
    let room : c.unwrap-2.result < 256 = c.if-unwrap-ge-FRAME_LIMIT.false in
    limit-none (depth T f) (count_in_page T f (live_frames T)) (grind (arith, nat_tests)) (grind (arith, nat_tests))
