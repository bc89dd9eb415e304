use Rattle.std.proofs.Common.{[], ◌∷◌, ◌++◌, ◌∙◌, ap}
use Rattle.pe_status.specs.Registry.{without}
use Rattle.pe_events.specs.declared.event.Event.TheVariants as event
use Rattle.pe_rules.specs.Replies.{replied}
use Rattle.pe_engine.specs.declared.engine.Made.TheVariants as made
use Rattle.pe_engine.specs.StandsFor.{EngineValue}
use Rattle.pe_engine.proofs.Answering.{replied-for}
use Rattle.pe_engine.proofs.CausesParts.{first-time, then-named, then-other}
use Rattle.pe_engine.proofs.Queried.{other-drop, drop-reply}
use Rattle.pe_engine.proofs.engine.Engine.drop_status.Goals as goal

pub returns-in_err-next : goal.returns-in_err-next
returns-in_err-next g c = λ H s. replied-for _ H _ _ c.from_residual.result c.from_residual.ensures.1 (first-time _ _ _ _ (c.in_err-next.ensures.cause H s))

pub returns-in_err-status : goal.returns-in_err-status
returns-in_err-status g c = λ H s.
    replied-for _ H _ _ c.from_residual-in_err-status.result c.from_residual-in_err-status.ensures.1 (then-named _ _ _ _ (c.in_ok-next.ensures.none H s) (c.in_err-status.ensures.cause H s))

pub returns : goal.returns
returns g c = λ H s.
    let e = c.args.self.now in
    let T = replied e.duration H in
    let k = c.args.number in
    let N = c.release.new.self in
    drop-reply c.engine_laws.ensures e c.pass.new.self c.note.new.self H c.args.now k N c.in_ok-before.before c.new.result s (c.in_ok-before.ensures.passed H s c.in_ok-next.ensures.late) c.in_ok-before.ensures.rest
    (c.release.ensures.live ∙ ap (λ n. without n c.self.inside.statuses.live) c.in_ok-status.ensures.number ∙ ap (λ (v : EngineValue). without k v.statuses.live) c.self.view_is ∙ ap (λ (v : EngineValue). without k v.statuses.live) c.in_ok-before.ensures.rest)
    (c.release.ensures.given ∙ ap (λ (v : EngineValue). v.statuses.given) c.self.view_is ∙ ap (λ (v : EngineValue). v.statuses.given) c.in_ok-before.ensures.rest)
    (c.in_ok-note.ensures.ok ∙ ap (λ (v : EngineValue). record v { clock = c.args.now; made = v.made ++ made.Nothing ∷ []; statuses = N }) c.self.view_is)
    (then-other T c.args.now (event.DropStatus k) (c.in_ok-next.ensures.none H s) (c.in_ok-status.ensures.none H s) ∙ other-drop T c.args.now k) c.new.ensures.items
