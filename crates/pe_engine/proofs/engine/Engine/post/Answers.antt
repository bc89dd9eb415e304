use Rattle.std.proofs.Common.{◌≡◌, ℕ, ◌+◌, Some, None, Ok, sym, ◌∙◌, ap, subst}
use Rattle.std.specs.Prelude.{IfSome}
use Rattle.pe_activation.specs.Stamps.{consumed}
use Rattle.pe_delegation.specs.Posted.{message}
use Rattle.pe_events.specs.declared.answer.Answer.TheVariants as answer
use Rattle.pe_events.specs.declared.event.Event.TheVariants as event
use Rattle.pe_events.specs.declared.reason.Reason.TheVariants as reason
use Rattle.pe_frames.specs.Forest.{Forest, entry_of, top_of}
use Rattle.pe_frames.specs.Walk.{changed_page}
use Rattle.pe_rules.specs.Replies.{post_reason, replied}
use Rattle.pe_engine.specs.declared.row.Row.{Row}
use Rattle.pe_engine.specs.Posting.{HasPosted}
use Rattle.pe_engine.specs.Replying.{timed, IsReplied}
use Rattle.pe_engine.specs.StandsFor.{EngineValue}
use Rattle.pe_engine.proofs.CommonCauses.{some-of}
use Rattle.pe_engine.proofs.Posting.{sender-shown, reason-any, post-answer, word-of, no-word, posted-reply}
use Rattle.pe_engine.proofs.engine.Engine.post.Goals as goal

pub returns-in_default : goal.returns-in_default
returns-in_default g c = λ H s.
    let e = c.args.self.now in
    let T = replied e.duration H in
    let look = c.in-Ok.ensures.lookup in
    let (d, shown) = sender-shown e H c.args.sender c.in-Ok.found.at s look.from look.live in
    let none = no-word c.args.named.now c.in-Ok.found.origin c.in_default.is look.worded in
    c.deny_post.ensures H c.args.sender c.args.target c.args.named.now c.args.capability.now s c.in-Ok.ensures.late (c.in-Ok.ensures.cause H s)
    (post-answer e.duration T c.args.now c.args.sender c.args.target d c.args.named.now c.args.capability.now (Some reason.TargetAny) shown
    (ap (λ w. post_reason e.duration T c.args.now d w c.args.capability.now) none ∙ reason-any e.duration T c.args.now d c.args.capability.now))

pub returns-in-Some-lacks : goal.returns-in-Some-lacks
returns-in-Some-lacks g c = λ H s.
    let e = c.args.self.now in
    let T = replied e.duration H in
    let look = c.in-Ok.ensures.lookup in
    let (d, shown) = sender-shown e H c.args.sender c.in-Ok.found.at s look.from look.live in
    let (word, is) = word-of c.args.named.now c.in-Ok.found.origin c.in-Some.origin c.in-Some.is look.worded in
    c.deny_post-in-Some-lacks.ensures H c.args.sender c.args.target c.args.named.now c.args.capability.now s c.in-Ok.ensures.late (c.in-Ok.ensures.cause H s)
    (post-answer e.duration T c.args.now c.args.sender c.args.target d c.args.named.now c.args.capability.now (Some c.in-Some-lacks.reason) shown
    (ap (λ w. post_reason e.duration T c.args.now d w c.args.capability.now) is ∙ sym (c.lacks.ensures H c.args.sender d word c.args.capability.now s look.from shown look.delegated) ∙ c.in-Some-lacks.is))

pub returns : goal.returns
returns g c = λ H s.
    let e = c.args.self.now in
    let T = replied e.duration H in
    let look = c.in-Ok.ensures.lookup in
    let x = c.in-Ok.found in
    let m = message x.page x.target c.in-Some.origin x.capability in
    let h = x.at in
    let p = c.pass.new.self in
    let N = c.consume.new.frames in
    let u = c.add_message.new.self in
    let (d, shown) = sender-shown e H c.args.sender h s look.from look.live in
    let (word, is) = word-of c.args.named.now x.origin c.in-Some.origin c.in-Some.is look.worded in
    let (y, there) = some-of (entry_of e.frames.entries h) look.live in
    let frames = ap (λ (v : EngineValue). v.frames) c.self.view_is ∙ ap (λ (v : EngineValue). v.frames) c.in_ok-before.ensures.rest in
    let clause = subst (λ (v : Forest Row). IfSome (entry_of v.entries h) (λ z. N.entries ≡ changed_page (consumed (λ (r : Row). r.stamp) (λ t (r : Row). record r { stamp = t })) v.entries (top_of z))) frames c.consume.ensures.entries in
    let entries = subst (λ o. IfSome o (λ z. N.entries ≡ changed_page (consumed (λ (r : Row). r.stamp) (λ t (r : Row). record r { stamp = t })) e.frames.entries (top_of z))) there clause in
    let says = post-answer e.duration T c.args.now c.args.sender c.args.target d c.args.named.now c.args.capability.now None shown
    (ap (λ w. post_reason e.duration T c.args.now d w c.args.capability.now) is ∙ sym (c.lacks.ensures H c.args.sender d word c.args.capability.now s look.from shown look.delegated) ∙ c.in_default-lacks.is)
    ∙ ap answer.MessageMade (sym (look.number ∙ ap (λ k. k + 1) s.steps.tree.count)) in
    subst (λ (k : ℕ). IsReplied e u H (timed c.args.now (event.Post c.args.sender c.args.target c.args.named.now c.args.capability.now)) (Ok (record { before = c.in_ok-before.before; answer = answer.MessageMade k; after = c.new.result })))
    (sym c.in_ok-message.ensures.number)
    (posted-reply c.engine_laws.ensures e p u H c.args.now c.args.sender c.args.target x.number c.args.named.now c.args.capability.now h y m N c.in_ok-before.before c.new.result s (c.in_ok-before.ensures.passed H s c.in-Ok.ensures.late)
    c.in_ok-before.ensures.rest
    (subst (λ (v : EngineValue). HasPosted v u c.args.now x.number m) (ap (λ (v : EngineValue). record v { frames = N }) c.self.view_is) c.in_ok-message.ensures.posted)
    (c.in-Ok.ensures.cause H s) says
    (record { page = c.in-Ok.ensures.page H s; document = c.in-Ok.ensures.document H s; origin = sym look.origin ∙ c.in-Some.is; delegated = look.delegated })
    look.to look.from there entries (c.consume.ensures.marks ∙ ap (λ (f : Forest Row). f.marks) frames) c.new.ensures.items)
