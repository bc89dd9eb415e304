use Rattle.std.proofs.Common.{◌≡◌, Some, None, sym, ◌∙◌, ap, subst, true≢false}
use Rattle.std.specs.Option.{option_or}
use Rattle.pe_store.specs.declared.key.Key.{Key}
use Rattle.pe_prompts.specs.Pending.{pair_of}
use Rattle.pe_events.specs.declared.cause.Cause.TheVariants as cause
use Rattle.pe_events.specs.declared.event.Event.TheVariants as event
use Rattle.pe_rules.specs.History.{some_if}
use Rattle.pe_rules.specs.Replies.{replied}
use Rattle.pe_engine.specs.Prompting.{IsDecided, FitsStore}
use Rattle.pe_engine.specs.Replying.{timed}
use Rattle.pe_engine.proofs.Answering.{checked-for}
use Rattle.pe_engine.proofs.CausesParts.{first-time, then-named, then-other}
use Rattle.pe_engine.proofs.Prompted.{other-answer}
use Rattle.pe_engine.proofs.Storing.{fits-store}
use Rattle.pe_engine.proofs.engine.Engine.check_answer.Goals as goal

pub returns-in_err-next-clause-checked : goal.returns-in_err-next-clause-checked
returns-in_err-next-clause-checked g c = λ H s. checked-for c.args.self.now H (timed c.args.now (event.Answered c.args.number c.args.outcome c.args.life)) _ c.from_residual.result c.from_residual.ensures.1 (first-time _ _ _ _ (c.in_err-next.ensures.cause H s))

pub returns-in-Err-clause-checked : goal.returns-in-Err-clause-checked
returns-in-Err-clause-checked g c = λ H s. then-named _ _ _ _ (c.in_ok-next.ensures.none H s) (c.in-Err.ensures.cause H c.args.outcome c.args.life s)

pub returns-then-exceeds_by-clause-checked : goal.returns-then-exceeds_by-clause-checked
returns-then-exceeds_by-clause-checked g c = λ H s.
    let T = replied c.args.self.now.duration H in
    let k = c.args.number in
    let decided = c.decided-set.ensures.decided H k s c.in_ok-next.ensures.late c.in-Ok.ensures.at in
    then-other T c.args.now (event.Answered k c.args.outcome c.args.life) (c.in_ok-next.ensures.none H s) (c.in-Ok.ensures.none H c.args.outcome c.args.life s)
    ∙ other-answer T c.args.now k c.args.outcome c.args.life (pair_of c.in-Ok.asked.now) c.decided-set.result decided.setting
    ∙ ap (λ b. option_or (some_if b cause.LimitStore) None) (sym (c.exceeds_by.ensures.limit H s) ∙ c.if-exceeds_by.true)

pub returns-clause-checked : goal.returns-clause-checked
returns-clause-checked g c = λ H s.
    let T = replied c.args.self.now.duration H in
    let k = c.args.number in
    let decided = c.decided-set.ensures.decided H k s c.in_ok-next.ensures.late c.in-Ok.ensures.at in
    then-other T c.args.now (event.Answered k c.args.outcome c.args.life) (c.in_ok-next.ensures.none H s) (c.in-Ok.ensures.none H c.args.outcome c.args.life s)
    ∙ other-answer T c.args.now k c.args.outcome c.args.life (pair_of c.in-Ok.asked.now) c.decided-set.result decided.setting
    ∙ ap (λ b. option_or (some_if b cause.LimitStore) None) (sym (c.exceeds_by.ensures.limit H s) ∙ c.if-exceeds_by.false)

pub returns-clause-decided : goal.returns-clause-decided
returns-clause-decided g c = λ H s.
    subst (λ (key : Key). IsDecided (replied c.args.self.now.duration H) c.args.now c.args.number c.args.outcome c.args.life (c.in-Ok.asked.now.feature, key) c.decided-set.result) (sym c.in_ok-key.ensures)
    (c.decided-set.ensures.decided H c.args.number s c.in_ok-next.ensures.late c.in-Ok.ensures.at)

pub returns-clause-fits : goal.returns-clause-fits
returns-clause-fits g c = λ later is.
    let p = c.in-Ok.asked.now in
    subst (λ (key : Key). FitsStore later (p.feature, key) c.decided-set.result) (sym c.in_ok-key.ensures)
    (fits-store later (pair_of p) c.decided-set.result (λ none. c.decided-set.ensures.dismissed none later is)
    (λ x some full. absurd (true≢false (sym (c.exceeds_by.ensures.room x c.args.now later some is full) ∙ c.if-exceeds_by.false))))
